use Rattle.std.proofs.Common.{sym, ap, ◌∙◌}
use Rattle.pd_sl_read.proofs.Stacks.{assignment_done, other_kept, none_kept}
use Rattle.pd_sl_read.proofs.reader.Reader.end_assignments.Goals as goal

pub loop-top-preserved : goal.loop-top-preserved
loop-top-preserved c = record {
  mode = ap (λ h. h.mode) c.in_ok-fold_expression.ensures ∙ ap (λ h. h.mode) c.in_ok-push-2.ensures ∙ ap (λ h. h.mode) c.self.view_is ∙ c.loop-top.invariant.mode;
  rest = assignment_done c.args.at c.in-Assignment.levels c.in-Some.top c.self.inside.stack.items c.pop.new.self.items c.self.inside.mode c.self.inside.nodes.items c.loop-top.self c.push-in-Some.new.self c.fold_expression.new.self
      c.in-Some.ensures.items c.in-Assignment.is c.self.view_is c.in_ok-push-2.ensures c.in_ok-fold_expression.ensures
      ∙ c.loop-top.invariant.rest;
}

pub returns-in_default-top : goal.returns-in_default-top
returns-in_default-top c = record {
  mode = ap (λ h. h.mode) c.self.view_is ∙ c.loop-top.invariant.mode;
  rest = sym c.loop-top.invariant.rest ∙ other_kept c.args.at c.in-Some.top c.self.inside.stack.items c.pop.new.self.items c.push.new.self.items c.self.inside.mode c.self.inside.nodes.items c.loop-top.self
      c.in_default-top.not-Assignment c.in-Some.ensures.items c.in_ok-push.ensures.items c.self.view_is;
}

pub returns-clause-rest : goal.returns-clause-rest
returns-clause-rest c =
    sym c.loop-top.invariant.rest ∙ none_kept c.args.at c.self.inside.stack.items c.pop.new.self.items c.self.inside.mode c.self.inside.nodes.items c.loop-top.self
    (sym c.self.inside.stack.ok.0 ∙ c.in_default.ensures.cases.0) c.in_default.ensures.items c.self.view_is
