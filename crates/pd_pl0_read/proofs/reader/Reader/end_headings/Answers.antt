use Rattle.std.proofs.Common.{sym, ap, ◌∙◌}
use Rattle.pd_pl0_read.specs.Places.{node}
use Rattle.std.proofs.Common.{◌++◌, ◌∷◌, []}
use Rattle.pd_pl0_read.proofs.Stacks.{heading_done, other_kept, none_kept}
use Rattle.pd_pl0_read.proofs.reader.Reader.end_headings.Goals as goal

pub returns-in_default-top : goal.returns-in_default-top
returns-in_default-top c = record {
  rest = sym c.loop-top.invariant.rest ∙ other_kept c.args.at c.in-Some.top c.self.inside.stack.items c.pop.new.self.items c.push.new.self.items c.self.inside.nodes.items c.loop-top.self
      c.in_default-top.not-Heading c.in-Some.ensures.items c.in_ok-push.ensures.items (ap (λ h. h.stack) c.self.view_is) (ap (λ h. h.nodes) c.self.view_is);
  blocks = ap (λ h. h.blocks) c.self.view_is ∙ c.loop-top.invariant.blocks;
  constant = ap (λ h. h.constant) c.self.view_is ∙ c.loop-top.invariant.constant;
}

pub loop-top-preserved : goal.loop-top-preserved
loop-top-preserved c = record {
  rest = heading_done c.args.at c.in-Heading.keyword c.in-Heading.first c.in-Some.top c.self.inside.stack.items c.pop.new.self.items c.push-in-Some.new.self.stack c.self.inside.nodes.items c.push-in-Some.new.self.nodes c.loop-top.self
      c.in-Some.ensures.items c.in-Heading.is (ap (λ h. h.stack) c.self.view_is) (ap (λ h. h.nodes) c.self.view_is)
      (ap (λ h. h.stack) c.in_ok-push-2.ensures) (ap (λ h. h.nodes) c.in_ok-push-2.ensures ∙ ap (λ s. c.self.inside.nodes.items ++ node s c.in-Heading.first c.args.at 2 ∷ []) c.heading_shape.ensures)
      ∙ c.loop-top.invariant.rest;
  blocks = ap (λ h. h.blocks) c.in_ok-push-2.ensures ∙ ap (λ h. h.blocks) c.self.view_is ∙ c.loop-top.invariant.blocks;
  constant = ap (λ h. h.constant) c.in_ok-push-2.ensures ∙ ap (λ h. h.constant) c.self.view_is ∙ c.loop-top.invariant.constant;
}

pub returns-clause-rest : goal.returns-clause-rest
returns-clause-rest c =
    sym c.loop-top.invariant.rest ∙ none_kept c.args.at c.self.inside.stack.items c.pop.new.self.items c.self.inside.nodes.items c.loop-top.self
    (sym c.self.inside.stack.ok.0 ∙ c.in_default.ensures.cases.0) c.in_default.ensures.items (ap (λ h. h.stack) c.self.view_is) (ap (λ h. h.nodes) c.self.view_is)
