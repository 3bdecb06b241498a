use Rattle.std.proofs.Common.{refl, sym, ◌∙◌, append-nil, arith}
use Rattle.pd_load.proofs.Scopes.{ends_stop, ends_more, ends_all, no_items}
use Rattle.pd_load.proofs.scope.Scope.end.Goals as goal

pub returns-then-last-gt0 : goal.returns-then-last-gt0
returns-then-last-gt0 c =
    ends_stop c.loop-last.self _ c.pop.new.self.items c.in-Some.last c.in-Some.ensures.items c.args.self.now (omega arith) refl c.in_ok-push.ensures.items c.loop-last.invariant

pub loop-last-preserved : goal.loop-last-preserved
loop-last-preserved c =
    ends_more c.loop-last.self _ c.pop.new.self.items c.in-Some.last c.in-Some.ensures.items _ (omega arith) c.truncate.ensures.items refl c.loop-last.invariant

pub returns : goal.returns
returns c =
    let empty = no_items c.loop-last.self.unfinished.items (sym c.loop-last.self.unfinished.ok.0 ∙ c.in_default.ensures.cases.0) in
    ends_all c.args.self.now c.loop-last.self _ empty refl (sym (append-nil c.pop.new.self.items) ∙ sym c.in_default.ensures.items ∙ empty) c.loop-last.invariant
