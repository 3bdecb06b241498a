use Rattle.std.proofs.Common.{sym, ◌∙◌}
use Rattle.pd_turn.proofs.Turns.{part_left, part_last, part_none}
use Rattle.pd_turn.proofs.part_done.Goals as goal

pub returns-then-top-gt1 : goal.returns-then-top-gt1
returns-then-top-gt1 g c = part_left c.loop-top.unfinished.items _ c.pop.new.self.items c.in-Some.top c.loop-top.done.items c.in-Some.ensures.items c.if-top-gt1.true c.in_ok-push.ensures.items ∙ c.loop-top.invariant

pub loop-top-preserved : goal.loop-top-preserved
loop-top-preserved g c = part_last c.loop-top.unfinished.items c.pop.new.self.items c.in-Some.top c.loop-top.done.items _ c.in-Some.ensures.items c.if-top-gt1.false c.in_ok-push-2.ensures.items ∙ c.loop-top.invariant

pub returns : goal.returns
returns g c = part_none c.loop-top.unfinished.items c.pop.new.self.items c.loop-top.done.items (sym c.loop-top.unfinished.ok.0 ∙ c.in_default.ensures.cases.0) c.in_default.ensures.items ∙ c.loop-top.invariant
