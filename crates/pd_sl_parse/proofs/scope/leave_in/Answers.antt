use Rattle.std.proofs.Common.{sym, ◌∙◌}
use Rattle.pd_sl_parse.proofs.Scoping.{block_kept, block_left, no_block}
use Rattle.pd_sl_parse.proofs.scope.leave_in.Goals as goal

pub returns-then-at-end : goal.returns-then-at-end
returns-then-at-end c = block_kept c.args.at c.in-Some.end c.loop-end.blocks.items c.pop.new.self.items _ c.in-Some.ensures.items c.in_ok-push.ensures.items c.if-at-end.true ∙ c.loop-end.invariant

pub loop-end-preserved : goal.loop-end-preserved
loop-end-preserved c = block_left c.args.at c.in-Some.end c.loop-end.blocks.items c.pop.new.self.items c.in-Some.ensures.items c.if-at-end.false ∙ c.loop-end.invariant

pub returns : goal.returns
returns c = no_block c.args.at c.loop-end.blocks.items c.pop.new.self.items (sym c.loop-end.blocks.ok.0 ∙ c.in_default.ensures.cases.0) c.in_default.ensures.items ∙ c.loop-end.invariant
