use Rattle.std.proofs.Common.{arith, ◌∙◌}
use Rattle.std.proofs.lemmas.Grind.{common_steps}
use Rattle.pd_board.specs.NodeBits.{stands}
use Rattle.pd_board.proofs.StandLemmas.{chain_step, chain_end}
use Rattle.pd_board.proofs.bits.NodeBits.chain.Goals as goal

pub loop-row-preserved : goal.loop-row-preserved
loop-row-preserved c b =
    c.set_row.ensures b ∙ chain_step c.args.self.now.words.items _ c.loop-row.row c.index.result.now b _ (grind (arith, common_steps, c.index.ensures)) (c.loop-row.invariant b)

pub returns : goal.returns
unfolding stands
returns c b = c.loop-row.invariant b ∙ chain_end c.args.self.now.width c.loop-row.row b _ (omega arith)
