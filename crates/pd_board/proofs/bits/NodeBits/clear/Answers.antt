use Rattle.std.proofs.Common.{arith, rules}
use Rattle.std.proofs.lemmas.Grind.{common_steps}
use Rattle.pd_board.specs.NodeBits.{stands}
use Rattle.pd_board.proofs.StandLemmas.{stands-clear_read}
use Rattle.pd_board.proofs.bits.NodeBits.clear.Goals as goal

pub returns-clause-clear : goal.returns-clause-clear
unfolding stands
returns-clause-clear c m d =
    stands-clear_read c.args.self.now.width c.args.self.now.words.items c.args.n c.args.b c.index_mut.result.now m d (search rules) (search rules) (grind (arith, common_steps, c.index_mut.ensures.value))
