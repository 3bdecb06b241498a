use Rattle.std.proofs.Common.{arith, rules}
use Rattle.std.proofs.lemmas.Grind.{common_steps}
use Rattle.pd_board.proofs.StandLemmas.{stands-set_read}
use Rattle.pd_shared.specs.Matching.{stands}
use Rattle.pd_shared.proofs.matching.Matching.set.Goals as goal

pub returns-clause-set : goal.returns-clause-set
unfolding stands
returns-clause-set c m d =
    stands-set_read c.args.self.now.width c.args.self.now.words.items c.args.n c.args.b c.index_mut.result.now m d (search rules) (search rules) (grind (arith, common_steps, c.index_mut.ensures.value))
