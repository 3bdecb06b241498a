use Rattle.std.proofs.Common.{◌/◌, replicate}
use Rattle.pd_board.specs.Chain.{has}
use Rattle.pd_board.proofs.ChainLemmas.{summed_new, held_none, zeros}
use Rattle.pd_board.proofs.chain.Chain.new.Goals as goal

pub invariant_of-result : goal.invariant_of-result
invariant_of-result c = record { summed = summed_new }

pub returns : goal.returns
unfolding has
returns c b = held_none (replicate 64 0) b (zeros 64 (b / 64))
