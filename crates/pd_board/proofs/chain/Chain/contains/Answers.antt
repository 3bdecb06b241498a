use Rattle.std.proofs.Common.{ap, ◌==◌}
use Rattle.std.proofs.lemmas.Nat.Bits.{shr_and_one}
use Rattle.pd_board.specs.Chain.{has}
use Rattle.pd_board.proofs.chain.Chain.contains.Goals as goal

pub returns : goal.returns
unfolding has
returns c = ap (λ n. n == 1) (shr_and_one _ _)
