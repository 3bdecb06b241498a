use Rattle.std.proofs.Common.{◌≡◌, ◌==◌, ◌&&◌, ◌/◌, ◌%◌, ◌+◌, ℕ, nat_lt, slice_index}
use Rattle.std.specs.Int.{bit_at}
use Rattle.pd_board.specs.Chain.{has}
use Rattle.pd_board.proofs.bits.NodeBits.chain.Given as goal

abbrev pub invariant-loop-row : goal.invariant-loop-row
invariant-loop-row l = (b : ℕ) → has l.chain b ≡ (nat_lt (b / 64) l.row && bit_at (slice_index l.self.words.items (l.first + b / 64)) (b % 64) == 1)
