-- Definition, which public contracts cite.
-- Which bindings a chain has.
use Rattle.std.specs.Prelude.{ℕ, ◌/◌, ◌%◌, ◌==◌, Bool, slice_index}
use Rattle.std.specs.Int.{bit_at}
use Rattle.pd_board.specs.declared.chain.Chain.{Chain}

-- whether the chain has the binding: its bit in the word of its 64 bindings
unfoldable pub has : Chain → ℕ → Bool
has c b = bit_at (slice_index c.words (b / 64)) (b % 64) == 1
