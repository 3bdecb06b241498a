-- `IsWithin` is a definition, which a contract cites; the rest is for proofs.
-- How the bits of nodes go with the rows of bindings and with their lives.
use Rattle.std.specs.Prelude.{◌≡◌, ℕ, ◌<◌, true, List, [], slice_index_or}
use Rattle.std.specs.List.{All}
use Rattle.pd_plan.specs.declared.table.MatchTable.{MatchTable}
use Rattle.pd_board.specs.declared.bits.NodeBits.{NodeBits}
use Rattle.pd_board.specs.declared.life.Life.{Life}
use Rattle.pd_board.specs.NodeBits.{stands}
use Rattle.pd_board.specs.Life.{live}
use Rattle.pd_board.specs.Kept.{life_at}
use Rattle.pd_board.specs.Standing.{in_row}

-- each node of a row is one of so many
abbrev pub IsWithin : MatchTable → ℕ → Type 0
IsWithin table nodes = (b : ℕ) → All (λ n. n < nodes) (slice_index_or table.rows b [])

-- a bit is only where the node stands in the binding's row
abbrev pub OnlyInRows : NodeBits → MatchTable → Type 0
OnlyInRows bits table = (n b : ℕ) → stands bits n b ≡ true → in_row table b n ≡ true

-- and a live binding's bits are all there
abbrev pub LiveStand : NodeBits → MatchTable → List Life → Type 0
LiveStand bits table lives = (b n : ℕ) → live (life_at lives b) ≡ true → in_row table b n ≡ true → stands bits n b ≡ true
