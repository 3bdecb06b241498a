-- Definition, which contracts cite.
-- The row of a binding.
use Rattle.std.specs.Prelude.{◌≡◌, ℕ, ◌<◌, List, [], ◌∷◌}

-- two nodes of the sixteen, rising
abbrev pub IsRow : List ℕ → Type 0
IsRow row = (low : ℕ) × (high : ℕ) × (row ≡ low ∷ high ∷ []) × (low < high) × (high < 16)
