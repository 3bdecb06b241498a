-- For the code's proofs: no public contract needs it.
-- Truth values by number, and statements by source.
use Rattle.std.specs.Prelude.{◌≡◌, ℕ, ◌+◌, ◌<◌, ◌||◌, Bool, false, List, [], ◌∷◌, length, filter, slice_index_or}
use Rattle.pd_coverage.specs.declared.Covered.{Covered}

-- whether a table has `true` for this number; past its end it has none
abbrev pub is_marked : List Bool → ℕ → Bool
is_marked table n = slice_index_or table n false

-- the table has `true` for those of its numbers for which it had it, and for those that pass the test
pub record IsMarked (test : ℕ → Bool) (old new : List Bool) : Type 0 where
  pub long : length new ≡ length old
  pub marks : (n : ℕ) → n < length old → is_marked new n ≡ (is_marked old n || test n)

-- a table of so many numbers has `true` for those that pass the test
pub record IsTable (test : ℕ → Bool) (count : ℕ) (table : List Bool) : Type 0 where
  pub long : length table ≡ count
  pub marks : (n : ℕ) → n < count → is_marked table n ≡ test n

-- of a source, its statements, and those of them that are marked
abbrev pub covered_with : List Bool → ℕ → List ℕ → Covered
covered_with table source nodes = record { source = source; nodes = nodes; hit = filter (is_marked table) nodes }

-- of each source, from this number on
abbrev pub covered_from : List Bool → ℕ → List (List ℕ) → List Covered
covered_from table source [] = []
covered_from table source (nodes ∷ rest) = covered_with table source nodes ∷ covered_from table (source + 1) rest

-- for each of so many sources the list of those of these nodes that pass its test
pub record IsSplit (test : ℕ → ℕ → Bool) (nodes : List ℕ) (sources : ℕ) (lists : List (List ℕ)) : Type 0 where
  pub long : length lists ≡ sources
  pub each : (s : ℕ) → s < sources → slice_index_or lists s [] ≡ filter (test s) nodes
