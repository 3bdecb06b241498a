-- Twin of the code, for its proofs. Of public contracts only those of `Names` cite it, which no other crate uses.
-- The names of a block in the order of their bytes, each with its latest declaration.
use Rattle.std.specs.Prelude.{ℕ, List, [], ◌∷◌, Option, Vec}
use Rattle.std.specs.Ordering.{nat_cmp}
use Rattle.std.specs.Cmp.Lexicographic.{slice_cmp}
use Rattle.std.specs.Map.{lookup}
use Rattle.std.specs.BTreeMap.{insert_entry, is_at}
use Rattle.pd_pl0_read.specs.declared.names.Declared.{Declared}

-- names with their declarations, in the order of their bytes
abbrev pub Entries : Type 0
Entries = List (List ℕ × Declared)

-- the entries of a map from names
abbrev pub named : {A : Type 0} → List (Vec ℕ A × Declared) → Entries
named [] = []
named (e ∷ es) = (e.0.items, e.1) ∷ named es

-- the entries with one more, or with the latest declaration of a name that is there
abbrev pub inserted : List ℕ → Declared → Entries → Entries
inserted x d es = insert_entry (slice_cmp nat_cmp) es x d

-- the declaration of this name
abbrev pub entry_at : List ℕ → Entries → Option Declared
entry_at x es = lookup (is_at (slice_cmp nat_cmp x)) es
