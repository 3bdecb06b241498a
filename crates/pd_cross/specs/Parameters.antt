-- For the code's proofs: no public contract needs it.
-- The parameters of a function, and functions that are no items.
use Rattle.std.specs.Prelude.{ℕ, ◌≤◌, List, length, Option, None, Some}
use Rattle.pd_values.specs.declared.value.Value.{Value}
use Rattle.pd_values.specs.declared.value.Value.TheVariants.{Func}
use Rattle.pd_tree.specs.declared.kind.Kind.{Kind}
use Rattle.pd_tree.specs.declared.kind.Kind.TheVariants.{SlFunction}

-- the names of the parameters of an SL function; nothing for another kind of root
abbrev pub parameters_of : Kind → Option (List (List ℕ))
parameters_of (SlFunction name parameters) = Some parameters
parameters_of _ = None

-- a function that is none of the items that have these names
abbrev pub IsUnnamed : List (List ℕ) → Value → Type 0
IsUnnamed names (Func i) = length names ≤ i
IsUnnamed names _ = ⊥
