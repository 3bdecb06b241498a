-- Twin of the code, for its proofs: no public contract needs it.
-- How the variables that are seen are made.
use Rattle.std.specs.Prelude.{ℕ, ◌+◌, ◌≤◌, if◌then◌else◌, nat_lt, List, [], ◌∷◌}
use Rattle.pd_tree.specs.declared.kind.Kind.{Kind}
use Rattle.pd_tree.specs.declared.kind.Kind.TheVariants.{PlProcedure}
use Rattle.pd_tree.specs.declared.kind.Visible.{Visible}
use Rattle.pd_tree.specs.declared.addition.Addition.{Addition}
use Rattle.pd_tree.specs.declared.change.Change.{Change}
use Rattle.pd_tree.specs.Linked.{without}
use Rattle.pd_tree.specs.Kept.{changed}

-- what these changes, from the last back to the first, make of what is seen
abbrev pub applied : List Addition → List Change → List Visible → List Visible
applied additions [] seen = seen
applied additions (c ∷ cs) seen = changed additions c (applied additions cs seen)

-- how many variables, from the first on, have slots below this one
abbrev pub slots_before : ℕ → List Visible → ℕ
slots_before slot [] = 0
slots_before slot (v ∷ vs) = if nat_lt v.slot slot then slots_before slot vs + 1 else 0

-- without the variables that a part hides if it is a procedure
abbrev pub without_part : Kind → List Visible → List Visible
without_part (PlProcedure name _) seen = without name seen
without_part _ seen = seen

-- each variable is declared at most so many blocks outward
abbrev pub AllUp : ℕ → List Visible → Type 0
AllUp k [] = Unit {0}
AllUp k (v ∷ vs) = (v.up ≤ k) × AllUp k vs
