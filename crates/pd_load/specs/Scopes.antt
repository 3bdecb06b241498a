-- Twin of the code, for its proofs: no public contract needs it.
-- The scope of a source of PL/0, as the code keeps it.
use Rattle.std.specs.Prelude.{◌≡◌, ◌≤◌, List, [], ◌∷◌, ◌++◌, length, take}
use Rattle.pd_load.specs.declared.scope.Procedure.{Procedure}
use Rattle.pd_load.specs.declared.scope.Unfinished as kept
use Rattle.pd_load.specs.declared.scope.Scope as kept_scope
use Rattle.pd_load.specs.Names.{Symbol, Unfinished, Scope}

-- the visible procedures as symbols
abbrev pub symbols_of : List Procedure → List Symbol
symbols_of [] = []
symbols_of (p ∷ ps) = record { name = p.name; item = p.item } ∷ symbols_of ps

-- nodes kept from the outermost inward; after a node so many of the visible procedures are visible still
abbrev pub IsStack : List Symbol → List Unfinished → List kept.Unfinished → Type 0
IsStack visible [] xs = xs ≡ []
IsStack visible (u ∷ us) xs =
    (outer : List kept.Unfinished) × (x : kept.Unfinished) × (xs ≡ outer ++ x ∷ []) × (x.left ≡ u.left)
    × (take x.visible visible ≡ u.visible) × (x.visible ≤ length visible) × IsStack u.visible us outer

-- the scope that the code keeps is this one
pub record IsScope (kept : kept_scope.Scope) (s : Scope) : Type 0 where
  pub visible : symbols_of kept.visible.items ≡ s.visible
  pub stack : IsStack s.visible s.unfinished kept.unfinished.items
