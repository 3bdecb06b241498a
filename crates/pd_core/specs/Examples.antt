-- For the tests: no other contract cites it.
-- The layout that the tests use: one binding, which matches node 3 of 8, one session and two contexts.
use Rattle.std.specs.Prelude.{◌≡◌, ◌==◌, ℕ, [], ◌∷◌, false}
use Rattle.pd_core.specs.declared.view.View.{View}
use Rattle.pd_core.specs.Layout.{Layout}
use Rattle.pd_core.specs.Words.{disposed}
use Rattle.pd_core.specs.Views.{first_view}
use Rattle.pd_core.specs.Kinds.{after, set_bit, set_summary, set_attached}

-- the layout with one binding, whose row has node 3 of 8, one session and two contexts
abbrev pub one_binding : Layout
one_binding = record { nodes = 8; rows = (3 ∷ []) ∷ []; sessions = 1; contexts = 2 }

-- the view of the first pass after its attachment of the binding, which found it not disposed
abbrev pub attached_view : ℕ → ℕ → ℕ → View
attached_view a b c = after one_binding (set_attached 0) c (after one_binding (set_summary 3 0) b (after one_binding (set_bit 3 0) a first_view))

-- the view of a pass that attached binding 0 and found it not disposed
abbrev pub IsAttached : View → Type 0
IsAttached v = (a : ℕ) × (b : ℕ) × (c : ℕ) × (v ≡ attached_view a b c) × ((disposed c == 1) ≡ false)
