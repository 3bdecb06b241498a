-- Beside a view with all seat shares there is no other, so it knows all.
use Rattle.std.proofs.Common.{◌≡◌, ◌≢◌, ℕ, suc, ◌^◌, List, [], ◌∷◌, set, refl, sym, ap, ◌∙◌, ⊎_elim, arith}
use mathlib.Core.Option.{some}
use lib.ListN.{get_elem?}
use Rattle.atomic_table.proofs.Lists.{at_set, set_else}
use Rattle.pd_core.specs.declared.view.View.{View}
use Rattle.pd_core.specs.Layout.{Layout}
use Rattle.pd_core.specs.Counts.{total}
use Rattle.pd_core.specs.Views.{spent_view}
use Rattle.pd_core.specs.Good.{Good}
use Rattle.pd_core.proofs.Sums.{total-set, total-at}

all_none : {A : Type 0} (f : A → ℕ) (xs : List A) → ((j : ℕ) (u : A) → get_elem? xs j ≡ some u → f u ≡ 0) → total f xs ≡ 0
unfolding total
all_none f [] h = refl
all_none f (x ∷ xs) h = let here = h 0 x refl in omega (arith, all_none f xs (λ j u e. h (suc j) u e))

pub whole_alone : (p : Layout) (ws : List ℕ) (views : List View) (id : ℕ) (v : View) → Good p ws views → get_elem? views id ≡ some v → v.seat_share ≡ 2 ^ 32 → (j : ℕ) (u : View) → j ≢ id → get_elem? views j ≡ some u → u ≡ spent_view
whole_alone p ws views id v g at whole j u ne e =
    let share : View → ℕ = λ x. x.seat_share in
    let rest = total-set share views id v spent_view at in
    let one = total-at share (set views id spent_view) j u (set_else views id j spent_view ne ∙ e) in
    (g.each j u e).idle (omega (arith, g.counted.seats))

-- a weight of all views is its own
pub whole_total : (p : Layout) (ws : List ℕ) (views : List View) (id : ℕ) (v : View) (f : View → ℕ) → Good p ws views → get_elem? views id ≡ some v → v.seat_share ≡ 2 ^ 32 → f spent_view ≡ 0 → total f views ≡ f v
whole_total p ws views id v f g at whole none =
    let rest = total-set f views id v spent_view at in
    let nothing : total f (set views id spent_view) ≡ 0 = all_none f (set views id spent_view)
    (λ j u e. ⊎_elim (λ (t : (j ≡ id) × (spent_view ≡ u)). ap f (sym t.1) ∙ none) (λ (t : (j ≢ id) × (get_elem? views j ≡ some u)). ap f (whole_alone p ws views id v g at whole j u t.0 t.1) ∙ none) (at_set views id j spent_view u e)) in
    omega arith
