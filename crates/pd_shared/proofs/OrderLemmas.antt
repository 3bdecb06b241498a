-- Each toggle of a seat counted more than the numbers that it drew before, and at most those that it drew after.
use Rattle.std.proofs.Common.{◌≡◌, ℕ, ◌<◌, ◌≤◌, List, ◌∷◌, [], ◌++◌, Bool, true, false, ◌==◌, Some, sym, refl, arith}
use mathlib.Core.Option.{some}
use lib.ListN.{get_elem?}
use Rattle.pd_core.specs.declared.view.View.{View}
use Rattle.pd_core.specs.declared.view.Deeds.{Deeds}
use Rattle.pd_core.specs.declared.view.Sight.{Sight}
use Rattle.pd_core.specs.declared.view.Drawn.TheVariants.{Off}
use Rattle.pd_core.specs.declared.view.Toggle.{Toggle}
use Rattle.pd_core.specs.Layout.{Layout, bindings, binding_word}
use Rattle.pd_core.specs.Words.{attached, disposed, off, sum_in, live}
use Rattle.pd_core.specs.Views.{number_in, gave, did_turn, turns, sight, outcome}
use Rattle.pd_core.specs.Good.{Good, Ordered}
use Rattle.pd_core.proofs.Sums.{total-at, same_here}
use Rattle.pd_core.proofs.Attaches.{both, eqb_is}
use Rattle.pd_core.proofs.Parts.{ordered_seen, ordered_toggled, gave_number, toggle_counts}
use Rattle.pd_shared.proofs.NumberLemmas.{drew_is, drew_below, limit_is}

-- there is a number of steps by which all was done in this order
abbrev Timed : Deeds → Type 0
Timed d = (steps : ℕ) × Ordered d steps

open_word : (disables : Bool) (w : ℕ) → turns disables w ≡ true → disposed w ≡ 0
open_word true w e = eqb_is (disposed w) 0 (both (disposed w == 0) (off w == 0) e).0
open_word false w e = eqb_is (disposed w) 0 (both (disposed w == 0) (off w == 1) e).0

pub live_not_gone : (w : ℕ) → live w ≡ true → disposed w ≡ 0
unfolding live
live_not_gone w e = eqb_is (disposed w) 0 (both (attached w == 1) (disposed w == 0) e).1

number_is : (on is_off : Bool) (m n : ℕ) → number_in (outcome on is_off m) ≡ Some n → (on ≡ true) × (m ≡ n)
number_is true true m n e = (refl, cc)
number_is true false m n e = (refl, cc)
number_is false is_off m n e = absurd (cc)

module _ (p : Layout) (b w : ℕ) (v : View) (ws : List ℕ) (views : List View) (id : ℕ) (g : Good p ws views) (at : get_elem? views id ≡ some v) (lt : b < bindings p) (is : binding_word p ws b ≡ w) where
  before : (disables : Bool) (j n : ℕ) (s : Sight) → get_elem? v.deeds.sights j ≡ some s → turns disables w ≡ true → s.binding ≡ b → number_in s.drawn ≡ Some n → n < sum_in w
  before disables j n s there turned same number =
      let limit = limit_is p ws views b w g lt is (open_word disables w turned) in
      let drew : 0 < gave b n s = omega (arith, gave_number b n n s (sym same) number, same_here n n refl) in
      omega (arith, drew_below p ws views id b n v g at lt (omega (arith, total-at (gave b n) v.deeds.sights j s there, drew_is b n v.deeds)), limit)

  after_all : (on is_off : Bool) (i n : ℕ) (t : Toggle) → (on ≡ true → disposed w ≡ 0) → get_elem? v.deeds.toggles i ≡ some t → did_turn t ≡ true → b ≡ t.binding → number_in (outcome on is_off (sum_in w)) ≡ Some n → sum_in t.found ≤ n
  after_all on is_off i n t open_yet there turned same number =
      let parts = number_is on is_off (sum_in w) n number in
      let limit = limit_is p ws views b w g lt is (open_yet parts.0) in
      omega (arith, (g.each id v at).done.toggle_is b (sum_in t.found) lt (toggle_counts v.deeds v.taken i t b there turned same), limit, parts.1)

  pub switched_timed : (disables : Bool) → Timed (record v.deeds { toggles = v.deeds.toggles ++ record { binding = b; disables = disables; found = w; step = v.steps } ∷ [] })
  switched_timed disables =
      let made : Toggle = record { binding = b; disables = disables; found = w; step = v.steps } in
      (v.steps, ordered_toggled v.deeds (record v.deeds { toggles = v.deeds.toggles ++ made ∷ [] }) v.steps made refl refl refl (λ j s n there turned same number. before disables j n s there turned same number) (g.each id v at).ordered)

  pub drawn_timed : (event : ℕ) → Timed (record v.deeds { sights = v.deeds.sights ++ sight event b (outcome (live w) (off w == 1) (sum_in w)) v ∷ [] })
  drawn_timed event =
      let made : Sight = sight event b (outcome (live w) (off w == 1) (sum_in w)) v in
      (v.steps, ordered_seen v.deeds (record v.deeds { sights = v.deeds.sights ++ made ∷ [] }) v.steps made refl refl refl (λ i t n there turned same number. after_all (live w) (off w == 1) i n t (λ on. live_not_gone w on) there turned same number) (g.each id v at).ordered)

pub looked_timed : (p : Layout) (event b : ℕ) (v : View) (ws : List ℕ) (views : List View) (id : ℕ) → Good p ws views → get_elem? views id ≡ some v → Timed (record v.deeds { sights = v.deeds.sights ++ sight event b Off v ∷ [] })
looked_timed p event b v ws views id g at =
    let made : Sight = sight event b Off v in
    (v.steps, ordered_seen v.deeds (record v.deeds { sights = v.deeds.sights ++ made ∷ [] }) v.steps made refl refl refl (λ i t n there turned same number. absurd (cc)) (g.each id v at).ordered)
