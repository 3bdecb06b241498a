-- Loading a binding's word keeps the rule.
use Rattle.std.proofs.Common.{◌≡◌, ◌≢◌, ℕ, ◌<◌, List, [], ◌∷◌, ◌++◌, set, not, Bool, true, false, None, sym, refl, ap, ◌∙◌, subst, ⊎_elim, arith, append-nil, eq-eqb, ne_eqb}
use mathlib.Core.Logic.{dite}
use native.Mathlib.Decide.{ℕ_discrete}
use Rattle.pd_core.specs.declared.view.View.{View}
use Rattle.pd_core.specs.declared.view.Drawn.TheVariants.{Off}
use Rattle.pd_core.specs.declared.view.Sight.{Sight}
use Rattle.pd_core.specs.Layout.{Layout, bindings, binding_at, binding_word}
use Rattle.pd_core.specs.Words.{attached, disposed}
use Rattle.pd_core.specs.Counts.{times, only_if}
use Rattle.pd_core.specs.Views.{fresh, found_disposed, known, outcomes, looked_as, sight, of_all, drew_number, misses}
use Rattle.pd_core.specs.Good.{Wave, Ordered, Fits, Good}
use Rattle.pd_core.specs.Kinds.{load_binding}
use Rattle.pd_core.proofs.Sums.{times_grows, times_else, times_here}
use Rattle.pd_core.proofs.Bits.{attached_fits, disposed_fits, live_is, gone_is, not_attached_is}
use Rattle.pd_core.proofs.Frame.{answered_kept, Keeps, room, Alike, Turns, owes_none, put, put_here, word_here, binding_steps}
use Rattle.pd_core.proofs.Waves.{wave_same, wave_off, wave_off_fresh, wave_later, outcomes_here, outcomes_else, known_later, is_disposed, same_known}
use Rattle.pd_core.proofs.Parts.{misses_same, misses_more, missed_none, upto_same, ordered_same, ordered_seen, drawn_same, drawn_more, firsts_same, disposals_same, done_same, gave_none, knows_gone, knows_on}
use Rattle.pd_core.proofs.Draws.{zero_or_one}

module _ (event b : ℕ) (v : View) where
  abbrev off_sight : Sight
  off_sight = sight event b Off v

  abbrev next : Bool → Bool → View
  next on gone = looked_as on gone event b v

  drawn_looked : (on gone : Bool) (c y : ℕ) → of_all (drew_number c y) (next on gone) ≡ of_all (drew_number c y) v
  drawn_looked true gone c y = drawn_same v.deeds (next true gone).deeds v.taken (append-nil v.deeds.sights) c y
  drawn_looked false gone c y = omega (arith, drawn_more v.deeds (next false gone).deeds v.taken off_sight refl c y, gave_none c y off_sight refl)

  misses_looked : (on gone : Bool) (c y : ℕ) → of_all (misses c y) (next on gone) ≡ of_all (misses c y) v
  misses_looked true gone c y = misses_same v.deeds (next true gone).deeds v.taken (append-nil v.deeds.sights) c y
  misses_looked false gone c y = omega (arith, misses_more v.deeds (next false gone).deeds v.taken off_sight refl c y, missed_none c y off_sight refl)

  ordered_looked : (on gone : Bool) → Ordered v.deeds v.steps → Ordered (next on gone).deeds v.steps
  ordered_looked true gone f = ordered_same v.deeds (next true gone).deeds v.steps (append-nil v.deeds.sights) refl f
  ordered_looked false gone f = ordered_seen v.deeds (next false gone).deeds v.steps off_sight refl refl refl (λ i t n at turned same_binding is. absurd (cc)) f

  alike_looked : (on gone : Bool) → Alike v (next on gone)
  alike_looked on gone = record { drawn_same = drawn_looked on gone; firsts_same = λ c. firsts_same v.deeds (next on gone).deeds v.taken refl c; disposals_same = λ c. disposals_same v.deeds (next on gone).deeds v.taken refl c; draws_same = refl; seats_same = refl; upto_same = λ kind c y. upto_same v.deeds (next on gone).deeds v.taken refl kind c y; misses_same = misses_looked on gone; toggles_kept = refl; taken_kept = refl }

  others_order : (on : Bool) (c : ℕ) → c ≢ b → outcomes c v.deeds.sights ≡ outcomes c (v.deeds.sights ++ only_if (not on) off_sight)
  others_order true c ne = ap (outcomes c) (sym (append-nil v.deeds.sights))
  others_order false c ne = sym (outcomes_else c v.deeds.sights off_sight ne)

  fits_looked : (p : Layout) (ws : List ℕ) (l : ℕ → ℕ) (on gone : Bool) → (on ≡ true → attached (binding_word p ws b) ≡ 1) → (gone ≡ true → disposed (binding_word p ws b) ≡ 1)
      → Wave (known (next on gone) b) (l b) (outcomes b (v.deeds.sights ++ only_if (not on) off_sight)) → 0 < v.seat_share → Fits p ws l v → Fits p ws l (next on gone)
  fits_looked p ws l on gone alive dead here seated f = record {
    underway = f.underway;
    knows = knows_gone p ws b (next on gone).found_attached v.found_disposed gone dead (knows_on p ws b v.found_attached v.found_disposed on alive f.knows);
    done = done_same v.deeds (next on gone).deeds v.taken p ws l refl refl refl refl f.done;
    waves = λ c h. let w : View = next on gone in dite (ℕ_discrete c b)
        (λ e. subst (λ (x : ℕ). Wave (known w x) (l x) (outcomes x w.deeds.sights)) (sym e) here)
        (λ ne. wave_same (known v c) (known w c) (l c) (l c) (outcomes c v.deeds.sights) (outcomes c w.deeds.sights) (sym (same_known v w c (times_else c b v.found_disposed gone ne) (times_else c b v.found_attached on ne))) refl (others_order on c ne) (f.waves c h));
    ordered = ordered_looked on gone f.ordered;
    few = f.few;
    idle = λ z. absurd (omega arith);
  }

  -- the order of the draws of b itself
  wave_live : (gone : Bool) (l : ℕ) → Wave (known v b) l (outcomes b v.deeds.sights) → Wave (known (next true gone) b) l (outcomes b (v.deeds.sights ++ []))
  wave_live gone l wave = let w : View = next true gone in let k = known_later v w b (times_grows b b v.found_disposed gone) (times_here b b v.found_attached refl) in
      subst (λ (xs : List Sight). Wave (known w b) l (outcomes b xs)) (sym (append-nil v.deeds.sights)) (wave_later (known v b) (known w b) l (outcomes b v.deeds.sights) k.0 k.1 wave)

  wave_gone : (l : ℕ) → Wave (known v b) l (outcomes b v.deeds.sights) → Wave (known (next false true) b) l (outcomes b (v.deeds.sights ++ off_sight ∷ []))
  wave_gone l wave = let w : View = next false true in
      wave_same found_disposed (known w b) l l (outcomes b v.deeds.sights ++ None ∷ []) (outcomes b (v.deeds.sights ++ off_sight ∷ [])) (sym (is_disposed w b (times_here b b v.found_disposed refl))) refl (sym (outcomes_here b v.deeds.sights off_sight refl))
      (wave_off (known v b) l (outcomes b v.deeds.sights) wave)

  wave_not_yet : (l : ℕ) → known v b ≡ fresh → Wave (known v b) l (outcomes b v.deeds.sights) → Wave (known (next false false) b) l (outcomes b (v.deeds.sights ++ off_sight ∷ []))
  wave_not_yet l is wave = let w : View = next false false in
      let still : known w b ≡ known v b = same_known v w b (ap (times b) (append-nil v.found_disposed)) (ap (times b) (append-nil v.found_attached)) in
      wave_same fresh (known w b) l l (outcomes b v.deeds.sights ++ None ∷ []) (outcomes b (v.deeds.sights ++ off_sight ∷ [])) (sym (still ∙ is)) refl (sym (outcomes_here b v.deeds.sights off_sight refl))
      (wave_off_fresh l (outcomes b v.deeds.sights) (subst (λ k. Wave k l (outcomes b v.deeds.sights)) is wave))

pub looks : (p : Layout) (event b : ℕ) → Keeps p (load_binding event b)
looks p event b h id v g at seated may =
    let o : ℕ = binding_word p h.words b in
    let l : ℕ → ℕ = g.limit in
    let lt : b < bindings p = may.0 in
    let ws : List ℕ = set h.words (binding_at p b) o in
    let wave = (g.each id v at).waves b lt in
    let here : binding_word p ws b ≡ o = word_here p h.words b o (l b) l (room g) lt in
    let turns : Turns o o (l b) (l b) = record { attached_stays = λ e. e; disposed_stays = λ e. e; limit_stays = λ e. refl; limit_grows = omega arith; none_yet = g.sound.none_yet b lt; until = g.sound.until b lt; within = g.sound.within b lt } in
    let moved : (on gone : Bool) → (on ≡ true → attached o ≡ 1) → (gone ≡ true → disposed o ≡ 1) → Wave (known (looked_as on gone event b v) b) (l b) (outcomes b (v.deeds.sights ++ only_if (not on) (off_sight event b v))) → Good p ws (set h.views id (looked_as on gone event b v)) =
    λ on gone alive dead w. binding_steps p h.words h.views id b o (l b) v (looked_as on gone event b v) g lt at turns (λ live k m. g.sound.marked b k lt live m) (λ on k m. g.sound.summed b k lt on m) (owes_none b o (l b) v (looked_as on gone event b v) (alike_looked event b v on gone) refl)
    (fits_looked event b v p ws (put l b (l b)) on gone (λ e. ap attached here ∙ alive e) (λ e. ap disposed here ∙ dead e)
    (subst (λ (m : ℕ). Wave (known (looked_as on gone event b v) b) m (outcomes b (v.deeds.sights ++ only_if (not on) (off_sight event b v)))) (sym (put_here l b (l b))) w) seated)
    (answered_kept h.views id v (looked_as on gone event b v) at refl refl g.answered) in
    let Next : Bool × Bool → Type 0 = λ t. Good p ws (set h.views id (looked_as t.0 t.1 event b v)) in
    ⊎_elim
    (λ (still : disposed o ≡ 0). ⊎_elim
    (λ (off : attached o ≡ 0). subst Next (λ i. (sym (not_attached_is o off) i, sym (ne_eqb (disposed o) 1 (λ e. omega arith)) i)) (moved false false (λ e. absurd (cc)) (λ e. absurd (cc)) (wave_not_yet event b v (l b) may.1 wave)))
    (λ (on : attached o ≡ 1). subst Next (λ i. (sym (live_is o on still) i, sym (ne_eqb (disposed o) 1 (λ e. omega arith)) i)) (moved true false (λ e. on) (λ e. absurd (cc)) (wave_live event b v false (l b) wave)))
    (zero_or_one (attached o) (attached_fits o)))
    (λ (gone : disposed o ≡ 1). subst Next (λ i. (sym (gone_is o gone) i, sym (eq-eqb (disposed o) 1 gone) i)) (moved false true (λ e. absurd (cc)) (λ e. gone) (wave_gone event b v (l b) wave)))
    (zero_or_one (disposed o) (disposed_fits o))
