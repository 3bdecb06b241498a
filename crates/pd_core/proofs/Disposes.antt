-- A disposal keeps the rule.
use Rattle.std.proofs.Common.{◌≡◌, ℕ, ◌+◌, ◌<◌, ◌≤◌, List, [], ◌∷◌, ◌++◌, set, cond, Bool, true, false, sym, refl, ap, ◌∙◌, subst, ⊎_elim, inl, inr, arith, eq-eqb, ne_eqb}
use mathlib.Core.Logic.{dite}
use native.Mathlib.Decide.{ℕ_discrete}
use Rattle.pd_core.specs.declared.view.View.{View}
use Rattle.pd_core.specs.Layout.{Layout, bindings, binding_at, binding_word}
use Rattle.pd_core.specs.Words.{attached, disposed, off, sum_in}
use Rattle.pd_core.specs.Counts.{same, times, first_is, pair_is}
use Rattle.pd_core.specs.Views.{known, found_disposed, outcomes, disposed_as, over, of_all, drew_number, misses, toggles_upto, firsts, disposals, count_kept}
use Rattle.pd_core.specs.Good.{Done, Switched, Fits, Good}
use Rattle.pd_core.specs.Kinds.{set_disposed}
use Rattle.pd_core.proofs.Sums.{same_here, same_else, times-append, times-one, first_is-here, first_is-else, pair_is-some, cond_some}
use Rattle.pd_core.proofs.Bits.{with_disposed, disposed_fits, attached-with_disposed, disposed-with_disposed, off_fits, sum_in-with_disposed}
use Rattle.pd_core.proofs.Frame.{answered_kept, Keeps, room, Turns, put, put_here, word_here, binding_steps}
use Rattle.pd_core.proofs.Waves.{wave_same, wave_later, is_disposed, same_known}
use Rattle.pd_core.proofs.Parts.{misses_same, upto_same, toggles_same, ordered_same, drawn_same, makings_same, firsts_same, lates_same, disposals_more, kept_more, knows_gone, either_part}
use Rattle.pd_core.proofs.Draws.{zero_or_one}

module _ (b s : ℕ) (v : View) where
  abbrev next : Bool → View
  next first = disposed_as first b s v

  drawn_dispose : (first : Bool) (c y : ℕ) → of_all (drew_number c y) (next first) ≡ of_all (drew_number c y) v
  drawn_dispose first c y = drawn_same v.deeds (next first).deeds v.taken refl c y

  firsts_dispose : (first : Bool) (c : ℕ) → of_all (firsts c) (next first) ≡ of_all (firsts c) v
  firsts_dispose first c = firsts_same v.deeds (next first).deeds v.taken refl c

  disposals_dispose : (first : Bool) (c : ℕ) → of_all (disposals c) (next first) ≡ of_all (disposals c) v + cond first (first_is c (b, s)) 0
  disposals_dispose first c = disposals_more v.deeds (next first).deeds v.taken b s first refl c

  pub times_more : (c : ℕ) → times c (v.found_disposed ++ b ∷ []) ≡ times c v.found_disposed + same c b
  times_more c = omega (arith, times-append c v.found_disposed (b ∷ []), times-one c b)

  done_disposed : (p : Layout) (ws : List ℕ) (l : ℕ → ℕ) (first : Bool) → disposed (binding_word p ws b) ≡ 1 → (first ≡ true → s ≡ l b) → Done p ws l v.deeds v.taken → Done p ws l (next first).deeds v.taken
  done_disposed p ws l first gone at f = record {
    made_is = λ c h k. f.made_is c h (omega (arith, makings_same v.deeds (next first).deeds v.taken refl c));
    late_is = λ c h k. f.late_is c h (omega (arith, lates_same v.deeds (next first).deeds v.taken refl c));
    count_is = λ c n h k. either_part (over (count_kept c n) v.deeds v.taken) (cond first (pair_is c n (b, s)) 0) (over (count_kept c n) (next first).deeds v.taken) k (kept_more v.deeds (next first).deeds v.taken b s first refl c n)
        (λ was. f.count_is c n h was)
        (λ new. let t = cond_some first (pair_is c n (b, s)) new in let e = pair_is-some c n b s t.1 in (ap (λ x. disposed (binding_word p ws x)) e.0 ∙ gone, e.1 ∙ (at t.0 ∙ ap l (sym e.0))));
    toggle_is = λ c n h k. f.toggle_is c n h (omega (arith, toggles_same v.deeds (next first).deeds v.taken refl c n));
  }

  fits_disposed : (p : Layout) (ws : List ℕ) (l : ℕ → ℕ) (first : Bool) → disposed (binding_word p ws b) ≡ 1 → (first ≡ true → s ≡ l b) → 0 < v.seat_share → Fits p ws l v → Fits p ws l (next first)
  fits_disposed p ws l first gone at seated f = record {
    underway = f.underway;
    knows = knows_gone p ws b v.found_attached v.found_disposed true (λ e. gone) f.knows;
    done = done_disposed p ws l first gone at f.done;
    waves = λ c h. dite (ℕ_discrete c b)
        (λ e. let now : known (next first) c ≡ found_disposed = is_disposed (next first) c (omega (arith, times_more c, same_here c b e)) in
        wave_same found_disposed (known (next first) c) (l c) (l c) (outcomes c v.deeds.sights) (outcomes c v.deeds.sights) (sym now) refl refl (wave_later (known v c) found_disposed (l c) (outcomes c v.deeds.sights) (λ x. cc) (λ _. refl) (f.waves c h)))
        (λ ne. wave_same (known v c) (known (next first) c) (l c) (l c) (outcomes c v.deeds.sights) (outcomes c v.deeds.sights) (sym (same_known v (next first) c (times_more c ∙ omega (arith, same_else c b ne)) refl)) refl refl (f.waves c h));
    ordered = ordered_same v.deeds (next first).deeds v.steps refl refl f.ordered;
    few = f.few;
    idle = λ z. absurd (omega arith);
  }

switch_disposed : (b o x l : ℕ) (v w : View) → disposed x ≡ 1 → ((kind : Bool) (y : ℕ) → of_all (toggles_upto kind b y) w ≡ of_all (toggles_upto kind b y) v) → ((y : ℕ) → of_all (misses b y) w ≡ of_all (misses b y) v)
    → (d e f d' e' f' : ℕ → ℕ) → ((y : ℕ) → d' y + of_all (toggles_upto true b y) v ≡ d y + of_all (toggles_upto true b y) w) → ((y : ℕ) → e' y + of_all (toggles_upto false b y) v ≡ e y + of_all (toggles_upto false b y) w)
    → ((y : ℕ) → f' y + of_all (misses b y) v ≡ f y + of_all (misses b y) w) → Switched o l d e f → Switched x l d' e' f'
switch_disposed b o x l v w gone upto same_misses d e f d' e' f' dd ee ff sw =
    let dis : (y : ℕ) → d' y ≡ d y = λ y. omega (arith, dd y, upto true y) in
    let ena : (y : ℕ) → e' y ≡ e y = λ y. omega (arith, ee y, upto false y) in
    let mis : (y : ℕ) → f' y ≡ f y = λ y. omega (arith, ff y, same_misses y) in
    record {
      below = λ y h. omega (arith, sw.below y h, dis y, ena y, mis y);
      on = λ y h k. absurd (omega arith);
      gone = λ y h k. ⊎_elim
          (λ (still : disposed o ≡ 0). let was = sw.on y h still in ⊎_elim (λ (z : off o ≡ 0). inl (omega (arith, dis y, ena y))) (λ (z : off o ≡ 1). inr (omega (arith, dis y, ena y))) (zero_or_one (off o) (off_fits o)))
          (λ (dead : disposed o ≡ 1). ⊎_elim (λ (z : d y ≡ e y). inl (omega (arith, dis y, ena y))) (λ (z : d y ≡ e y + 1). inr (omega (arith, dis y, ena y))) (sw.gone y h dead)) (zero_or_one (disposed o) (disposed_fits o));
      none = λ y h. omega (arith, sw.none y h, mis y);
    }

pub disposes : (p : Layout) (b : ℕ) → Keeps p (set_disposed b)
disposes p b h id v g at seated may =
    let lt : b < bindings p = may.0 in
    let o : ℕ = binding_word p h.words b in
    let l : ℕ → ℕ = g.limit in
    let s : ℕ = sum_in o in
    let x : ℕ = with_disposed o in
    let a : attached x ≡ attached o = attached-with_disposed o in
    let d : disposed x ≡ 1 = disposed-with_disposed o in
    let n : sum_in x ≡ sum_in o = sum_in-with_disposed o in
    let within : l b ≤ sum_in o = g.sound.within b lt in
    let turns : Turns o x (l b) (l b) = record { attached_stays = λ e. a ∙ e; disposed_stays = λ e. d; limit_stays = λ e. refl; limit_grows = omega arith; none_yet = λ e. n ∙ g.sound.none_yet b lt (sym a ∙ e); until = λ e. absurd (omega arith); within = omega arith } in
    let now : disposed (binding_word p (set h.words (binding_at p b) x) b) ≡ 1 = ap disposed (word_here p h.words b x (l b) l (room g) lt) ∙ d in
    let Next : Bool → Type 0 = λ first. Good p (set h.words (binding_at p b) x) (set h.views id (disposed_as first b s v)) in
    let moved : (first : Bool) → cond first 1 0 + disposed o ≡ 1 → (first ≡ true → s ≡ l b) → Next first =
    λ first weight kept. binding_steps p h.words h.views id b x (l b) v (disposed_as first b s v) g lt at turns (λ live k m. absurd (omega (arith, live.1))) (λ on k m. g.sound.summed b k lt (sym a ∙ on) m)
    record {
      drawn_here = λ y. omega (arith, drawn_dispose b s v first b y);
      drawn_else = λ c y ne. drawn_dispose b s v first c y;
      first_here = omega (arith, firsts_dispose b s v first b);
      first_else = λ c ne. firsts_dispose b s v first c;
      ended_here = omega (arith, disposals_dispose b s v first b, ap (λ k. cond first k 0) (first_is-here b b s refl));
      ended_else = λ c ne. disposals_dispose b s v first c ∙ (ap (λ k. of_all (disposals c) v + cond first k 0) (first_is-else c b s ne) ∙ nothing first (of_all (disposals c) v));
      draws = omega arith;
      seats = refl;
      talks = refl;
      upto_else = λ kind c y ne. upto_same v.deeds (disposed_as first b s v).deeds v.taken refl kind c y;
      misses_else = λ c y ne. misses_same v.deeds (disposed_as first b s v).deeds v.taken refl c y;
      switch = switch_disposed b o x (l b) v (disposed_as first b s v) d (λ kind y. upto_same v.deeds (disposed_as first b s v).deeds v.taken refl kind b y) (λ y. misses_same v.deeds (disposed_as first b s v).deeds v.taken refl b y);
    }
    (fits_disposed b s v p (set h.words (binding_at p b) x) (put l b (l b)) first now (λ e. kept e ∙ sym (put_here l b (l b))) seated)
    (answered_kept h.views id v (disposed_as first b s v) at refl refl g.answered) in
    ⊎_elim
    (λ (still : disposed o ≡ 0). subst Next (sym (eq-eqb (disposed o) 0 still)) (moved true (omega arith) (λ _. sym (g.sound.until b lt still))))
    (λ (gone : disposed o ≡ 1). subst Next (sym (ne_eqb (disposed o) 0 (λ e. omega arith))) (moved false (omega arith) (λ e. absurd (cc))))
    (zero_or_one (disposed o) (disposed_fits o))
  where
    nothing : (t : Bool) (n : ℕ) → n + cond t 0 0 ≡ n
    nothing true n = omega arith
    nothing false n = omega arith
