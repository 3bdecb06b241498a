-- A draw keeps the rule.
use Rattle.std.proofs.Common.{◌≡◌, ◌≢◌, ◌⊎◌, ℕ, ◌+◌, ◌*◌, ◌<◌, ◌≤◌, ◌^◌, List, [], ◌∷◌, ◌++◌, set, Bool, true, false, ◌==◌, Some, None, sym, refl, ap, ◌∙◌, subst, ⊎_elim, arith}
use mathlib.Core.Logic.{dite}
use native.Mathlib.Decide.{ℕ_discrete, dec_lt}
use Rattle.std.specs.Prelude.{eqb}
use Rattle.std.proofs.lemmas.Bool.Decides.{nat_tests}
use Rattle.pd_core.specs.declared.view.View.{View}
use Rattle.pd_core.specs.declared.view.Sight.{Sight}
use Rattle.pd_core.specs.Layout.{Layout, bindings, binding_at, binding_word}
use Rattle.pd_core.specs.Words.{attached, disposed, off, sum_in}
use Rattle.pd_core.specs.Counts.{same, times}
use Rattle.pd_core.specs.Views.{known, found_attached, found_disposed, outcomes, outcome, sight, drew_as, of_all, drew_number, misses, toggles_upto, firsts, disposals}
use Rattle.pd_core.specs.Good.{Wave, Switched, Fits, Good}
use Rattle.pd_core.specs.Kinds.{draw}
use Rattle.pd_core.proofs.Sums.{total-at, added-at, same_here, same_else, once_below_more, times-append, times-none, times-one}
use Rattle.pd_core.proofs.Bits.{more, disposed_fits, attached-more, disposed-more, off-more, off_fits, sum_in-more, live_is, gone_is}
use Rattle.pd_core.proofs.Frame.{answered_kept, Keeps, switch_none, room, put, put_here, word_here, binding_steps}
use Rattle.pd_core.proofs.Waves.{wave_same, wave_on, wave_off, outcomes_here, outcomes_else, known_attached, is_disposed, same_known}
use Rattle.pd_core.proofs.Parts.{misses_more, upto_same, missed_none, missed_else, missed_number, ordered_seen, toggle_counts, drawn_more, firsts_same, disposals_same, done_same, gave_number, gave_none, gave_else, number_on, knows_gone}

eqb_is : (x y : ℕ) → eqb x y ≡ true → x ≡ y
eqb_is x y e = grind (arith, nat_tests)

not_off : (n : ℕ) → n < 2 → eqb n 1 ≡ false → n ≡ 0
not_off n h e = grind (arith, nat_tests)

some_is : (m n : ℕ) → Some m ≡ Some n → m ≡ n
some_is m n e = cc

pub zero_or_one : (n : ℕ) → n < 2 → (n ≡ 0) ⊎ (n ≡ 1)
zero_or_one n h = grind arith

module _ (m : Bool) (event b s : ℕ) (v : View) where
  abbrev seen : Bool → Sight
  seen on = sight event b (outcome on m s) v

  abbrev next : Bool → View
  next on = drew_as on m event b s v

  drawn_here : (y : ℕ) → of_all (drew_number b y) (next true) ≡ of_all (drew_number b y) v + same y s
  drawn_here y = omega (arith, drawn_more v.deeds (next true).deeds v.taken (seen true) refl b y, gave_number b y s (seen true) refl (number_on m s))

  drawn_else : (c y : ℕ) → c ≢ b → of_all (drew_number c y) (next true) ≡ of_all (drew_number c y) v
  drawn_else c y ne = omega (arith, drawn_more v.deeds (next true).deeds v.taken (seen true) refl c y, gave_else c y (seen true) ne)

  drawn_off : (c y : ℕ) → of_all (drew_number c y) (next false) ≡ of_all (drew_number c y) v
  drawn_off c y = omega (arith, drawn_more v.deeds (next false).deeds v.taken (seen false) refl c y, gave_none c y (seen false) refl)

  firsts_draw : (on : Bool) (c : ℕ) → of_all (firsts c) (next on) ≡ of_all (firsts c) v
  firsts_draw on c = firsts_same v.deeds (next on).deeds v.taken refl c

  disposals_draw : (on : Bool) (c : ℕ) → of_all (disposals c) (next on) ≡ of_all (disposals c) v
  disposals_draw on c = disposals_same v.deeds (next on).deeds v.taken refl c

  upto_draw : (on kind : Bool) (c y : ℕ) → of_all (toggles_upto kind c y) (next on) ≡ of_all (toggles_upto kind c y) v
  upto_draw on kind c y = upto_same v.deeds (next on).deeds v.taken refl kind c y

  misses_else : (on : Bool) (c y : ℕ) → c ≢ b → of_all (misses c y) (next on) ≡ of_all (misses c y) v
  misses_else on c y ne = omega (arith, misses_more v.deeds (next on).deeds v.taken (seen on) refl c y, missed_else c y (seen on) ne)

  misses_off : (c y : ℕ) → of_all (misses c y) (next false) ≡ of_all (misses c y) v
  misses_off c y = omega (arith, misses_more v.deeds (next false).deeds v.taken (seen false) refl c y, missed_none c y (seen false) refl)

  disposed_on : (c : ℕ) → times c (v.found_disposed ++ []) ≡ times c v.found_disposed
  disposed_on c = omega (arith, times-append c v.found_disposed [], times-none c)

  disposed_off : (c : ℕ) → times c (v.found_disposed ++ b ∷ []) ≡ times c v.found_disposed + same c b
  disposed_off c = omega (arith, times-append c v.found_disposed (b ∷ []), times-one c b)

  -- a draw with a number, at the limit l b
  fits_on : (p : Layout) (ws ws' : List ℕ) (l : ℕ → ℕ) → Fits p ws l v → known v b ≡ found_attached → s ≡ l b → b < bindings p → 0 < v.seat_share
      → Fits p ws' (put l b (l b + 1)) v → Fits p ws' (put l b (l b + 1)) (next true)
  fits_on p ws ws' l old is at lt seated f = record {
    underway = f.underway;
    knows = knows_gone p ws' b v.found_attached v.found_disposed false (λ e. absurd (cc)) f.knows;
    done = done_same v.deeds (next true).deeds v.taken p ws' (put l b (l b + 1)) refl refl refl refl f.done;
    waves = λ c h. dite (ℕ_discrete c b)
        (λ e. subst (λ (x : ℕ). Wave (known (next true) x) (put l b (l b + 1) x) (outcomes x (v.deeds.sights ++ seen true ∷ []))) (sym e)
        (wave_same found_attached (known (next true) b) (l b + 1) (put l b (l b + 1) b) (outcomes b v.deeds.sights ++ Some (l b) ∷ []) (outcomes b (v.deeds.sights ++ seen true ∷ []))
        (sym is ∙ sym (same_known v (next true) b (disposed_on b) refl)) (sym (put_here l b (l b + 1))) (ap (λ k. outcomes b v.deeds.sights ++ k ∷ []) (ap (λ (n : ℕ). Some n) (sym at) ∙ sym (number_on m s)) ∙ sym (outcomes_here b v.deeds.sights (seen true) refl))
        (wave_on (l b) (outcomes b v.deeds.sights) (subst (λ k. Wave k (l b) (outcomes b v.deeds.sights)) is (old.waves b lt)))))
        (λ ne. wave_same (known v c) (known (next true) c) (put l b (l b + 1) c) (put l b (l b + 1) c) (outcomes c v.deeds.sights) (outcomes c (v.deeds.sights ++ seen true ∷ []))
        (sym (same_known v (next true) c (disposed_on c) refl)) refl (sym (outcomes_else c v.deeds.sights (seen true) ne)) (f.waves c h));
    ordered = ordered_seen v.deeds (next true).deeds v.steps (seen true) refl refl refl
        (λ i t n stands turned same_binding is. let number : s ≡ n = some_is s n (sym (number_on m s) ∙ is) in let low = old.done.toggle_is b (sum_in t.found) lt (toggle_counts v.deeds v.taken i t b stands turned same_binding) in omega arith) f.ordered;
    few = f.few;
    idle = λ z. absurd (omega arith);
  }

  -- a draw without one, which finds the binding disposed
  fits_off : (p : Layout) (ws : List ℕ) (l : ℕ → ℕ) → disposed (binding_word p ws b) ≡ 1 → 0 < v.seat_share → Fits p ws l v → Fits p ws l (next false)
  fits_off p ws l gone seated f = record {
    underway = f.underway;
    knows = knows_gone p ws b v.found_attached v.found_disposed true (λ e. gone) f.knows;
    done = done_same v.deeds (next false).deeds v.taken p ws l refl refl refl refl f.done;
    waves = λ c h. dite (ℕ_discrete c b)
        (λ e. wave_same found_disposed (known (next false) c) (l c) (l c) (outcomes c v.deeds.sights ++ None ∷ []) (outcomes c (v.deeds.sights ++ seen false ∷ []))
        (sym (is_disposed (next false) c (omega (arith, disposed_off c, same_here c b e)))) refl (sym (outcomes_here c v.deeds.sights (seen false) e)) (wave_off (known v c) (l c) (outcomes c v.deeds.sights) (f.waves c h)))
        (λ ne. wave_same (known v c) (known (next false) c) (l c) (l c) (outcomes c v.deeds.sights) (outcomes c (v.deeds.sights ++ seen false ∷ []))
        (sym (same_known v (next false) c (disposed_off c ∙ omega (arith, same_else c b ne)) refl)) refl (sym (outcomes_else c v.deeds.sights (seen false) ne)) (f.waves c h));
    ordered = ordered_seen v.deeds (next false).deeds v.steps (seen false) refl refl refl (λ i t n at turned same_binding is. absurd (cc)) f.ordered;
    few = f.few;
    idle = λ z. absurd (omega arith);
  }

-- what a draw of a live binding adds to the missed numbers: its own where it was off
missed_by : (m : Bool) (event b s : ℕ) (v : View) (o y : ℕ) → m ≡ (off o == 1) → of_all (misses b y) (drew_as true m event b s v) ≡ of_all (misses b y) v + off o * same y s
missed_by true event b s v o y e = let is : off o ≡ 1 = eqb_is (off o) 1 (sym e) in omega (arith, misses_more v.deeds (drew_as true true event b s v).deeds v.taken (seen true event b s v true) refl b y, missed_number b y s (seen true event b s v true) refl refl, ap (λ k. k * same y s) is)
missed_by false event b s v o y e = let is : off o ≡ 0 = not_off (off o) (off_fits o) (sym e) in omega (arith, misses_more v.deeds (drew_as true false event b s v).deeds v.taken (seen false event b s v true) refl b y, missed_none b y (seen false event b s v true) refl, ap (λ k. k * same y s) is)

switch_drawn : (m : Bool) (event b s : ℕ) (v : View) (o x l : ℕ) → s ≡ l → m ≡ (off o == 1) → disposed o ≡ 0 → disposed x ≡ disposed o → off x ≡ off o
    → (d e f d' e' f' : ℕ → ℕ) → ((y : ℕ) → d' y + of_all (toggles_upto true b y) v ≡ d y + of_all (toggles_upto true b y) (drew_as true m event b s v)) → ((y : ℕ) → e' y + of_all (toggles_upto false b y) v ≡ e y + of_all (toggles_upto false b y) (drew_as true m event b s v))
    → ((y : ℕ) → f' y + of_all (misses b y) v ≡ f y + of_all (misses b y) (drew_as true m event b s v)) → Switched o l d e f → Switched x (l + 1) d' e' f'
switch_drawn m event b s v o x l at is still gone_same off_same d e f d' e' f' dd ee ff sw =
    let w : View = drew_as true m event b s v in
    let dis : (y : ℕ) → d' y ≡ d y = λ y. omega (arith, dd y, upto_draw m event b s v true true b y) in
    let ena : (y : ℕ) → e' y ≡ e y = λ y. omega (arith, ee y, upto_draw m event b s v true false b y) in
    let mis : (y : ℕ) → f' y ≡ f y + off o * same y s = λ y. omega (arith, ff y, missed_by m event b s v o y is) in
    let other : (y : ℕ) → y ≢ l → off o * same y s ≡ 0 = λ y ne. ap (λ k. off o * k) (same_else y s (λ q. ne (q ∙ at))) ∙ omega arith in
    record {
      below = λ y h. dite (dec_lt y l)
          (λ low. omega (arith, sw.below y low, dis y, ena y, mis y, other y (λ q. omega arith)))
          (λ high. let here : y ≡ l = omega arith in let one : off o * same y s ≡ off o = ap (λ k. off o * k) (same_here y s (here ∙ sym at)) ∙ omega arith in omega (arith, sw.on y (omega arith) still, sw.none y (omega arith), dis y, ena y, mis y));
      on = λ y h k. omega (arith, sw.on y (omega arith) still, dis y, ena y);
      gone = λ y h k. absurd (omega arith);
      none = λ y h. omega (arith, sw.none y (omega arith), mis y, other y (λ q. omega arith));
    }

pub draws : (p : Layout) (event b : ℕ) → Keeps p (draw event b)
draws p event b h id v g at seated may =
    let o : ℕ = binding_word p h.words b in
    let m : Bool = off o == 1 in
    let l : ℕ → ℕ = g.limit in
    let s : ℕ = sum_in o in
    let lt : b < bindings p = may.0 in
    let share : 0 < v.draw_share = may.1.1 in
    let mine : Fits p h.words l v = g.each id v at in
    let is_attached : attached o ≡ 1 = mine.knows.attached_is b lt (known_attached v b may.1.0).1 in
    let low : sum_in o < 2 ^ 60 = omega (arith, g.counted.draws, total-at (λ (u : View). u.draw_share) h.views id v at, added-at (λ c. sum_in (binding_word p h.words c)) (bindings p) b lt) in
    let a : attached (more o) ≡ attached o = attached-more o low in
    let d : disposed (more o) ≡ disposed o = disposed-more o low in
    let n : sum_in (more o) ≡ sum_in o + 1 = sum_in-more o low in
    let f : off (more o) ≡ off o = off-more o low in
    let within : l b ≤ sum_in o = g.sound.within b lt in
    let Next : Bool → Type 0 = λ on. Good p (set h.words (binding_at p b) (more o)) (set h.views id (drew_as on m event b s v)) in
    ⊎_elim
    (λ (still : disposed o ≡ 0).
    let until : l b ≡ sum_in o = g.sound.until b lt still in
    let switch_on = switch_drawn m event b s v o (more o) (l b) (sym until) refl still d f in
    subst Next (sym (live_is o is_attached still))
    (binding_steps p h.words h.views id b (more o) (l b + 1) v (drew_as true m event b s v) g lt at
    record { attached_stays = λ e. a ∙ e; disposed_stays = λ e. d ∙ e; limit_stays = λ e. absurd (omega arith); limit_grows = omega arith; none_yet = λ e. absurd (omega arith); until = λ e. omega arith; within = omega arith }
    (λ live k m. g.sound.marked b k lt (is_attached, still) m)
    (λ on k m. g.sound.summed b k lt is_attached m)
    record {
      drawn_here = λ y. omega (arith, drawn_here m event b s v y, once_below_more y (l b), ap (same y) until);
      drawn_else = λ c y ne. drawn_else m event b s v c y ne;
      first_here = omega (arith, firsts_draw m event b s v true b);
      first_else = λ c ne. firsts_draw m event b s v true c;
      ended_here = omega (arith, disposals_draw m event b s v true b);
      ended_else = λ c ne. disposals_draw m event b s v true c;
      draws = omega arith;
      seats = refl;
      talks = refl;
      upto_else = λ kind c y ne. upto_draw m event b s v true kind c y;
      misses_else = λ c y ne. misses_else m event b s v true c y ne;
      switch = switch_on;
    }
    (fits_on m event b s v p h.words (set h.words (binding_at p b) (more o)) l mine may.1.0 (sym until) lt seated)
    (answered_kept h.views id v (drew_as true m event b s v) at refl refl g.answered)))
    (λ (gone : disposed o ≡ 1).
    subst Next (sym (gone_is o gone))
    (binding_steps p h.words h.views id b (more o) (l b) v (drew_as false m event b s v) g lt at
    record { attached_stays = λ e. a ∙ e; disposed_stays = λ e. d ∙ e; limit_stays = λ e. refl; limit_grows = omega arith; none_yet = λ e. absurd (omega arith); until = λ e. absurd (omega arith); within = omega arith }
    (λ live k m. absurd (omega (arith, live.1)))
    (λ on k m. g.sound.summed b k lt is_attached m)
    record {
      drawn_here = λ y. omega (arith, drawn_off m event b s v b y);
      drawn_else = λ c y ne. drawn_off m event b s v c y;
      first_here = omega (arith, firsts_draw m event b s v false b);
      first_else = λ c ne. firsts_draw m event b s v false c;
      ended_here = omega (arith, disposals_draw m event b s v false b);
      ended_else = λ c ne. disposals_draw m event b s v false c;
      draws = omega arith;
      seats = refl;
      talks = refl;
      upto_else = λ kind c y ne. upto_draw m event b s v false kind c y;
      misses_else = λ c y ne. misses_off m event b s v c y;
      switch = switch_none b o (more o) (l b) v (drew_as false m event b s v) d f (λ kind y. upto_draw m event b s v false kind b y) (λ y. misses_off m event b s v b y);
    }
    (fits_off m event b s v p (set h.words (binding_at p b) (more o)) (put l b (l b)) (ap disposed (word_here p h.words b (more o) (l b) l (room g) lt) ∙ (d ∙ gone)) seated)
    (answered_kept h.views id v (drew_as false m event b s v) at refl refl g.answered)))
    (zero_or_one (disposed o) (disposed_fits o))
