-- Setting a binding attached keeps the rule.
use Rattle.std.proofs.Common.{◌≡◌, ℕ, ◌+◌, ◌/◌, ◌<◌, ◌≤◌, List, set, eqb, cond, Bool, true, false, ◌&&◌, ◌==◌, sym, refl, ap, ◌∙◌, subst, ⊎_elim, arith}
use mathlib.Core.Logic.{dite}
use native.Mathlib.Decide.{ℕ_discrete}
use Rattle.std.proofs.lemmas.Bool.Decides.{nat_tests}
use Rattle.pd_core.specs.declared.view.View.{View}
use Rattle.pd_core.specs.Layout.{Layout, bindings, binding_at, binding_word}
use Rattle.pd_core.specs.Words.{attached, disposed, sum_in, mark, summary}
use Rattle.pd_core.specs.Counts.{same}
use Rattle.pd_core.specs.Views.{known, outcomes, set_as, over, of_all, drew_number, makings, firsts, lates, disposals}
use Rattle.pd_core.specs.Good.{Done, Fits}
use Rattle.pd_core.specs.Kinds.{set_attached}
use Rattle.pd_core.proofs.Sums.{same_here, same_else, times_grows, times_else, times_here, cond_some, same_some}
use Rattle.pd_core.proofs.Bits.{with_attached, attached_fits, attached-with_attached, disposed-with_attached, off-with_attached, sum_in-with_attached}
use Rattle.pd_core.proofs.Frame.{answered_kept, Keeps, switch_none, room, put, put_here, word_here, binding_steps}
use Rattle.pd_core.proofs.Waves.{wave_same, wave_later, known_later, same_known}
use Rattle.pd_core.proofs.Parts.{misses_same, upto_same, toggles_same, ordered_same, drawn_same, makings_more, firsts_more, lates_more, disposals_same, kept_same, knows_gone, knows_on, none_underway, either_part}

pub both : (s t : Bool) → (s && t) ≡ true → (s ≡ true) × (t ≡ true)
both true t e = (refl, e)
both false t e = absurd (cc)

module _ (b : ℕ) (v : View) (first gone : Bool) where
  abbrev next : View
  next = set_as first gone b v

  drawn_set : (c y : ℕ) → of_all (drew_number c y) next ≡ of_all (drew_number c y) v
  drawn_set c y = drawn_same v.deeds next.deeds v.taken refl c y

  firsts_set : (c : ℕ) → of_all (firsts c) next ≡ of_all (firsts c) v + cond first (same c b) 0
  firsts_set c = firsts_more v.deeds next.deeds v.taken b first refl c

  disposals_set : (c : ℕ) → of_all (disposals c) next ≡ of_all (disposals c) v
  disposals_set c = disposals_same v.deeds next.deeds v.taken refl c

  done_set : (p : Layout) (ws : List ℕ) (l : ℕ → ℕ) → attached (binding_word p ws b) ≡ 1 → (gone ≡ true → disposed (binding_word p ws b) ≡ 1) → (first ≡ true → l b ≡ 0) → Done p ws l v.deeds v.taken → Done p ws l next.deeds v.taken
  done_set p ws l now dead none f = record {
    made_is = λ c h k. either_part (over (makings c) v.deeds v.taken) (cond true (same c b) 0) (over (makings c) next.deeds v.taken) k (makings_more v.deeds next.deeds v.taken b true refl c)
        (λ was. f.made_is c h was) (λ new. ap (λ x. attached (binding_word p ws x)) (same_some c b new) ∙ now);
    late_is = λ c h k. either_part (over (lates c) v.deeds v.taken) (cond (first && gone) (same c b) 0) (over (lates c) next.deeds v.taken) k (lates_more v.deeds next.deeds v.taken b (first && gone) refl c)
        (λ was. f.late_is c h was)
        (λ new. let e = cond_some (first && gone) (same c b) new in let t = both first gone e.0 in let is : c ≡ b = same_some c b e.1 in (ap (λ x. disposed (binding_word p ws x)) is ∙ dead t.1, ap l is ∙ none t.0));
    count_is = λ c n h k. f.count_is c n h (omega (arith, kept_same v.deeds next.deeds v.taken refl c n));
    toggle_is = λ c n h k. f.toggle_is c n h (omega (arith, toggles_same v.deeds next.deeds v.taken refl c n));
  }

  fits_set : (p : Layout) (ws : List ℕ) (l : ℕ → ℕ) → attached (binding_word p ws b) ≡ 1 → (gone ≡ true → disposed (binding_word p ws b) ≡ 1) → (first ≡ true → l b ≡ 0) → 0 < v.seat_share → Fits p ws l v → Fits p ws l next
  fits_set p ws l now dead none seated f = record {
    underway = none_underway p ws;
    knows = knows_gone p ws b next.found_attached v.found_disposed gone dead (knows_on p ws b v.found_attached v.found_disposed true (λ e. now) f.knows);
    done = done_set p ws l now dead none f.done;
    waves = λ c h. dite (ℕ_discrete c b)
        (λ e. let k = known_later v next c (times_grows c b v.found_disposed gone) (times_here c b v.found_attached e) in wave_later (known v c) (known next c) (l c) (outcomes c v.deeds.sights) k.0 k.1 (f.waves c h))
        (λ ne. wave_same (known v c) (known next c) (l c) (l c) (outcomes c v.deeds.sights) (outcomes c v.deeds.sights) (sym (same_known v next c (times_else c b v.found_disposed gone ne) (times_else c b v.found_attached true ne))) refl refl (f.waves c h));
    ordered = ordered_same v.deeds next.deeds v.steps refl refl f.ordered;
    few = f.few;
    idle = λ z. absurd (omega arith);
  }

pub eqb_is : (x y : ℕ) → eqb x y ≡ true → x ≡ y
eqb_is x y e = grind (arith, nat_tests)

weighs_one : (n k : ℕ) → n < 2 → k ≡ 1 → n + cond (eqb n 0) k 0 ≡ 1
weighs_one n k h e = grind (arith, nat_tests)

weighs_none : (t : Bool) (n k : ℕ) → k ≡ 0 → n + cond t k 0 ≡ n
weighs_none true n k e = omega arith
weighs_none false n k e = omega arith

pub attaches : (p : Layout) (b : ℕ) → Keeps p (set_attached b)
attaches p b h id v g at seated may =
    let lt : b < bindings p = may.0 in
    let o : ℕ = binding_word p h.words b in
    let l : ℕ → ℕ = g.limit in
    let x : ℕ = with_attached o in
    let first : Bool = attached o == 0 in
    let gone : Bool = disposed o == 1 in
    let a : attached x ≡ 1 = attached-with_attached o in
    let d : disposed x ≡ disposed o = disposed-with_attached o in
    let n : sum_in x ≡ sum_in o = sum_in-with_attached o in
    let within : l b ≤ sum_in o = g.sound.within b lt in
    let mine : Fits p h.words l v = g.each id v at in
    let here : first ≡ true → attached o ≡ 0 = λ e. eqb_is (attached o) 0 e in
    let weight : attached o + cond first (same b b) 0 ≡ 1 = weighs_one (attached o) (same b b) (attached_fits o) (same_here b b refl) in
    binding_steps p h.words h.views id b x (l b) v (set_as first gone b v) g lt at
    record { attached_stays = λ e. a; disposed_stays = λ e. d ∙ e; limit_stays = λ e. refl; limit_grows = omega arith; none_yet = λ e. absurd (omega arith); until = λ e. g.sound.until b lt (sym d ∙ e) ∙ sym n; within = omega arith }
    (λ live k m. ⊎_elim (λ set_there. subst (λ (y : ℕ). mark p h.words y b ≡ 1) m.1.1 set_there) (λ dead. absurd (omega (arith, live.1))) (mine.underway.past b m.0 lt (omega (arith, m.1.0, may.1))).2)
    (λ on k m. subst (λ (y : ℕ). summary h.words y (b / 64) ≡ 1) m.1.1 (mine.underway.past b m.0 lt (omega (arith, m.1.0, may.1))).1)
    record {
      drawn_here = λ y. omega (arith, drawn_set b v first gone b y);
      drawn_else = λ c y ne. drawn_set b v first gone c y;
      first_here = omega (arith, firsts_set b v first gone b);
      first_else = λ c ne. firsts_set b v first gone c ∙ weighs_none first (of_all (firsts c) v) (same c b) (same_else c b ne);
      ended_here = omega (arith, disposals_set b v first gone b);
      ended_else = λ c ne. disposals_set b v first gone c;
      draws = omega arith;
      seats = refl;
      talks = refl;
      upto_else = λ kind c y ne. upto_same v.deeds (set_as first gone b v).deeds v.taken refl kind c y;
      misses_else = λ c y ne. misses_same v.deeds (set_as first gone b v).deeds v.taken refl c y;
      switch = switch_none b o x (l b) v (set_as first gone b v) d (off-with_attached o) (λ kind y. upto_same v.deeds (set_as first gone b v).deeds v.taken refl kind b y) (λ y. misses_same v.deeds (set_as first gone b v).deeds v.taken refl b y);
    }
    (fits_set b v first gone p (set h.words (binding_at p b) x) (put l b (l b)) (ap attached (word_here p h.words b x (l b) l (room g) lt) ∙ a) (λ e. ap disposed (word_here p h.words b x (l b) l (room g) lt) ∙ (d ∙ eqb_is (disposed o) 1 e))
    (λ e. put_here l b (l b) ∙ (let none = g.sound.none_yet b lt (here e) in omega arith)) seated)
    (answered_kept h.views id v (set_as first gone b v) at refl refl g.answered)
