-- Switching a binding off and on keeps the rule.
use Rattle.std.proofs.Common.{◌≡◌, ◌≢◌, ℕ, zero, suc, ◌+◌, ◌*◌, ◌<◌, ◌≤◌, ◌^◌, List, set, not, Bool, true, false, ◌&&◌, ◌==◌, Some, sym, refl, ap, ◌∙◌, subst, ⊎_elim, inl, inr, arith}
use Rattle.std.proofs.lemmas.Bool.Decides.{nat_tests}
use mathlib.Core.Option.{some}
use lib.ListN.{get_elem?}
use Rattle.pd_core.specs.declared.view.View.{View}
use Rattle.pd_core.specs.declared.view.Sight.{Sight}
use Rattle.pd_core.specs.declared.view.Toggle.{Toggle}
use Rattle.pd_core.specs.Layout.{Layout, bindings, binding_at, binding_word}
use Rattle.pd_core.specs.Words.{attached, disposed, off, sum_in}
use Rattle.pd_core.specs.Counts.{same, once_below, one_if}
use Rattle.pd_core.specs.Views.{outcomes, number_in, toggled_as, over, of_all, drew_number, gave, misses, did_turn, found_so, already, toggles_from, turns, is_kind, toggle_upto, toggle_at, toggles_upto, toggles_at}
use Rattle.pd_core.specs.Good.{Done, Switched, Fits, Good}
use Rattle.pd_core.specs.Kinds.{set_off, clear_off}
use Rattle.pd_core.proofs.Sums.{total-set, total-at, added-at, times_grows, same_here, same_else, same_some, once_below_some}
use Rattle.pd_core.proofs.Bits.{with_off, without_off, off_fits, disposed_fits, attached-with_off, disposed-with_off, off-with_off, sum_in-with_off, attached-without_off, disposed-without_off, off-without_off, sum_in-without_off}
use Rattle.pd_core.proofs.Frame.{There, AllAnswered, answered_grows, Keeps, room, put, put_here, word_here, binding_steps}
use Rattle.pd_core.proofs.Waves.{wave_up}
use Rattle.pd_core.proofs.Parts.{from_more, drawn_same, misses_same, makings_same, firsts_same, lates_same, disposals_same, kept_same, upto_more, toggles_more, gave_number, ordered_toggled, knows_gone, either_part}
use Rattle.pd_core.proofs.Attaches.{eqb_is, both}
use Rattle.pd_core.proofs.Draws.{zero_or_one}
use Rattle.pd_core.proofs.Replies.{any_reply, later_reply, earlier}
use Rattle.atomic_table.proofs.Lists.{at_snoc}

-- whether a toggle changes "off", by the word found
turns_off : (o : ℕ) → disposed o ≡ 0 → off o ≡ 0 → turns true o ≡ true
turns_off o d f = grind (arith, nat_tests)

already_off : (o : ℕ) → disposed o ≡ 0 → off o ≡ 1 → turns true o ≡ false
already_off o d f = grind (arith, nat_tests)

turns_on : (o : ℕ) → disposed o ≡ 0 → off o ≡ 1 → turns false o ≡ true
turns_on o d f = grind (arith, nat_tests)

already_on : (o : ℕ) → disposed o ≡ 0 → off o ≡ 0 → turns false o ≡ false
already_on o d f = grind (arith, nat_tests)

turns_none : (kind : Bool) (o : ℕ) → disposed o ≡ 1 → turns kind o ≡ false
turns_none true o d = grind (arith, nat_tests)
turns_none false o d = grind (arith, nat_tests)

turn_needs : (kind : Bool) (o : ℕ) → turns kind o ≡ true → disposed o ≡ 0
turn_needs true o e = eqb_is (disposed o) 0 (both (disposed o == 0) (off o == 0) e).0
turn_needs false o e = eqb_is (disposed o) 0 (both (disposed o == 0) (off o == 1) e).0

low_one : (s y : ℕ) → s ≤ y → once_below s (suc y) ≡ 1
unfolding once_below
low_one s y h = grind (arith, nat_tests)

high_none : (s y : ℕ) → y < s → once_below s (suc y) ≡ 0
unfolding once_below
high_none s y h = grind (arith, nat_tests)

some_number : (m n : ℕ) → 0 < m * n → (0 < m) × (0 < n)
some_number zero n h = absurd (omega arith)
some_number (suc m) zero h = absurd (omega (arith, none m))
  where
    none : (m : ℕ) → suc m * 0 ≡ 0
    none m = omega arith
some_number (suc m) (suc n) h = (omega arith, omega arith)

one_true : (t : Bool) → 0 < one_if t → t ≡ true
one_true true h = refl
one_true false h = absurd (omega arith)

-- a number that a view drew lies below the limit
drawn_below : (p : Layout) (ws : List ℕ) (views : List View) (id b j n : ℕ) (v : View) (s : Sight) (g : Good p ws views) → get_elem? views id ≡ some v → b < bindings p → get_elem? v.deeds.sights j ≡ some s → b ≡ s.binding → number_in s.drawn ≡ Some n → n < g.limit b
unfolding over drew_number
drawn_below p ws views id b j n v s g at lt there is number =
    let one : gave b n s ≡ 1 = gave_number b n n s is number ∙ same_here n n refl in
    let own = total-at (gave b n) v.deeds.sights j s there in
    let all = total-at (of_all (drew_number b n)) views id v at in
    once_below_some n (g.limit b) (omega (arith, g.counted.drawn b n lt))

module _ (kind gone : Bool) (b o : ℕ) (v : View) where
  abbrev made : Toggle
  made = record { binding = b; disables = kind; found = o; step = v.steps }

  abbrev next : View
  next = toggled_as kind gone b o v

  upto_made : (k t : Bool) (y : ℕ) → (is_kind k kind && turns kind o) ≡ t → of_all (toggles_upto k b y) next ≡ of_all (toggles_upto k b y) v + one_if t * once_below (sum_in o) (suc y)
  unfolding toggle_upto
  upto_made k t y e =
      let weight : toggle_upto k b y made ≡ one_if t * once_below (sum_in o) (suc y) = (λ i. same_here b b refl i * (one_if (e i) * once_below (sum_in o) (suc y))) ∙ one_times (one_if t * once_below (sum_in o) (suc y)) in
      omega (arith, upto_more v.deeds next.deeds v.taken made refl k b y)
    where
      one_times : (n : ℕ) → 1 * n ≡ n
      one_times n = omega arith

  upto_else : (k : Bool) (c y : ℕ) → c ≢ b → of_all (toggles_upto k c y) next ≡ of_all (toggles_upto k c y) v
  unfolding toggle_upto
  upto_else k c y ne =
      let weight : toggle_upto k c y made ≡ 0 = ap (λ z. z * (one_if (is_kind k kind && turns kind o) * once_below (sum_in o) (suc y))) (same_else c b ne) ∙ omega arith in
      omega (arith, upto_more v.deeds next.deeds v.taken made refl k c y)

  at_made : (c n : ℕ) → 0 < toggle_at c n made → (c ≡ b) × (turns kind o ≡ true) × (n ≡ sum_in o)
  unfolding toggle_at
  at_made c n h =
      let s = some_number (same c b) (one_if (turns kind o) * same n (sum_in o)) h in
      let t = some_number (one_if (turns kind o)) (same n (sum_in o)) s.1 in
      (same_some c b s.0, one_true (turns kind o) t.0, same_some n (sum_in o) t.1)

  done_toggled : (p : Layout) (ws : List ℕ) (l : ℕ → ℕ) → (turns kind o ≡ true → sum_in o ≤ l b) → Done p ws l v.deeds v.taken → Done p ws l next.deeds v.taken
  done_toggled p ws l low f = record {
    made_is = λ c h k. f.made_is c h (omega (arith, makings_same v.deeds next.deeds v.taken refl c));
    late_is = λ c h k. f.late_is c h (omega (arith, lates_same v.deeds next.deeds v.taken refl c));
    count_is = λ c n h k. f.count_is c n h (omega (arith, kept_same v.deeds next.deeds v.taken refl c n));
    toggle_is = λ c n h k. either_part (over (toggles_at c n) v.deeds v.taken) (toggle_at c n made) (over (toggles_at c n) next.deeds v.taken) k (toggles_more v.deeds next.deeds v.taken made refl c n)
        (λ was. f.toggle_is c n h was) (λ new. let e = at_made c n new in subst (λ (y : ℕ × ℕ). y.0 ≤ l y.1) (λ i. (sym e.2 i, sym e.0 i)) (low e.1));
  }

  fits_toggled : (p : Layout) (ws : List ℕ) (l : ℕ → ℕ) → (gone ≡ true → disposed (binding_word p ws b) ≡ 1) → (turns kind o ≡ true → sum_in o ≤ l b)
      → ((j : ℕ) (s : Sight) (n : ℕ) → get_elem? v.deeds.sights j ≡ some s → did_turn made ≡ true → s.binding ≡ b → number_in s.drawn ≡ Some n → n < sum_in o) → 0 < v.seat_share → Fits p ws l v → Fits p ws l next
  fits_toggled p ws l dead low before seated f = record {
    underway = f.underway;
    knows = knows_gone p ws b v.found_attached v.found_disposed gone dead f.knows;
    done = done_toggled p ws l low f.done;
    waves = λ c h. wave_up v next c (l c) (outcomes c v.deeds.sights) (times_grows c b v.found_disposed gone) (omega arith) (f.waves c h);
    ordered = ordered_toggled v.deeds next.deeds v.steps made refl refl refl before f.ordered;
    few = f.few;
    idle = λ z. absurd (omega arith);
  }

not_same : (k : Bool) → k ≡ not k → ⊥
not_same true e = cc
not_same false e = cc

-- what all answer for after a toggle
answered_toggled : (kind : Bool) (p : Layout) (ws : List ℕ) (views : List View) (id b : ℕ) (v : View) (g : Good p ws views) → b < bindings p → get_elem? views id ≡ some v
    → AllAnswered (set views id (toggled_as kind (disposed (binding_word p ws b) == 1) b (binding_word p ws b) v))
answered_toggled kind p ws views id b v g lt at =
    let o : ℕ = binding_word p ws b in
    let gone : Bool = disposed o == 1 in
    let w : View = toggled_as kind gone b o v in
    let new : Toggle = made kind gone b o v in
    let more : (k : Bool) (c x : ℕ) → of_all (toggles_from k c x) v ≤ of_all (toggles_from k c x) w = λ k c x. omega (arith, from_more v.deeds w.deeds v.taken new refl k c x) in
    let grown : (k : Bool) (c x : ℕ) → There views k c x ≤ There (set views id w) k c x = λ k c x. omega (arith, total-set (of_all (toggles_from k c x)) views id v w at, more k c x) in
    let old = g.answered id v at v.deeds (inl refl) in
    answered_grows views id v w at more refl
    record {
      by_later = λ i j s t less first second is turned other so. ⊎_elim
          (λ was. let had = old.by_later i j s t less (earlier v.deeds.toggles new s t i j less was first) was is turned other so in omega (arith, grown t.disables t.binding (sum_in s.found)))
          (λ (now : new ≡ t). ⊎_elim
          (λ before. let had = later_reply p ws views id b v g at lt kind (ap found_so now ∙ so) i s before (ap (λ (y : Toggle). y.binding) now ∙ sym is) turned (other ∙ ap (λ (y : Toggle). not y.disables) (sym now)) in
          subst (λ (y : Toggle). 0 < There (set views id w) y.disables y.binding (sum_in s.found)) now (omega (arith, grown kind b (sum_in s.found))))
          (λ (twice : new ≡ s). absurd (not_same kind (ap (λ (y : Toggle). y.disables) twice ∙ (other ∙ ap (λ (y : Toggle). not y.disables) (sym now)))))
          (at_snoc v.deeds.toggles new s i first))
          (at_snoc v.deeds.toggles new t j second);
      by_any = λ j t there is so. ⊎_elim
          (λ was. let had = old.by_any j t was is so in omega (arith, grown true t.binding 0))
          (λ (now : new ≡ t). let kind_is : kind ≡ true = ap (λ (y : Toggle). y.disables) now ∙ is in
          let had = any_reply p ws views id b v g at lt (ap (λ k. already k o) (sym kind_is) ∙ (ap found_so now ∙ so)) in
          subst (λ (c : ℕ). 0 < There (set views id w) true c 0) (ap (λ (y : Toggle). y.binding) now) (omega (arith, grown true b 0)))
          (at_snoc v.deeds.toggles new t j there);
    } g.answered

-- what the toggles say after a disable, and after an enable
module _ (o x l : ℕ) (d e f d' e' f' : ℕ → ℕ) (limit_is : disposed o ≡ 0 → l ≡ sum_in o) (gone_same : disposed x ≡ disposed o) (ff : (y : ℕ) → f' y ≡ f y) (s : Switched o l d e f) where
  -- with no change of either
  unturned : ((y : ℕ) → d' y ≡ d y) → ((y : ℕ) → e' y ≡ e y) → (disposed o ≡ 0 → off x ≡ off o) → Switched x l d' e' f'
  unturned dd ee same_off = record {
    below = λ y h. omega (arith, s.below y h, dd y, ee y, ff y);
    on = λ y h k. omega (arith, s.on y h (sym gone_same ∙ k), dd y, ee y, same_off (sym gone_same ∙ k));
    gone = λ y h k. ⊎_elim (λ (z : d y ≡ e y). inl (omega (arith, dd y, ee y))) (λ (z : d y ≡ e y + 1). inr (omega (arith, dd y, ee y))) (s.gone y h (sym gone_same ∙ k));
    none = λ y h. omega (arith, s.none y h, ff y);
  }

  disabled : disposed o ≡ 0 → off o ≡ 0 → off x ≡ 1 → ((y : ℕ) → d' y ≡ d y + once_below (sum_in o) (suc y)) → ((y : ℕ) → e' y ≡ e y) → Switched x l d' e' f'
  disabled still was now dd ee = record {
    below = λ y h. omega (arith, s.below y h, dd y, ee y, ff y, high_none (sum_in o) y (omega (arith, limit_is still)));
    on = λ y h k. omega (arith, s.on y h still, dd y, ee y, low_one (sum_in o) y (omega (arith, limit_is still)));
    gone = λ y h k. absurd (omega arith);
    none = λ y h. omega (arith, s.none y h, ff y);
  }

  enabled : disposed o ≡ 0 → off o ≡ 1 → off x ≡ 0 → ((y : ℕ) → d' y ≡ d y) → ((y : ℕ) → e' y ≡ e y + once_below (sum_in o) (suc y)) → Switched x l d' e' f'
  enabled still was now dd ee = record {
    below = λ y h. omega (arith, s.below y h, dd y, ee y, ff y, high_none (sum_in o) y (omega (arith, limit_is still)));
    on = λ y h k. omega (arith, s.on y h still, dd y, ee y, low_one (sum_in o) y (omega (arith, limit_is still)));
    gone = λ y h k. absurd (omega arith);
    none = λ y h. omega (arith, s.none y h, ff y);
  }

-- A step that leaves "attached", "disposed" and the sum of the word o, and turns "off" as its kind says
toggles : (kind : Bool) (p : Layout) (ws : List ℕ) (views : List View) (id b x : ℕ) (v : View) (g : Good p ws views) → b < bindings p → get_elem? views id ≡ some v → 0 < v.seat_share
    → attached x ≡ attached (binding_word p ws b) → disposed x ≡ disposed (binding_word p ws b) → sum_in x ≡ sum_in (binding_word p ws b)
    → ((d e f d' e' f' : ℕ → ℕ) → ((y : ℕ) → d' y + of_all (toggles_upto true b y) v ≡ d y + of_all (toggles_upto true b y) (toggled_as kind (disposed (binding_word p ws b) == 1) b (binding_word p ws b) v)) → ((y : ℕ) → e' y + of_all (toggles_upto false b y) v ≡ e y + of_all (toggles_upto false b y) (toggled_as kind (disposed (binding_word p ws b) == 1) b (binding_word p ws b) v))
    → ((y : ℕ) → f' y + of_all (misses b y) v ≡ f y + of_all (misses b y) (toggled_as kind (disposed (binding_word p ws b) == 1) b (binding_word p ws b) v)) → Switched (binding_word p ws b) (g.limit b) d e f → Switched x (g.limit b) d' e' f')
    → Good p (set ws (binding_at p b) x) (set views id (toggled_as kind (disposed (binding_word p ws b) == 1) b (binding_word p ws b) v))
toggles kind p ws views id b x v g lt at seated a d n switch =
    let o : ℕ = binding_word p ws b in
    let l : ℕ → ℕ = g.limit in
    let gone : Bool = disposed o == 1 in
    let w : View = toggled_as kind gone b o v in
    let low : turns kind o ≡ true → sum_in o ≡ l b = λ t. sym (g.sound.until b lt (turn_needs kind o t)) in
    binding_steps p ws views id b x (l b) v w g lt at
    record { attached_stays = λ e. a ∙ e; disposed_stays = λ e. d ∙ e; limit_stays = λ e. refl; limit_grows = omega arith; none_yet = λ e. n ∙ g.sound.none_yet b lt (sym a ∙ e); until = λ e. g.sound.until b lt (sym d ∙ e) ∙ sym n; within = let h = g.sound.within b lt in omega arith }
    (λ live k m. g.sound.marked b k lt (sym a ∙ live.0, sym d ∙ live.1) m)
    (λ on k m. g.sound.summed b k lt (sym a ∙ on) m)
    record {
      drawn_here = λ y. omega (arith, drawn_same v.deeds w.deeds v.taken refl b y);
      drawn_else = λ c y ne. drawn_same v.deeds w.deeds v.taken refl c y;
      first_here = omega (arith, firsts_same v.deeds w.deeds v.taken refl b);
      first_else = λ c ne. firsts_same v.deeds w.deeds v.taken refl c;
      ended_here = omega (arith, disposals_same v.deeds w.deeds v.taken refl b);
      ended_else = λ c ne. disposals_same v.deeds w.deeds v.taken refl c;
      draws = omega (arith, n);
      seats = refl;
      talks = refl;
      upto_else = λ k c y ne. upto_else kind gone b o v k c y ne;
      misses_else = λ c y ne. misses_same v.deeds w.deeds v.taken refl c y;
      switch = switch;
    }
    (fits_toggled kind gone b o v p (set ws (binding_at p b) x) (put l b (l b)) (λ e. ap disposed (word_here p ws b x (l b) l (room g) lt) ∙ (d ∙ eqb_is (disposed o) 1 e)) (λ t. omega (arith, low t, put_here l b (l b)))
    (λ j s m there t is number. omega (arith, low t, drawn_below p ws views id b j m v s g at lt there (sym is) number)) seated)
    (answered_toggled kind p ws views id b v g lt at)

pub disables : (p : Layout) (b : ℕ) → Keeps p (set_off b)
disables p b h id v g at seated may =
    let lt : b < bindings p = may.0 in
    let o : ℕ = binding_word p h.words b in
    let x : ℕ = with_off o in
    let gone : Bool = disposed o == 1 in
    let w : View = toggled_as true gone b o v in
    let dx : disposed x ≡ disposed o = disposed-with_off o in
    let fx : off x ≡ 1 = off-with_off o in
    toggles true p h.words h.views id b x v g lt at seated (attached-with_off o) dx (sum_in-with_off o)
    (λ d e f d' e' f' dd ee ff s.
    let mis : (y : ℕ) → f' y ≡ f y = λ y. omega (arith, ff y, misses_same v.deeds w.deeds v.taken refl b y) in
    let ena : (y : ℕ) → e' y ≡ e y = λ y. omega (arith, ee y, upto_made true gone b o v false false y refl) in
    let limit_is : disposed o ≡ 0 → g.limit b ≡ sum_in o = λ still. g.sound.until b lt still in
    ⊎_elim
    (λ (still : disposed o ≡ 0). ⊎_elim
    (λ (was : off o ≡ 0). disabled o x (g.limit b) d e f d' e' f' limit_is dx mis s still was fx (λ y. omega (arith, dd y, upto_made true gone b o v true true y (turns_off o still was))) ena)
    (λ (was : off o ≡ 1). unturned o x (g.limit b) d e f d' e' f' limit_is dx mis s (λ y. omega (arith, dd y, upto_made true gone b o v true false y (already_off o still was))) ena (λ _. fx ∙ sym was))
    (zero_or_one (off o) (off_fits o)))
    (λ (dead : disposed o ≡ 1). unturned o x (g.limit b) d e f d' e' f' limit_is dx mis s (λ y. omega (arith, dd y, upto_made true gone b o v true false y (turns_none true o dead))) ena (λ still. absurd (omega arith)))
    (zero_or_one (disposed o) (disposed_fits o)))

pub enables : (p : Layout) (b : ℕ) → Keeps p (clear_off b)
enables p b h id v g at seated may =
    let lt : b < bindings p = may.0 in
    let o : ℕ = binding_word p h.words b in
    let x : ℕ = without_off o in
    let gone : Bool = disposed o == 1 in
    let w : View = toggled_as false gone b o v in
    let low : sum_in o < 2 ^ 61 = omega (arith, g.counted.draws, added-at (λ c. sum_in (binding_word p h.words c)) (bindings p) b lt) in
    let dx : disposed x ≡ disposed o = disposed-without_off o in
    let fx : off x ≡ 0 = off-without_off o in
    toggles false p h.words h.views id b x v g lt at seated (attached-without_off o) dx (sum_in-without_off o low)
    (λ d e f d' e' f' dd ee ff s.
    let mis : (y : ℕ) → f' y ≡ f y = λ y. omega (arith, ff y, misses_same v.deeds w.deeds v.taken refl b y) in
    let dis : (y : ℕ) → d' y ≡ d y = λ y. omega (arith, dd y, upto_made false gone b o v true false y refl) in
    let limit_is : disposed o ≡ 0 → g.limit b ≡ sum_in o = λ still. g.sound.until b lt still in
    ⊎_elim
    (λ (still : disposed o ≡ 0). ⊎_elim
    (λ (was : off o ≡ 0). unturned o x (g.limit b) d e f d' e' f' limit_is dx mis s dis (λ y. omega (arith, ee y, upto_made false gone b o v false false y (already_on o still was))) (λ _. fx ∙ sym was))
    (λ (was : off o ≡ 1). enabled o x (g.limit b) d e f d' e' f' limit_is dx mis s still was fx dis (λ y. omega (arith, ee y, upto_made false gone b o v false true y (turns_on o still was))))
    (zero_or_one (off o) (off_fits o)))
    (λ (dead : disposed o ≡ 1). unturned o x (g.limit b) d e f d' e' f' limit_is dx mis s dis (λ y. omega (arith, ee y, upto_made false gone b o v false false y (turns_none false o dead))) (λ still. absurd (omega arith)))
    (zero_or_one (disposed o) (disposed_fits o)))
