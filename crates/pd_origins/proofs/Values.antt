-- At each event the value of a variable is the one that the right side of its last assignment gave. An assignment changes its variable
-- before its Return is told, so a run keeps this but between the two.
use Rattle.std.proofs.Common.{◌≡◌, ℕ, zero, suc, ◌<◌, ◌≤◌, Bool, true, false, cond, ◌&&◌, List, [], ◌∷◌, ◌++◌, length, take, Option, Some, None, refl, sym, ap, subst, ◌∙◌, inl, inr, ⊎_elim, arith}
use Rattle.std.specs.Prelude.{◌⊎◌, ◌==◌, slice_get, slice_index_or, slice_set}
use Rattle.std.proofs.lemmas.Bool.{cases_Bool, eqb-true, and_parts, and_cases}
use Rattle.std.proofs.lemmas.Option.{same_Some, slice_get_within}
use Rattle.pd_values.specs.declared.value.Value.{Value}
use Rattle.pd_tree.specs.Program.{Program}
use Rattle.pd_machine.specs.declared.run.Frame.{Frame}
use Rattle.pd_machine.specs.declared.run.Home.{Home}
use Rattle.pd_machine.specs.declared.run.Home.TheVariants.{InFrame, InMain}
use Rattle.pd_machine.specs.Events.{Scene, Told, change_at, set_home, variables_of, push_frame, standing}
use Rattle.pd_machine.proofs.Changed.{standing_variables}
use Rattle.pd_origins.specs.declared.ledger.Live.{Live}
use Rattle.pd_origins.specs.Ledger.{Ledger, latest, put, latest_in, left, noted}
use Rattle.pd_origins.specs.Laws.{IsGivenBefore}
use Rattle.pd_origins.proofs.Puts.{latest_put, latest_put_in, differ}
use Rattle.pd_origins.proofs.Gets.{get_push, get_but_last, IsHere, get_change}

-- ---- lists

pub get_more : {A : Type 0} (xs ys : List A) (k : ℕ) (x : A) → slice_get xs k ≡ Some x → slice_get (xs ++ ys) k ≡ Some x
get_more [] ys k x h = absurd (cc)
get_more (z ∷ xs) ys zero x h = h
get_more (z ∷ xs) ys (suc k) x h = get_more xs ys k x h

get_take : {A : Type 0} (xs : List A) (n k : ℕ) (x : A) → slice_get (take n xs) k ≡ Some x → slice_get xs k ≡ Some x
get_take [] zero k x h = absurd (cc)
get_take [] (suc n) k x h = absurd (cc)
get_take (z ∷ xs) zero k x h = absurd (cc)
get_take (z ∷ xs) (suc n) zero x h = h
get_take (z ∷ xs) (suc n) (suc k) x h = get_take xs n k x h

set_same : (vs : List Value) (slot : ℕ) (b a : Value) → slice_get (slice_set vs slot b) slot ≡ Some a → b ≡ a
set_same [] slot b a h = absurd (cc)
set_same (x ∷ vs) zero b a h = same_Some b a h
set_same (x ∷ vs) (suc slot) b a h = set_same vs slot b a h

set_other : (vs : List Value) (slot s : ℕ) (b : Value) → (slot ≡ s → ⊥) → slice_get (slice_set vs slot b) s ≡ slice_get vs s
set_other [] slot s b h = refl
set_other (x ∷ vs) zero zero b h = absurd (h refl)
set_other (x ∷ vs) zero (suc s) b h = refl
set_other (x ∷ vs) (suc slot) zero b h = refl
set_other (x ∷ vs) (suc slot) (suc s) b h = set_other vs slot s b (λ e. h (ap suc e))

-- ---- variables of frames and of main blocks after one was set

abbrev setting : ℕ → Value → Frame → Frame
setting slot b f = record f { variables = slice_set f.variables slot b }

vars_here : (fs : List Frame) (j slot : ℕ) (b : Value) → variables_of (slice_get (change_at fs j (setting slot b)) j) ≡ slice_set (variables_of (slice_get fs j)) slot b
vars_here [] j slot b = refl
vars_here (f ∷ fs) zero slot b = refl
vars_here (f ∷ fs) (suc j) slot b = vars_here fs j slot b

vars_other : (fs : List Frame) (j k slot : ℕ) (b : Value) → (k ≡ j → ⊥) → variables_of (slice_get (change_at fs j (setting slot b)) k) ≡ variables_of (slice_get fs k)
vars_other [] j k slot b h = refl
vars_other (f ∷ fs) zero zero slot b h = absurd (h refl)
vars_other (f ∷ fs) zero (suc k) slot b h = refl
vars_other (f ∷ fs) (suc j) zero slot b h = refl
vars_other (f ∷ fs) (suc j) (suc k) slot b h = vars_other fs j k slot b (λ e. h (ap suc e))

main_here : (ms : List (List Value)) (m slot : ℕ) (b : Value) → slice_index_or (change_at ms m (λ vs. slice_set vs slot b)) m [] ≡ slice_set (slice_index_or ms m []) slot b
main_here [] m slot b = refl
main_here (x ∷ ms) zero slot b = refl
main_here (x ∷ ms) (suc m) slot b = main_here ms m slot b

main_other : (ms : List (List Value)) (m k slot : ℕ) (b : Value) → (m ≡ k → ⊥) → slice_index_or (change_at ms m (λ vs. slice_set vs slot b)) k [] ≡ slice_index_or ms k []
main_other [] m k slot b h = refl
main_other (x ∷ ms) zero zero slot b h = absurd (h refl)
main_other (x ∷ ms) zero (suc k) slot b h = refl
main_other (x ∷ ms) (suc m) zero slot b h = refl
main_other (x ∷ ms) (suc m) (suc k) slot b h = main_other ms m k slot b (λ e. h (ap suc e))

-- ---- what the values agree with

-- each variable of these frames and main blocks has the value that its last write in the ledger gave
pub record IsAgreed (p : Program) (ts : List Told) (l : Ledger) (c : Scene) : Type 0 where
  pub frames : (k : ℕ) (x : Live) → slice_get l.live k ≡ Some x → (slot w : ℕ) → latest slot x.last ≡ Some w → (a : Value) → slice_get (variables_of (slice_get c.frames k)) slot ≡ Some a → IsGivenBefore p ts w a
  pub mains : (source slot w : ℕ) → latest_in source slot l.mains ≡ Some w → (a : Value) → slice_get (slice_index_or c.mains source []) slot ≡ Some a → IsGivenBefore p ts w a

module _ (p : Program) where
  pub given_more : (ts : List Told) (t : Told) (w : ℕ) (a : Value) → IsGivenBefore p ts w a → IsGivenBefore p (ts ++ t ∷ []) w a
  given_more ts t w a g = record {
    before = g.before;
    next = g.next;
    right = g.right;
    at = get_more ts (t ∷ []) g.before g.right g.at;
    gave = g.gave;
    write = g.write;
    write_at = get_more ts (t ∷ []) w g.write g.write_at;
    side = g.side;
  }

  -- one event more
  pub agreed_more : (ts : List Told) (t : Told) (l : Ledger) (c : Scene) → IsAgreed p ts l c → IsAgreed p (ts ++ t ∷ []) l c
  agreed_more ts t l c g = record {
    frames = λ k x h slot w e a va. given_more ts t w a (g.frames k x h slot w e a va);
    mains = λ source slot w e a va. given_more ts t w a (g.mains source slot w e a va);
  }

  -- the innermost frame stands at another node
  pub agreed_standing : (ts : List Told) (l : Ledger) (n : ℕ) (c : Scene) → IsAgreed p ts l c → IsAgreed p ts l (standing n c)
  agreed_standing ts l n c g = record {
    frames = λ k x h slot w e a va. g.frames k x h slot w e a (ap (λ vs. slice_get vs slot) (sym (standing_variables n c (Some (InFrame k)))) ∙ va);
    mains = g.mains;
  }

  -- a frame is popped
  pub agreed_pop : (ts : List Told) (l : Ledger) (n : ℕ) (c : Scene) → IsAgreed p ts l c → IsAgreed p ts l (record c { frames = take n c.frames })
  agreed_pop ts l n c g = record {
    frames = λ k x h slot w e a va. g.frames k x h slot w e a (by k slot a (slice_get (take n c.frames) k) refl va);
    mains = g.mains;
  }
    where
      by : (k slot : ℕ) (a : Value) (o : Option Frame) → slice_get (take n c.frames) k ≡ o → slice_get (variables_of (slice_get (take n c.frames) k)) slot ≡ Some a → slice_get (variables_of (slice_get c.frames k)) slot ≡ Some a
      by k slot a None e va = absurd (cc (ap (λ o. slice_get (variables_of o) slot) (sym e) ∙ va))
      by k slot a (Some f) e va = ap (λ o. slice_get (variables_of o) slot) (get_take c.frames n k f e ∙ sym e) ∙ va

  -- one is pushed, where the ledger has no activation for it yet
  pub agreed_push : (ts : List Told) (l : Ledger) (f : Frame) (c : Scene) → length l.live ≤ length c.frames → IsAgreed p ts l c → IsAgreed p ts l (push_frame f c)
  agreed_push ts l f c few g = record {
    frames = λ k x h slot w e a va. g.frames k x h slot w e a (by k x h slot a (slice_get c.frames k) refl va);
    mains = g.mains;
  }
    where
      by : (k : ℕ) (x : Live) → slice_get l.live k ≡ Some x → (slot : ℕ) (a : Value) (o : Option Frame) → slice_get c.frames k ≡ o → slice_get (variables_of (slice_get (c.frames ++ f ∷ []) k)) slot ≡ Some a → slice_get (variables_of (slice_get c.frames k)) slot ≡ Some a
      by k x h slot a None e va = absurd (gone c.frames k e (reach k (slice_get_within l.live k x h) few))
        where
          gone : (fs : List Frame) (k : ℕ) → slice_get fs k ≡ None → k < length fs → ⊥
          gone [] k e h = omega (arith, h)
          gone (g ∷ fs) zero e h = cc e
          gone (g ∷ fs) (suc k) e h = gone fs k e (omega (arith, h))

          reach : (k : ℕ) {m n : ℕ} → k < m → m ≤ n → k < n
          reach k h i = omega (arith, h, i)
      by k x h slot a (Some g) e va = ap (λ o. slice_get (variables_of o) slot) (e ∙ sym (get_more c.frames (f ∷ []) k g e)) ∙ va

  -- the innermost activation ends
  pub agreed_left : (ts : List Told) (l : Ledger) (c : Scene) → IsAgreed p ts l c → IsAgreed p ts (left l) c
  agreed_left ts l c g = record {
    frames = λ k x h slot w e a va. g.frames k x (get_but_last l.live x k h) slot w e a va;
    mains = g.mains;
  }

  -- one begins, in which nothing is assigned
  pub agreed_begun : (ts : List Told) (l : Ledger) (new : Live) (c : Scene) → new.last ≡ [] → IsAgreed p ts l c → IsAgreed p ts (record l { live = l.live ++ new ∷ [] }) c
  agreed_begun ts l new c e g = record {
    frames = λ k x h slot w i a va. ⊎_elim
        (λ (o : slice_get l.live k ≡ Some x). g.frames k x o slot w i a va)
        (λ (n : (k ≡ length l.live) × (new ≡ x)). absurd (cc (ap (latest slot) (sym e ∙ ap (λ y. y.last) n.1) ∙ i)))
        (get_push l.live new x k h);
    mains = g.mains;
  }

  -- ---- a variable is set, and its write is noted

  -- the later one of a slot, by cases
  picked_is : (q : Bool) (n : ℕ) (o : Option ℕ) (w : ℕ) → cond q (Some n) o ≡ Some w → ((q ≡ true) × (n ≡ w)) ⊎ ((q ≡ false) × (o ≡ Some w))
  picked_is true n o w h = inl (refl, same_Some n w h)
  picked_is false n o w h = inr (refl, h)

  module _ (ts more : List Told) (l : Ledger) (c : Scene) (slot n : ℕ) (b : Value) (grown : (w : ℕ) (a : Value) → IsGivenBefore p ts w a → IsGivenBefore p more w a) (now : IsGivenBefore p more n b) (g : IsAgreed p ts l c) where
    abbrev change : Live → Live
    change x = record x { last = put slot n x.last }

    in_frame : (j : ℕ) → IsAgreed p more (noted l (Some (InFrame j)) slot n) (set_home c (Some (InFrame j)) slot b)
    in_frame j = record {
      frames = λ k x h s w e a va. ⊎_elim
          (λ (i : IsHere l.live change j k x). here k x i s w e a va)
          (λ (i : (k ≡ j → ⊥) × (slice_get l.live k ≡ Some x)). grown w a (g.frames k x i.1 s w e a (ap (λ vs. slice_get vs s) (sym (vars_other c.frames j k slot b i.0)) ∙ va)))
          (get_change l.live change j k x h);
      mains = λ source s w e a va. grown w a (g.mains source s w e a va);
    }
      where
        here : (k : ℕ) (x : Live) → IsHere l.live change j k x → (s w : ℕ) → latest s x.last ≡ Some w → (a : Value) → slice_get (variables_of (slice_get (change_at c.frames j (setting slot b)) k)) s ≡ Some a → IsGivenBefore p more w a
        here k x i s w e a va =
            let set : slice_get (slice_set (variables_of (slice_get c.frames j)) slot b) s ≡ Some a = ap (λ vs. slice_get vs s) (sym (ap (λ m. variables_of (slice_get (change_at c.frames j (setting slot b)) m)) i.same ∙ vars_here c.frames j slot b)) ∙ va in
            ⊎_elim
            (λ (o : ((slot == s) ≡ true) × (n ≡ w)).
            let same : slot ≡ s = eqb-true slot s o.0 in
            subst (λ y. IsGivenBefore p more w y) (set_same (variables_of (slice_get c.frames j)) slot b a (ap (slice_get (slice_set (variables_of (slice_get c.frames j)) slot b)) same ∙ set))
            (subst (λ y. IsGivenBefore p more y b) o.1 now))
            (λ (o : ((slot == s) ≡ false) × (latest s i.old.last ≡ Some w)).
            grown w a (g.frames k i.old i.at s w o.1 a
            (ap (λ m. slice_get (variables_of (slice_get c.frames m)) s) i.same ∙ sym (set_other (variables_of (slice_get c.frames j)) slot s b (differ slot s o.0)) ∙ set)))
            (picked_is (slot == s) n (latest s i.old.last) w (sym (latest_put slot s n i.old.last) ∙ ap (λ y. latest s y.last) (sym i.new) ∙ e))

    in_main : (m : ℕ) → IsAgreed p more (noted l (Some (InMain m)) slot n) (set_home c (Some (InMain m)) slot b)
    in_main m = record {
      frames = λ k x h s w e a va. grown w a (g.frames k x h s w e a va);
      mains = λ source s w e a va. by source s w (picked_is ((m == source) && (slot == s)) n (latest_in source s l.mains) w (sym (latest_put_in m slot source s n l.mains) ∙ e)) a va;
    }
      where
        by : (source s w : ℕ) → ((((m == source) && (slot == s)) ≡ true) × (n ≡ w)) ⊎ ((((m == source) && (slot == s)) ≡ false) × (latest_in source s l.mains ≡ Some w))
            → (a : Value) → slice_get (slice_index_or (change_at c.mains m (λ vs. slice_set vs slot b)) source []) s ≡ Some a → IsGivenBefore p more w a
        by source s w (inl o) a va =
            let parts = and_parts (m == source) (slot == s) o.0 in
            let source_is : m ≡ source = eqb-true m source parts.0 in
            let slot_is : slot ≡ s = eqb-true slot s parts.1 in
            let set : slice_get (slice_set (slice_index_or c.mains m []) slot b) slot ≡ Some a =
            ap (slice_get (slice_set (slice_index_or c.mains m []) slot b)) slot_is ∙ ap (λ vs. slice_get vs s) (sym (main_here c.mains m slot b) ∙ ap (λ k. slice_index_or (change_at c.mains m (λ vs. slice_set vs slot b)) k []) source_is) ∙ va in
            subst (λ y. IsGivenBefore p more w y) (set_same (slice_index_or c.mains m []) slot b a set) (subst (λ y. IsGivenBefore p more y b) o.1 now)
        by source s w (inr o) a va = grown w a (g.mains source s w o.1 a (⊎_elim
            (λ (f : (m == source) ≡ false). ap (λ vs. slice_get vs s) (sym (main_other c.mains m source slot b (differ m source f))) ∙ va)
            (λ (f : (slot == s) ≡ false). ⊎_elim
            (λ (y : (m == source) ≡ true).
            let source_is : m ≡ source = eqb-true m source y in
            ap (λ k. slice_get (slice_index_or c.mains k []) s) (sym source_is) ∙ sym (set_other (slice_index_or c.mains m []) slot s b (differ slot s f))
            ∙ ap (λ vs. slice_get vs s) (sym (main_here c.mains m slot b) ∙ ap (λ k. slice_index_or (change_at c.mains m (λ vs. slice_set vs slot b)) k []) source_is) ∙ va)
            (λ (y : (m == source) ≡ false). ap (λ vs. slice_get vs s) (sym (main_other c.mains m source slot b (differ m source y))) ∙ va)
            (cases_Bool (m == source)))
            (and_cases (m == source) (slot == s) o.0)))

    pub agreed_set : (home : Option Home) → IsAgreed p more (noted l home slot n) (set_home c home slot b)
    agreed_set None = record {
      frames = λ k x h s w e a va. grown w a (g.frames k x h s w e a va);
      mains = λ source s w e a va. grown w a (g.mains source s w e a va);
    }
    agreed_set (Some (InFrame j)) = in_frame j
    agreed_set (Some (InMain m)) = in_main m
