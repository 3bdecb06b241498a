-- The order of the draws of one binding, and what is known of it.
use Rattle.std.proofs.Common.{◌≡◌, ◌≢◌, ◌⊎◌, ℕ, zero, suc, ◌+◌, ◌<◌, ◌≤◌, List, [], ◌∷◌, ◌++◌, map, length, replicate, get_or, Option, Some, None, sym, refl, ap, ◌∙◌, subst, inl, inr, arith, append_assoc, append-nil, length-append, eq-eqb, ne_eqb}
use Rattle.std.specs.Prelude.{slice_index}
use mathlib.Core.List.{map-append}
use mathlib.Core.Logic.{dite}
use native.Mathlib.Decide.{dec_lt}
use Rattle.pd_core.specs.declared.view.View.{View}
use Rattle.pd_core.specs.declared.view.Sight.{Sight}
use Rattle.pd_core.specs.Counts.{times, only_if}
use Rattle.pd_core.specs.Views.{Known, fresh, found_attached, found_disposed, known_of, known_in, known, number_in, if_of, outcomes}
use Rattle.pd_core.specs.Layout.{Rising}
use Rattle.pd_core.specs.Good.{Wave}

-- a place above all others comes behind them
rising_push : (ps : List ℕ) (x : ℕ) → Rising ps → ((i : ℕ) → i < length ps → slice_index ps i < x) → Rising (ps ++ x ∷ [])
rising_push ps x r below i j h k = dite (dec_lt j (length ps))
    (λ low. rw (get_or_front ps x i (omega arith), get_or_front ps x j low) (r i j h low))
    (λ high. let last : j ≡ length ps = omega (arith, length-append ps (x ∷ [])) in rw (get_or_front ps x i (omega arith), last, get_or_end ps x) (below i (omega arith)))
  where
    get_or_front : (ps : List ℕ) (x i : ℕ) → i < length ps → get_or (ps ++ x ∷ []) i 0 ≡ get_or ps i 0
    get_or_front [] x i h = absurd (omega arith)
    get_or_front (p ∷ ps) x zero h = refl
    get_or_front (p ∷ ps) x (suc i) h = get_or_front ps x i (omega arith)

    get_or_end : (ps : List ℕ) (x : ℕ) → get_or (ps ++ x ∷ []) (length ps) 0 ≡ x
    get_or_end [] x = refl
    get_or_end (p ∷ ps) x = get_or_end ps x

pub below_push : (ps : List ℕ) (x : ℕ) → ((i : ℕ) → i < length ps → slice_index ps i < x) → (i : ℕ) → i < length (ps ++ x ∷ []) → slice_index (ps ++ x ∷ []) i < x + 1
below_push [] x below zero h = omega arith
below_push [] x below (suc i) h = absurd (omega arith)
below_push (p ∷ ps) x below zero h = let b = below 0 (omega arith) in omega arith
below_push (p ∷ ps) x below (suc i) h = below_push ps x (λ k l. below (suc k) (omega arith)) i (omega arith)

replicate_push : {A : Type 0} (n : ℕ) (a : A) → replicate n a ++ a ∷ [] ≡ replicate (suc n) a
replicate_push zero a = refl
replicate_push (suc n) a = ap (λ xs. a ∷ xs) (replicate_push n a)

-- a draw with a place
pub wave_on : (l : ℕ) (outs : List (Option ℕ)) → Wave found_attached l outs → Wave found_attached (l + 1) (outs ++ Some l ∷ [])
wave_on l outs w =
    let none : w.behind ≡ 0 = elim (zero_or w.behind) [ inl e ↦ e | inr h ↦ absurd (attached_is_not (w.gone h)) ] in
    let first : List (Option ℕ) = replicate w.before None in
    let was : outs ≡ first ++ map Some w.drawn = w.in_order ∙ (ap (λ n. (first ++ map Some w.drawn) ++ replicate n None) none ∙ append-nil (first ++ map Some w.drawn)) in
    let more : map Some (w.drawn ++ l ∷ []) ≡ map Some w.drawn ++ Some l ∷ [] = map-append Some w.drawn (l ∷ []) in
    record {
      before = w.before;
      drawn = w.drawn ++ l ∷ [];
      behind = 0;
      in_order = ap (λ xs. xs ++ Some l ∷ []) was ∙ (append_assoc first (map Some w.drawn) (Some l ∷ []) ∙ (ap (λ xs. first ++ xs) (sym more) ∙ sym (append-nil (first ++ map Some (w.drawn ++ l ∷ [])))));
      rising = rising_push w.drawn l w.rising w.below;
      below = below_push w.drawn l w.below;
      not_fresh = λ _ e. cc;
      gone = λ h. absurd (omega arith);
    }
  where
    zero_or : (n : ℕ) → (n ≡ 0) ⊎ (0 < n)
    zero_or n = grind arith

    attached_is_not : found_attached ≡ found_disposed → ⊥
    attached_is_not e = cc

-- a draw without one, by which it is known as disposed
pub wave_off : (k : Known) (l : ℕ) (outs : List (Option ℕ)) → Wave k l outs → Wave found_disposed l (outs ++ None ∷ [])
wave_off k l outs w =
    let front : List (Option ℕ) = replicate w.before None ++ map Some w.drawn in
    record {
      before = w.before;
      drawn = w.drawn;
      behind = suc w.behind;
      in_order = ap (λ xs. xs ++ None ∷ []) w.in_order ∙ (append_assoc front (replicate w.behind None) (None ∷ []) ∙ ap (λ xs. front ++ xs) (replicate_push w.behind None));
      rising = w.rising;
      below = w.below;
      not_fresh = λ _ e. cc;
      gone = λ _. refl;
    }

-- a draw without one of a binding that stays fresh
pub wave_off_fresh : (l : ℕ) (outs : List (Option ℕ)) → Wave fresh l outs → Wave fresh l (outs ++ None ∷ [])
wave_off_fresh l outs w =
    let no_behind : w.behind ≡ 0 = elim (zero_or w.behind) [ inl e ↦ e | inr h ↦ absurd (fresh_is_not (w.gone h)) ] in
    let no_place : w.drawn ≡ [] = empty w.drawn (λ h. w.not_fresh h refl) in
    record {
      before = suc w.before;
      drawn = [];
      behind = 0;
      in_order = ap (λ xs. xs ++ None ∷ []) (w.in_order ∙ (λ i. (replicate w.before None ++ map Some (no_place i)) ++ replicate (no_behind i) None))
          ∙ (ap (λ xs. xs ++ None ∷ []) (append-nil (replicate w.before None ++ []) ∙ append-nil (replicate w.before None)) ∙ (replicate_push w.before None ∙ sym (append-nil (replicate (suc w.before) None ++ []) ∙ append-nil (replicate (suc w.before) None))));
      rising = λ i j h k. absurd (omega arith);
      below = λ i h. absurd (omega arith);
      not_fresh = λ h e. omega arith;
      gone = λ h. absurd (omega arith);
    }
  where
    zero_or : (n : ℕ) → (n ≡ 0) ⊎ (0 < n)
    zero_or n = grind arith

    fresh_is_not : fresh ≡ found_disposed → ⊥
    fresh_is_not e = cc

    empty : (xs : List ℕ) → (0 < length xs → ⊥) → xs ≡ []
    empty [] h = refl
    empty (x ∷ xs) h = absurd (h (omega arith))

pub wave_later : (k k' : Known) (l : ℕ) (outs : List (Option ℕ)) → k' ≢ fresh → (k ≡ found_disposed → k' ≡ found_disposed) → Wave k l outs → Wave k' l outs
wave_later k k' l outs nf later w = record {
  before = w.before;
  drawn = w.drawn;
  behind = w.behind;
  in_order = w.in_order;
  rising = w.rising;
  below = w.below;
  not_fresh = λ _ e. nf e;
  gone = λ h. later (w.gone h);
}

pub outcomes-append : (b : ℕ) (xs ys : List Sight) → outcomes b (xs ++ ys) ≡ outcomes b xs ++ outcomes b ys
unfolding outcomes
outcomes-append b [] ys = refl
outcomes-append b (x ∷ xs) ys = ap (λ zs. if_of b x ++ zs) (outcomes-append b xs ys) ∙ sym (append_assoc (if_of b x) (outcomes b xs) (outcomes b ys))

pub outcomes_here : (b : ℕ) (xs : List Sight) (s : Sight) → b ≡ s.binding → outcomes b (xs ++ s ∷ []) ≡ outcomes b xs ++ (number_in s.drawn) ∷ []
unfolding outcomes
outcomes_here b xs s e = outcomes-append b xs (s ∷ []) ∙ ap (λ t. outcomes b xs ++ (only_if t (number_in s.drawn) ++ [])) (eq-eqb b s.binding e)

pub outcomes_else : (b : ℕ) (xs : List Sight) (s : Sight) → b ≢ s.binding → outcomes b (xs ++ s ∷ []) ≡ outcomes b xs
unfolding outcomes
outcomes_else b xs s ne = outcomes-append b xs (s ∷ []) ∙ (ap (λ t. outcomes b xs ++ (only_if t (number_in s.drawn) ++ [])) (ne_eqb b s.binding ne) ∙ append-nil (outcomes b xs))

of_attached : (d a : ℕ) → known_of d a ≡ found_attached → (d ≡ 0) × (0 < a)
of_attached zero zero e = absurd (cc)
of_attached zero (suc a) e = (refl, omega arith)
of_attached (suc d) a e = absurd (cc)

of_fresh : (d a : ℕ) → known_of d a ≡ fresh → (d ≡ 0) × (a ≡ 0)
of_fresh zero zero e = (refl, refl)
of_fresh zero (suc a) e = absurd (cc)
of_fresh (suc d) a e = absurd (cc)

of_disposed : (d a : ℕ) → known_of d a ≡ found_disposed → 0 < d
of_disposed zero zero e = absurd (cc)
of_disposed zero (suc a) e = absurd (cc)
of_disposed (suc d) a e = omega arith

to_disposed : (d a : ℕ) → 0 < d → known_of d a ≡ found_disposed
to_disposed zero a h = absurd (omega arith)
to_disposed (suc d) a h = refl

to_attached : (d a : ℕ) → d ≡ 0 → 0 < a → known_of d a ≡ found_attached
to_attached zero zero e h = absurd (omega arith)
to_attached zero (suc a) e h = refl
to_attached (suc d) a e h = absurd (omega arith)

pub known_attached : (v : View) (b : ℕ) → known v b ≡ found_attached → (times b v.found_disposed ≡ 0) × (0 < times b v.found_attached)
unfolding known_in
known_attached v b e = of_attached (times b v.found_disposed) (times b v.found_attached) e

pub known_disposed : (v : View) (b : ℕ) → known v b ≡ found_disposed → 0 < times b v.found_disposed
unfolding known_in
known_disposed v b e = of_disposed (times b v.found_disposed) (times b v.found_attached) e

pub known_fresh : (v : View) (b : ℕ) → known v b ≡ fresh → (times b v.found_disposed ≡ 0) × (times b v.found_attached ≡ 0)
unfolding known_in
known_fresh v b e = of_fresh (times b v.found_disposed) (times b v.found_attached) e

pub is_disposed : (v : View) (b : ℕ) → 0 < times b v.found_disposed → known v b ≡ found_disposed
unfolding known_in
is_disposed v b h = to_disposed (times b v.found_disposed) (times b v.found_attached) h

pub is_attached : (v : View) (b : ℕ) → times b v.found_disposed ≡ 0 → 0 < times b v.found_attached → known v b ≡ found_attached
unfolding known_in
is_attached v b d h = to_attached (times b v.found_disposed) (times b v.found_attached) d h

pub same_known : (v w : View) (b : ℕ) → times b w.found_disposed ≡ times b v.found_disposed → times b w.found_attached ≡ times b v.found_attached → known w b ≡ known v b
unfolding known_in
same_known v w b d a = λ i. known_of (d i) (a i)

-- what is known later, where it was found attached
pub known_later : (v w : View) (b : ℕ) → times b v.found_disposed ≤ times b w.found_disposed → 0 < times b w.found_attached → (known w b ≢ fresh) × (known v b ≡ found_disposed → known w b ≡ found_disposed)
known_later v w b more some = ((λ e. let no = known_fresh w b e in omega (arith, no.1)), (λ e. is_disposed w b (omega (arith, known_disposed v b e))))

-- waves of equal parts
pub wave_same : (k k' : Known) (l l' : ℕ) (o o' : List (Option ℕ)) → k ≡ k' → l ≡ l' → o ≡ o' → Wave k l o → Wave k' l' o'
wave_same k k' l l' o o' e f h w = subst (λ (y : Known × ℕ × List (Option ℕ)). Wave y.0 y.1 y.2) (λ i. (e i, f i, h i)) w

-- with more known
pub wave_up : (v w : View) (c l : ℕ) (outs : List (Option ℕ)) → times c v.found_disposed ≤ times c w.found_disposed → times c v.found_attached ≤ times c w.found_attached → Wave (known v c) l outs → Wave (known w c) l outs
wave_up v w c l outs more_disposed more_attached wave = dite (dec_lt 0 (times c w.found_disposed))
    (λ gone. let now : known w c ≡ found_disposed = is_disposed w c gone in wave_same found_disposed (known w c) l l outs outs (sym now) refl refl (wave_later (known v c) found_disposed l outs (λ x. cc) (λ _. refl) wave))
    (λ not_gone. dite (dec_lt 0 (times c w.found_attached))
    (λ on. let now : known w c ≡ found_attached = is_attached w c (omega arith) on in wave_same found_attached (known w c) l l outs outs (sym now) refl refl
    (wave_later (known v c) found_attached l outs (λ x. cc) (λ e. absurd (let some = known_disposed v c e in omega arith)) wave))
    (λ none. wave_same (known v c) (known w c) l l outs outs (sym (same_known v w c (omega arith) (omega arith))) refl refl wave))
