-- The counters of a step see exactly where it ends.
use Rattle.std.proofs.Common.{◌≡◌, ℕ, zero, suc, ◌+◌, ◌-◌, min, Bool, true, false, inl, inr, ◌==◌, ◌&&◌, List, [], ◌∷◌, ◌++◌, map, length, take, drop, refl, sym, ap, ◌∙◌, subst, arith, length-drop}
use Rattle.std.specs.Prelude.{if◌then◌else◌, nat_lt, count_by}
use Rattle.std.proofs.lemmas.Bool.{cases_lt, cond-true, cond-false, lt-ltb, le-ltb, ne_eqb}
use Rattle.std.proofs.lemmas.List.{append-nil, length-append}
use Rattle.std.proofs.lemmas.List.Sums.{sum_by_push}
use Rattle.std.proofs.Math.Seq.{take-append_seam, append_snoc, take-length}
use Rattle.pd_tree.specs.Program.{Program}
use Rattle.pd_machine.specs.Events.{Told}
use Rattle.pd_suspend.specs.Steps.{Armed, counts, wanted, stretch, least_depth, least_before, is_place, stands_before, stands_after}
use Rattle.pd_suspend.specs.Counters.{Counters, armed, sees, moved, moved_by}
use Rattle.std.specs.List.{range_with_len}
use Rattle.pd_suspend.specs.Laws.{CountersSee}

-- ---- numbers, one event after another

-- the events have these numbers, one after another
IsNumberedFrom : ℕ → List Told → Type 0
IsNumberedFrom n [] = Unit {0}
IsNumberedFrom n (t ∷ ts) = (t.event.number ≡ n) × IsNumberedFrom (suc n) ts

head_of : List ℕ → ℕ
head_of [] = 0
head_of (n ∷ ns) = n

tail_of : List ℕ → List ℕ
tail_of [] = []
tail_of (n ∷ ns) = ns

plus-one : (n : ℕ) → n + 1 ≡ suc n
plus-one n = omega arith

one-by-one : (n : ℕ) (ts : List Told) → map (λ (t : Told). t.event.number) ts ≡ range_with_len n (length ts) → IsNumberedFrom n ts
unfolding IsNumberedFrom head_of tail_of
one-by-one n [] h = tt
one-by-one n (t ∷ ts) h = (ap head_of h, one-by-one (suc n) ts (ap tail_of h ∙ ap (λ m. range_with_len m (length ts)) (plus-one n)))

-- ---- one more event

min-swap : (a b c : ℕ) → min a (min b c) ≡ min b (min a c)
min-swap a b c = omega arith

least-push : (d : ℕ) (ts : List Told) (t : Told) → least_depth d (ts ++ t ∷ []) ≡ min t.event.depth (least_depth d ts)
least-push d [] t = refl
least-push d (x ∷ xs) t = ap (min x.event.depth) (least-push d xs t) ∙ min-swap x.event.depth t.event.depth (least_depth d xs)

count-push : {X : Type 0} (test : X → Bool) (xs : List X) (x : X) → count_by test (xs ++ x ∷ []) ≡ count_by test xs + (if test x then 1 else 0)
count-push test xs x = sum_by_push (λ y. if test y then 1 else 0) xs x

-- ---- places that count

-- the counter stays at the place that is wanted
cap-counts : (b : Bool) (k w : ℕ) → (if b && nat_lt (min k w) w then min k w + 1 else min k w) ≡ min (k + (if b then 1 else 0)) w
cap-counts false k w = omega arith
cap-counts true k w = elim (cases_lt k w) [
  | inl low ↦ cond-true (nat_lt (min k w) w) (min k w + 1) (min k w) (lt-ltb (min k w) w (omega (arith, low))) ∙ omega (arith, low)
  | inr high ↦ cond-false (nat_lt (min k w) w) (min k w + 1) (min k w) (le-ltb (min k w) w (omega (arith, high))) ∙ omega (arith, high)
]

-- and the step ends there once
cap-ends : (b : Bool) (k w : ℕ) → ((b && nat_lt (min k w) w) && (suc (min k w) == w)) ≡ (b && (suc k == w))
cap-ends false k w = refl
cap-ends true k w = elim (cases_lt k w) [
  | inl low ↦
      let is : min k w ≡ k = omega (arith, low) in
      ap (λ x. x && (suc (min k w) == w)) (lt-ltb (min k w) w (omega (arith, low))) ∙ ap (λ m. suc m == w) is
  | inr high ↦
      ap (λ x. x && (suc (min k w) == w)) (le-ltb (min k w) w (omega (arith, high))) ∙ sym (ne_eqb (suc k) w (λ e. omega (arith, high, e)))
]

-- ---- the counters after some of the events

module _ (p : Program) (past : List Told) (a : Armed) where
  made : ℕ → ℕ → Counters
  made least count = record { step = a.step; depth = a.depth; least = least; count = count }

  state : List Told → Counters
  unfolding made
  state done = made (least_depth a.depth done) (min (count_by (λ t. is_place p past a t.event) done) (wanted a.step))

  moved-state : (done : List Told) (t : Told) → least_before past a t.event.number ≡ least_depth a.depth done
      → moved (state done) (stands_before p t.event) (stands_after p t.event) t.event.depth ≡ state (done ++ t ∷ [])
  unfolding state made
  moved-state done t h =
      let test : Told → Bool = λ t. is_place p past a t.event in
      let k : ℕ = count_by test done in
      let w : ℕ = wanted a.step in
      let counted : ℕ → Bool = λ least. counts a.step a.depth least (stands_before p t.event) (stands_after p t.event) t.event.depth in
      ap (λ x. made x (if counted (least_depth a.depth done) && nat_lt (min k w) w then min k w + 1 else min k w)) (sym (least-push a.depth done t))
      ∙ ap (made (least_depth a.depth (done ++ t ∷ []))) (cap-counts (counted (least_depth a.depth done)) k w)
      ∙ ap (λ x. made (least_depth a.depth (done ++ t ∷ [])) (min (k + (if counted x then 1 else 0)) w)) (sym h)
      ∙ ap (λ x. made (least_depth a.depth (done ++ t ∷ [])) (min x w)) (sym (count-push test done t))

  run-states : (later : List Told) → drop (suc a.event) past ≡ later → (done rest : List Told) → done ++ rest ≡ later
      → IsNumberedFrom (suc a.event + length done) rest → moved_by p (state done) rest ≡ state later
  unfolding IsNumberedFrom
  run-states later d done [] e n = ap state (sym (append-nil done) ∙ e)
  run-states later d done (t ∷ ts) e n =
      let number : t.event.number ≡ suc a.event + length done = n.0 in
      let far : t.event.number - suc a.event ≡ length done = omega (arith, number) in
      let before : stretch past (suc a.event) t.event.number ≡ done =
      ap (λ x. take x (drop (suc a.event) past)) far ∙ ap (take (length done)) (d ∙ sym e) ∙ take-append_seam done (t ∷ ts) in
      let longer : suc (suc a.event + length done) ≡ suc a.event + length (done ++ t ∷ []) =
      let l : length (done ++ t ∷ []) ≡ length done + 1 = length-append done (t ∷ []) in omega (arith, l) in
      ap (λ c. moved_by p c ts) (moved-state done t (ap (least_depth a.depth) before))
      ∙ run-states later d (done ++ t ∷ []) ts (append_snoc done t ts ∙ e) (subst (λ m. IsNumberedFrom m ts) longer n.1)

-- ---- the law

none-yet : (w : ℕ) → 0 ≡ min 0 w
none-yet w = omega arith

numbered-drop : (n k : ℕ) (ts : List Told) → IsNumberedFrom n ts → IsNumberedFrom (n + k) (drop k ts)
unfolding IsNumberedFrom
numbered-drop n zero ts h = subst (λ m. IsNumberedFrom m ts) (omega arith) h
numbered-drop n (suc k) [] h = tt
numbered-drop n (suc k) (t ∷ ts) h = subst (λ m. IsNumberedFrom m (drop k ts)) (omega arith) (numbered-drop (suc n) k ts h.1)

pub counters_see : CountersSee
unfolding state made
counters_see p past a t numbered within number =
    let later : List Told = drop (suc a.event) past in
    let from : IsNumberedFrom (suc a.event + 0) later =
    subst (λ m. IsNumberedFrom m later) (omega arith) (numbered-drop 0 (suc a.event) past (one-by-one 0 past numbered)) in
    let states : moved_by p (armed a.step a.depth) later ≡ state p past a later = ap (λ k. moved_by p (record { step = a.step; depth = a.depth; least = a.depth; count = k }) later) (none-yet (wanted a.step)) ∙ run-states p past a later refl [] later refl from in
    let long : length later ≡ length past - suc a.event = length-drop (suc a.event) past in
    let far : t.event.number - suc a.event ≡ length later = omega (arith, long, number) in
    let whole : stretch past (suc a.event) t.event.number ≡ later =
    ap (λ x. take x later) far ∙ take-length later in
    let before : Bool = stands_before p t.event in
    let after : Bool = stands_after p t.event in
    ap (λ c. sees c before after t.event.depth) states
    ∙ cap-ends (counts a.step a.depth (least_depth a.depth later) before after t.event.depth) (count_by (λ u. is_place p past a u.event) later) (wanted a.step)
    ∙ ap (λ x. counts a.step a.depth (least_depth a.depth x) before after t.event.depth && (suc (count_by (λ u. is_place p past a u.event) x) == wanted a.step)) (sym whole)
