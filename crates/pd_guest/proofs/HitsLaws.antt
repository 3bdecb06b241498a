-- The hits of an event are those of what was seen there.
use Rattle.std.proofs.Common.{◌≡◌, ℕ, zero, suc, ◌+◌, ◌<◌, ◌≤◌, Bool, true, false, ◌&&◌, ◌||◌, List, [], ◌∷◌, ◌++◌, length, take, drop, get_or, Option, None, Some, refl, sym, ap, ◌∙◌, arith, ⊎_elim}
use Rattle.std.specs.Prelude.{◌==◌, nat_lt, nat_le, slice_get}
use Rattle.std.specs.List.{list_all, filter_map, cons_option}
use Rattle.std.specs.Option.{option_to_list}
use Rattle.std.proofs.lemmas.Bool.{and_parts, and_from, cases_Bool, cond-true, cond-false, ltb-true, leb-true, le-leb, eqb-true, eqb-false, ne_eqb}
use Rattle.std.proofs.lemmas.List.{take_more}
use Rattle.std.proofs.lemmas.List.Elements.{filter_map-append}
use Rattle.pd_machine.specs.Events.{Told}
use Rattle.pd_plan.specs.declared.plan.BindingSpec.{BindingSpec}
use Rattle.pd_board.specs.declared.answers.Drawn.{Drawn}
use Rattle.pd_board.specs.declared.answers.Drawn.TheVariants.{Off}
use Rattle.pd_board.specs.declared.answers.Sight.{Sight}
use Rattle.pd_suspend.specs.declared.suspension.Reason.{Reason}
use Rattle.pd_suspend.specs.declared.suspension.Reason.TheVariants.{Step, Halt}
use Rattle.pd_suspend.specs.declared.suspension.Suspension.{Suspension}
use Rattle.pd_suspend.specs.declared.stepper.Stepper.{Stepper}
use Rattle.pd_suspend.specs.Steps.{stands_before, stands_after}
use Rattle.pd_suspend.specs.Counters.{sees_any}
use Rattle.pd_suspend.specs.Stops.{Setting, hit_by, hits_from, is_over, step_in, where_so}
use Rattle.pd_record.specs.Logs.{is_of, answer_at}
use Rattle.pd_record.specs.Seen.{in_order, is_before}
use Rattle.pd_record.specs.Stopping.{setting_with, reasons_by}
use Rattle.pd_guest.specs.declared.reasons.Place.{Place}
use Rattle.pd_guest.specs.Moment.{At}
use Rattle.pd_guest.specs.Hitting.{hit_at, hit_in}
use Rattle.pd_guest.specs.Reasoning.{reasons_seen}
use Rattle.pd_guest.specs.Asking.{IsPlaceOf}

-- ---- what was seen at an event

false_true : false ≡ true → ⊥
false_true e = cc

-- what was seen at other events before says nothing of this one
answer-skip : (xs ys : List Sight) (n b : ℕ) → list_all (λ (x : Sight). nat_lt x.event n) xs ≡ true → answer_at (xs ++ ys) n b ≡ answer_at ys n b
answer-skip [] ys n b h = refl
answer-skip (x ∷ xs) ys n b h =
    let parts = and_parts (nat_lt x.event n) (list_all (λ (y : Sight). nat_lt y.event n) xs) h in
    let less : x.event < n = ltb-true x.event n parts.0 in
    cond-false (is_of n b x) x.drawn (answer_at (xs ++ ys) n b) (left_no (x.event == n) (x.binding == b) (ne_eqb x.event n (λ e. omega (arith, less, e))))
    ∙ answer-skip xs ys n b parts.1
  where
    left_no : (x y : Bool) → x ≡ false → (x && y) ≡ false
    left_no true y k = cc
    left_no false y k = refl

halves : {A : Type 0} (k : ℕ) (xs : List A) → take k xs ++ drop k xs ≡ xs
halves zero xs = refl
halves (suc k) [] = refl
halves (suc k) (x ∷ xs) = ap (λ ys. x ∷ ys) (halves k xs)

order_drop : (k : ℕ) (xs : List Sight) → in_order xs ≡ true → in_order (drop k xs) ≡ true
order_drop zero xs h = h
order_drop (suc k) [] h = refl
order_drop (suc k) (x ∷ xs) h = order_drop k xs (and_parts (list_all (λ (t : Sight). is_before t.event t.binding x) xs) (in_order xs) h).1

all_drop : (test : Sight → Bool) (k : ℕ) (xs : List Sight) → list_all test xs ≡ true → list_all test (drop k xs) ≡ true
all_drop test zero xs h = h
all_drop test (suc k) [] h = refl
all_drop test (suc k) (x ∷ xs) h = all_drop test k xs (and_parts (test x) (list_all test xs) h).1

-- ---- binding after binding

from_next : (n b : ℕ) (x : Sight) (xs : List Sight) → (x.event == n) ≡ true → x.binding ≡ b → list_all (λ (t : Sight). t.event == n) xs ≡ true
    → list_all (λ (t : Sight). is_before t.event t.binding x) xs ≡ true → list_all (λ (t : Sight). nat_le (suc b) t.binding) xs ≡ true
from_next n b x [] here at now order = refl
from_next n b x (t ∷ ts) here at now order =
    let nows = and_parts (t.event == n) (list_all (λ (y : Sight). y.event == n) ts) now in
    let orders = and_parts (is_before t.event t.binding x) (list_all (λ (y : Sight). is_before y.event y.binding x) ts) order in
    and_from _ _ (above (nat_lt x.event t.event) refl orders.0) (from_next n b x ts here at nows.1 orders.1)
  where
    above : (l : Bool) → nat_lt x.event t.event ≡ l → (nat_lt x.event t.event || ((x.event == t.event) && nat_lt x.binding t.binding)) ≡ true → nat_le (suc b) t.binding ≡ true
    above true e h =
        let less : x.event < t.event = ltb-true x.event t.event e in
        let nows = and_parts (t.event == n) (list_all (λ (y : Sight). y.event == n) ts) now in
        absurd (omega (arith, less, eqb-true x.event n here, eqb-true t.event n nows.0))
    above false e h =
        let right : ((x.event == t.event) && nat_lt x.binding t.binding) ≡ true = ap (λ l. l || ((x.event == t.event) && nat_lt x.binding t.binding)) (sym e) ∙ h in
        let less : x.binding < t.binding = ltb-true x.binding t.binding (and_parts (x.event == t.event) (nat_lt x.binding t.binding) right).1 in
        le-leb (suc b) t.binding (omega (arith, less, at))

none_here : (xs : List Sight) (n b : ℕ) → list_all (λ (t : Sight). nat_le (suc b) t.binding) xs ≡ true → answer_at xs n b ≡ Off
none_here [] n b h = refl
none_here (x ∷ xs) n b h =
    let parts = and_parts (nat_le (suc b) x.binding) (list_all (λ (t : Sight). nat_le (suc b) t.binding) xs) h in
    let above : suc b ≤ x.binding = leb-true (suc b) x.binding parts.0 in
    cond-false (is_of n b x) x.drawn (answer_at xs n b) (right_no (x.event == n) (x.binding == b) (ne_eqb x.binding b (λ e. omega (arith, above, e)))) ∙ none_here xs n b parts.1
  where
    right_no : (x y : Bool) → y ≡ false → (x && y) ≡ false
    right_no true y k = k
    right_no false y k = refl

head_join : (o : Option Reason) (rest : List Reason) → option_to_list o ++ rest ≡ cons_option o rest
head_join None rest = refl
head_join (Some r) rest = refl

module _ (m : At) (s : ℕ) (q : Setting) (program : q.program ≡ m.program) where
  off_none : (b : ℕ) (spec : BindingSpec) (d : Drawn) → d ≡ Off → hit_by q.program s m.told b spec d ≡ None
  off_none b spec d e = ap (hit_by q.program s m.told b spec) e

  -- the specs from number b on
  Rest : ℕ → List BindingSpec → Type 0
  Rest b specs = (c : ℕ) → slice_get m.plan.bindings (b + c) ≡ slice_get specs c

  rest_next : (b : ℕ) (spec : BindingSpec) (specs : List BindingSpec) → ((c : ℕ) → slice_get m.plan.bindings (b + c) ≡ slice_get (spec ∷ specs) c)
      → (c : ℕ) → slice_get m.plan.bindings (suc b + c) ≡ slice_get specs c
  rest_next b spec specs h c = ap (slice_get m.plan.bindings) (omega arith) ∙ h (suc c)

  hits-from : (b : ℕ) (specs : List BindingSpec) (news : List Sight)
      → ((c : ℕ) → slice_get m.plan.bindings (b + c) ≡ slice_get specs c)
      → list_all (λ (x : Sight). x.event == m.told.event.number) news ≡ true → in_order news ≡ true
      → list_all (λ (x : Sight). nat_le b x.binding) news ≡ true → list_all (λ (x : Sight). nat_lt x.binding (b + length specs)) news ≡ true
      → ((c : ℕ) → b ≤ c → q.drawn m.told.event.number c ≡ answer_at news m.told.event.number c)
      → hits_from q s m.told b specs ≡ filter_map (hit_in m s) news
  hits-from b [] [] rest now order low high drawn = refl
  hits-from b [] (x ∷ xs) rest now order low high drawn =
      let l : b ≤ x.binding = leb-true b x.binding (and_parts (nat_le b x.binding) (list_all (λ (y : Sight). nat_le b y.binding) xs) low).0 in
      let h : x.binding < b + 0 = ltb-true x.binding (b + 0) (and_parts (nat_lt x.binding (b + 0)) (list_all (λ (y : Sight). nat_lt y.binding (b + 0)) xs) high).0 in
      absurd (omega (arith, l, h))
  hits-from b (spec ∷ specs) [] rest now order low high drawn =
      ap (λ o. option_to_list o ++ hits_from q s m.told (suc b) specs) (off_none b spec (q.drawn m.told.event.number b) (drawn b (omega arith)))
      ∙ hits-from (suc b) specs [] (rest_next b spec specs rest) now order refl refl (λ c h. drawn c (omega (arith, h)))
  hits-from b (spec ∷ specs) (x ∷ xs) rest now order low high drawn =
      let n = m.told.event.number in
      let nows = and_parts (x.event == n) (list_all (λ (y : Sight). y.event == n) xs) now in
      let orders = and_parts (list_all (λ (t : Sight). is_before t.event t.binding x) xs) (in_order xs) order in
      let lows = and_parts (nat_le b x.binding) (list_all (λ (y : Sight). nat_le b y.binding) xs) low in
      let highs = and_parts (nat_lt x.binding (b + suc (length specs))) (list_all (λ (y : Sight). nat_lt y.binding (b + suc (length specs))) xs) high in
      let from : b ≤ x.binding = leb-true b x.binding lows.0 in
      let long : (k : ℕ) → suc b + k ≡ b + suc k = λ k. omega arith in
      ⊎_elim
      (λ (own : (x.binding == b) ≡ true).
      let at : x.binding ≡ b = eqb-true x.binding b own in
      let above : list_all (λ (t : Sight). nat_le (suc b) t.binding) xs ≡ true = from_next n b x xs nows.0 at nows.1 orders.0 in
      let here : q.drawn n b ≡ x.drawn = drawn b (omega arith) ∙ cond-true (is_of n b x) x.drawn (answer_at xs n b) (and_from (x.event == n) (x.binding == b) nows.0 own) in
      let spec_is : slice_get m.plan.bindings x.binding ≡ Some spec = ap (slice_get m.plan.bindings) (omega (arith, at)) ∙ rest 0 in
      let hit : hit_by q.program s m.told b spec (q.drawn n b) ≡ hit_in m s x =
      ap (hit_by q.program s m.told b spec) here ∙ ap (λ p. hit_by p s m.told b spec x.drawn) program
      ∙ ap (λ k. hit_by m.program s m.told k spec x.drawn) (sym at) ∙ sym (ap (hit_at m s x) spec_is) in
      let later : hits_from q s m.told (suc b) specs ≡ filter_map (hit_in m s) xs =
      hits-from (suc b) specs xs (rest_next b spec specs rest) nows.1 orders.1 above
      (ap (λ k. list_all (λ (y : Sight). nat_lt y.binding k) xs) (long (length specs)) ∙ highs.1)
      (λ c h. drawn c (omega (arith, h)) ∙ cond-false (is_of n c x) x.drawn (answer_at xs n c) (right_no (x.event == n) (x.binding == c) (ne_eqb x.binding c (λ e. omega (arith, h, e, at))))) in
      ap (λ o. option_to_list o ++ hits_from q s m.told (suc b) specs) hit
      ∙ ap (λ ys. option_to_list (hit_in m s x) ++ ys) later
      ∙ head_join (hit_in m s x) (filter_map (hit_in m s) xs))
      (λ (other : (x.binding == b) ≡ false).
      let first : suc b ≤ x.binding = omega (arith, from, eqb-false x.binding b other) in
      let above : list_all (λ (t : Sight). nat_le (suc b) t.binding) (x ∷ xs) ≡ true = and_from _ _ (le-leb (suc b) x.binding first) (later_above x xs nows.0 nows.1 orders.0 first) in
      ap (λ o. option_to_list o ++ hits_from q s m.told (suc b) specs) (off_none b spec (q.drawn n b) (drawn b (omega arith) ∙ none_here (x ∷ xs) n b above))
      ∙ hits-from (suc b) specs (x ∷ xs) (rest_next b spec specs rest) now order above
      (ap (λ k. list_all (λ (y : Sight). nat_lt y.binding k) (x ∷ xs)) (long (length specs)) ∙ high)
      (λ c h. drawn c (omega (arith, h))))
      (cases_Bool (x.binding == b))
    where
      right_no : (x y : Bool) → y ≡ false → (x && y) ≡ false
      right_no true y k = k
      right_no false y k = refl

      later_above : (x : Sight) (xs : List Sight) → (x.event == m.told.event.number) ≡ true → list_all (λ (t : Sight). t.event == m.told.event.number) xs ≡ true
          → list_all (λ (t : Sight). is_before t.event t.binding x) xs ≡ true → suc b ≤ x.binding → list_all (λ (t : Sight). nat_le (suc b) t.binding) xs ≡ true
      later_above x xs here now order above = weaker xs (from_next m.told.event.number x.binding x xs here refl now order)
        where
          weaker : (ys : List Sight) → list_all (λ (t : Sight). nat_le (suc x.binding) t.binding) ys ≡ true → list_all (λ (t : Sight). nat_le (suc b) t.binding) ys ≡ true
          weaker [] h = refl
          weaker (y ∷ ys) h =
              let parts = and_parts (nat_le (suc x.binding) y.binding) (list_all (λ (t : Sight). nat_le (suc x.binding) t.binding) ys) h in
              let far : suc x.binding ≤ y.binding = leb-true (suc x.binding) y.binding parts.0 in
              and_from _ _ (le-leb (suc b) y.binding (omega (arith, far, above))) (weaker ys parts.1)

-- ---- all reasons

all_zero : (xs : List Sight) → list_all (λ (x : Sight). nat_le 0 x.binding) xs ≡ true
all_zero [] = refl
all_zero (x ∷ xs) = and_from _ _ (le-leb 0 x.binding (omega arith)) (all_zero xs)

zero_left : (c : ℕ) → 0 + c ≡ c
zero_left c = omega arith

-- the hits of a session are those among what was seen at the event
pub hits-are : (m : At) (s context first : ℕ) (seen : List Sight) (stops : List Suspension)
    → in_order seen ≡ true → list_all (λ (x : Sight). nat_lt x.event m.told.event.number) (take first seen) ≡ true
    → list_all (λ (x : Sight). x.event == m.told.event.number) (drop first seen) ≡ true
    → list_all (λ (x : Sight). nat_lt x.binding (length m.plan.bindings)) seen ≡ true
    → hits_from (setting_with m.plan m.program context (answer_at seen) stops []) s m.told 0 m.plan.bindings ≡ filter_map (hit_in m s) (drop first seen)
hits-are m s context first seen stops order earlier now bound =
    hits-from m s (setting_with m.plan m.program context (answer_at seen) stops []) refl 0 m.plan.bindings (drop first seen)
    (λ c. ap (slice_get m.plan.bindings) (zero_left c)) now (order_drop first seen order) (all_zero (drop first seen))
    (ap (λ k. list_all (λ (x : Sight). nat_lt x.binding k) (drop first seen)) (zero_left (length m.plan.bindings)) ∙ all_drop (λ (x : Sight). nat_lt x.binding (length m.plan.bindings)) first seen bound)
    (λ c h. ap (λ ss. answer_at ss m.told.event.number c) (sym (halves first seen)) ∙ answer-skip (take first seen) (drop first seen) m.told.event.number c earlier)

-- and its reasons are what the code gathers
pub reasons-are : (m : At) (s context first : ℕ) (ts : List Told) (seen : List Sight) (stops : List Suspension) (stepper : Stepper) (place : Place)
    → in_order seen ≡ true → list_all (λ (x : Sight). nat_lt x.event m.told.event.number) (take first seen) ≡ true
    → list_all (λ (x : Sight). x.event == m.told.event.number) (drop first seen) ≡ true
    → list_all (λ (x : Sight). nat_lt x.binding (length m.plan.bindings)) seen ≡ true
    → IsPlaceOf m place
    → sees_any stepper (stands_before m.program m.told.event) (stands_after m.program m.told.event) m.told.event.depth ≡ is_over m.program ts m.told.event (step_in s stops)
    → reasons_seen m (drop first seen) s stepper place ≡ reasons_by m.plan m.program context ts seen stops m.told s
reasons-are m s context first ts seen stops stepper place order earlier now bound at sees =
    let d = m.told.event.depth in
    ap (λ hs. hs ++ where_so (sees_any stepper place.before place.after d) Step ++ where_so place.halts Halt) (sym (hits-are m s context first seen stops order earlier now bound))
    ∙ ap (λ x. hits_from (setting_with m.plan m.program context (answer_at seen) stops []) s m.told 0 m.plan.bindings ++ where_so (sees_any stepper x place.after d) Step ++ where_so place.halts Halt) at.before
    ∙ ap (λ x. hits_from (setting_with m.plan m.program context (answer_at seen) stops []) s m.told 0 m.plan.bindings ++ where_so (sees_any stepper (stands_before m.program m.told.event) x d) Step ++ where_so place.halts Halt) at.after
    ∙ ap (λ x. hits_from (setting_with m.plan m.program context (answer_at seen) stops []) s m.told 0 m.plan.bindings ++ where_so x Step ++ where_so place.halts Halt) sees
    ∙ ap (λ x. hits_from (setting_with m.plan m.program context (answer_at seen) stops []) s m.told 0 m.plan.bindings ++ where_so (is_over m.program ts m.told.event (step_in s stops)) Step ++ where_so x Halt) at.halts

-- ---- the code's list

pub hits-next : (f : Sight → Option Reason) (xs : List Sight) (i : ℕ) (d : Sight) (old : List Reason) (o : Option Reason) → i < length xs → old ≡ filter_map f (take i xs) → o ≡ f (get_or xs i d)
    → old ++ option_to_list o ≡ filter_map f (take (i + 1) xs)
hits-next f xs i d old o lt before here =
    ap (λ y. y ++ option_to_list o) before
    ∙ ap (λ y. filter_map f (take i xs) ++ option_to_list y) here
    ∙ ap (λ y. filter_map f (take i xs) ++ y) (one_hit (f (get_or xs i d)))
    ∙ sym (filter_map-append f (take i xs) (get_or xs i d ∷ []))
    ∙ ap (filter_map f) (sym (take_more xs i d lt))
  where
    one_hit : (y : Option Reason) → option_to_list y ≡ cons_option y []
    one_hit None = refl
    one_hit (Some r) = refl
