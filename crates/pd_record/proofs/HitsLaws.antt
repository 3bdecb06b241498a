-- The hits of an event are found among what was seen at it.
use Rattle.std.proofs.Common.{◌≡◌, ℕ, suc, ◌+◌, ◌-◌, ◌≤◌, Bool, true, false, ◌&&◌, List, [], ◌∷◌, ◌++◌, Option, None, Some, refl, sym, ap, ◌∙◌, ⊎_elim, arith}
use Rattle.std.specs.Prelude.{nat_le, nat_lt, ◌==◌, slice_get}
use Rattle.std.specs.List.{list_all, filter_map, cons_option}
use Rattle.std.specs.Option.{option_to_list}
use Rattle.std.proofs.lemmas.Bool.{and_parts, and_from, and_left, and_right, or_cases, cond-true, cond-false, ltb-true, leb-true, le-leb, ne_eqb, eqb-true, eqb-false, cases_Bool}
use Rattle.pd_tree.specs.Program.{Program}
use Rattle.pd_machine.specs.Events.{Told}
use Rattle.pd_plan.specs.declared.plan.BindingSpec.{BindingSpec}
use Rattle.pd_plan.specs.declared.plan.Plan.{Plan}
use Rattle.pd_board.specs.declared.answers.Drawn.{Drawn}
use Rattle.pd_board.specs.declared.answers.Drawn.TheVariants.{Off}
use Rattle.pd_board.specs.declared.answers.Sight.{Sight}
use Rattle.pd_suspend.specs.declared.suspension.Reason.{Reason}
use Rattle.pd_suspend.specs.declared.suspension.Suspension.{Suspension}
use Rattle.pd_suspend.specs.declared.suspension.Reason.TheVariants.{Step, Halt}
use Rattle.pd_tree.specs.Program.{node_at, has_tag}
use Rattle.pd_values.specs.declared.value.Tag.TheVariants.{AlwaysHalt}
use Rattle.pd_suspend.specs.Steps.{is_enter}
use Rattle.pd_suspend.specs.Stops.{Setting, hit_by, hits_from, is_over, step_in, where_so}
use Rattle.pd_record.specs.Logs.{is_of, answer_at}
use Rattle.pd_record.specs.Seen.{is_before, in_order}
use Rattle.pd_record.specs.Stopping.{hit_in, are_at, setting_with, reasons_by}
use Rattle.pd_record.proofs.Lists.{list_all-weaker, list_all-weaker_where}

-- ---- lists

option-first : (o : Option Reason) (rs : List Reason) → option_to_list o ++ rs ≡ cons_option o rs
option-first None rs = refl
option-first (Some r) rs = refl

found : Plan → Program → ℕ → Told → ℕ → Option BindingSpec → Drawn → Option Reason
found plan p s t b None d = None
found plan p s t b (Some spec) d = hit_by p s t b spec d

hit_in-found : (plan : Plan) (p : Program) (s : ℕ) (t : Told) (x : Sight) (o : Option BindingSpec) → slice_get plan.bindings x.binding ≡ o → hit_in plan p s t x ≡ found plan p s t x.binding o x.drawn
unfolding found
hit_in-found plan p s t x None h = ap (λ o. elim o as (λ _. Option Reason) [ None ↦ None | Some spec ↦ hit_by p s t x.binding spec x.drawn ]) h
hit_in-found plan p s t x (Some spec) h = ap (λ o. elim o as (λ _. Option Reason) [ None ↦ None | Some spec ↦ hit_by p s t x.binding spec x.drawn ]) h

-- ---- what was seen at one event, from a binding on

-- it is of event n, and of no binding below k
is_from : ℕ → ℕ → Sight → Bool
is_from n k x = (x.event == n) && nat_le k x.binding

unseen : (n k : ℕ) (xs : List Sight) → list_all (is_from n (suc k)) xs ≡ true → answer_at xs n k ≡ Off
unfolding is_from
unseen n k [] h = refl
unseen n k (x ∷ xs) h =
    let parts = and_parts (is_from n (suc k) x) (list_all (is_from n (suc k)) xs) h in
    let above : suc k ≤ x.binding = leb-true (suc k) x.binding (and_parts (x.event == n) (nat_le (suc k) x.binding) parts.0).1 in
    cond-false (is_of n k x) x.drawn (answer_at xs n k) (and_right (x.event == n) (x.binding == k) (ne_eqb x.binding k (λ e. omega (arith, above, e))))
    ∙ unseen n k xs parts.1

-- what comes after x, which is of no binding below k, is of none up to k
later : (n k : ℕ) (x : Sight) (xs : List Sight) → (x.event == n) ≡ true → k ≤ x.binding → list_all (λ y. is_before y.event y.binding x) xs ≡ true
    → list_all (is_from n k) xs ≡ true → list_all (is_from n (suc k)) xs ≡ true
unfolding is_from
later n k x xs at is before from =
    list_all-weaker_where (λ y. is_before y.event y.binding x) (is_from n k) (is_from n (suc k))
    (λ y first here.
    let parts = and_parts (y.event == n) (nat_le k y.binding) here in
    let same : x.event ≡ y.event = omega (arith, eqb-true x.event n at, eqb-true y.event n parts.0) in
    ⊎_elim
    (λ (i : nat_lt x.event y.event ≡ true). absurd (omega (arith, ltb-true x.event y.event i, same)))
    (λ (i : ((x.event == y.event) && nat_lt x.binding y.binding) ≡ true).
    and_from (y.event == n) (nat_le (suc k) y.binding) parts.0
    (le-leb (suc k) y.binding (omega (arith, ltb-true x.binding y.binding (and_parts (x.event == y.event) (nat_lt x.binding y.binding) i).1, is))))
    (or_cases (nat_lt x.event y.event) ((x.event == y.event) && nat_lt x.binding y.binding) first)) xs before from

-- ---- binding by binding

module _ (q : Setting) (s : ℕ) (t : Told) where
  -- of no binding of the plan there is no hit
  none-there : (k : ℕ) (new : List Sight) → ((i : ℕ) → None ≡ slice_get q.plan.bindings (k + i)) → list_all (is_from t.event.number k) new ≡ true
      → [] ≡ filter_map (hit_in q.plan q.program s t) new
  unfolding is_from found
  none-there k [] stand from = refl
  none-there k (x ∷ xs) stand from =
      let parts = and_parts (is_from t.event.number k x) (list_all (is_from t.event.number k) xs) from in
      let above : k ≤ x.binding = leb-true k x.binding (and_parts (x.event == t.event.number) (nat_le k x.binding) parts.0).1 in
      let far : x.binding ≡ k + (x.binding - k) = omega (arith, above) in
      let none : slice_get q.plan.bindings x.binding ≡ None = ap (slice_get q.plan.bindings) far ∙ sym (stand (x.binding - k)) in
      none-there k xs stand parts.1 ∙ sym (ap (λ o. cons_option o (filter_map (hit_in q.plan q.program s t) xs)) (hit_in-found q.plan q.program s t x None none))

  hits-are : (specs : List BindingSpec) (k : ℕ) (new : List Sight)
      → ((i : ℕ) → slice_get specs i ≡ slice_get q.plan.bindings (k + i))
      → list_all (is_from t.event.number k) new ≡ true → in_order new ≡ true
      → ((c : ℕ) → k ≤ c → q.drawn t.event.number c ≡ answer_at new t.event.number c)
      → hits_from q s t k specs ≡ filter_map (hit_in q.plan q.program s t) new
  unfolding is_from found
  hits-are [] k new stand from order same = none-there k new stand from
  hits-are (spec ∷ specs) k [] stand from order same =
      ap (λ d. option_to_list (hit_by q.program s t k spec d) ++ hits_from q s t (suc k) specs) (same k (omega arith))
      ∙ hits-are specs (suc k) [] (λ i. stand (suc i) ∙ ap (slice_get q.plan.bindings) (omega arith)) refl refl (λ c h. same c (omega (arith, h)))
  hits-are (spec ∷ specs) k (x ∷ xs) stand from order same =
      let n : ℕ = t.event.number in
      let parts = and_parts (is_from n k x) (list_all (is_from n k) xs) from in
      let first = and_parts (x.event == n) (nat_le k x.binding) parts.0 in
      let above : k ≤ x.binding = leb-true k x.binding first.1 in
      let orders = and_parts (list_all (λ y. is_before y.event y.binding x) xs) (in_order xs) order in
      let behind : list_all (is_from n (suc k)) xs ≡ true = later n k x xs first.0 above orders.0 parts.1 in
      let rest : List Reason = filter_map (hit_in q.plan q.program s t) xs in
      ⊎_elim
      (λ (here : (x.binding == k) ≡ true).
      let is : x.binding ≡ k = eqb-true x.binding k here in
      let drawn : q.drawn n k ≡ x.drawn = same k (omega arith) ∙ cond-true (is_of n k x) x.drawn (answer_at xs n k) (and_from (x.event == n) (x.binding == k) first.0 here) in
      let spec_is : slice_get q.plan.bindings x.binding ≡ Some spec = ap (slice_get q.plan.bindings) (omega (arith, is)) ∙ sym (stand 0) in
      let hit : hit_in q.plan q.program s t x ≡ hit_by q.program s t k spec x.drawn =
      hit_in-found q.plan q.program s t x (Some spec) spec_is ∙ ap (λ b. hit_by q.program s t b spec x.drawn) is in
      ap (λ d. option_to_list (hit_by q.program s t k spec d) ++ hits_from q s t (suc k) specs) drawn
      ∙ ap (λ rs. option_to_list (hit_by q.program s t k spec x.drawn) ++ rs)
      (hits-are specs (suc k) xs (λ i. stand (suc i) ∙ ap (slice_get q.plan.bindings) (omega arith)) behind orders.1
      (λ c h. same c (omega (arith, h)) ∙ cond-false (is_of n c x) x.drawn (answer_at xs n c) (and_right (x.event == n) (x.binding == c) (ne_eqb x.binding c (λ e. omega (arith, h, is, e))))))
      ∙ option-first (hit_by q.program s t k spec x.drawn) rest
      ∙ sym (ap (λ o. cons_option o rest) hit))
      (λ (away : (x.binding == k) ≡ false).
      let past : suc k ≤ x.binding = omega (arith, above, eqb-false x.binding k away) in
      let on : list_all (is_from n (suc k)) (x ∷ xs) ≡ true =
      and_from (is_from n (suc k) x) (list_all (is_from n (suc k)) xs) (and_from (x.event == n) (nat_le (suc k) x.binding) first.0 (le-leb (suc k) x.binding past)) behind in
      ap (λ d. option_to_list (hit_by q.program s t k spec d) ++ hits_from q s t (suc k) specs) (same k (omega arith) ∙ unseen n k (x ∷ xs) on)
      ∙ hits-are specs (suc k) (x ∷ xs) (λ i. stand (suc i) ∙ ap (slice_get q.plan.bindings) (omega arith)) on order (λ c h. same c (omega (arith, h))))
      (cases_Bool (x.binding == k))

-- ---- what was seen before makes no difference

answer-behind : (before new : List Sight) (n c : ℕ) → list_all (λ x. nat_lt x.event n) before ≡ true → answer_at (before ++ new) n c ≡ answer_at new n c
answer-behind [] new n c h = refl
answer-behind (x ∷ xs) new n c h =
    let parts = and_parts (nat_lt x.event n) (list_all (λ y. nat_lt y.event n) xs) h in
    cond-false (is_of n c x) x.drawn (answer_at (xs ++ new) n c) (and_left (x.event == n) (x.binding == c) (ne_eqb x.event n (λ e. omega (arith, ltb-true x.event n parts.0, e))))
    ∙ answer-behind xs new n c parts.1

in_order-behind : (before new : List Sight) → in_order (before ++ new) ≡ true → in_order new ≡ true
in_order-behind [] new h = h
in_order-behind (x ∷ xs) new h = in_order-behind xs new (and_parts (list_all (λ y. is_before y.event y.binding x) (xs ++ new)) (in_order (xs ++ new)) h).1

at-from : (n : ℕ) (new : List Sight) → are_at n new ≡ true → list_all (is_from n 0) new ≡ true
unfolding is_from
at-from n new h = list_all-weaker (λ x. x.event == n) (is_from n 0) (λ x k. and_from (x.event == n) (nat_le 0 x.binding) k (le-leb 0 x.binding (omega arith))) new h

-- the reasons of a session at an event: its hits among what was seen there, in order; the end of its step; a halt
pub reasons-seen : (plan : Plan) (p : Program) (context : ℕ) (ts : List Told) (before new : List Sight) (stops : List Suspension) (t : Told) (s : ℕ)
    → list_all (λ x. nat_lt x.event t.event.number) before ≡ true → are_at t.event.number new ≡ true → in_order (before ++ new) ≡ true
    → reasons_by plan p context ts (before ++ new) stops t s
    ≡ filter_map (hit_in plan p s t) new
    ++ where_so (is_over p ts t.event (step_in s stops)) Step
    ++ where_so (is_enter t.event.kind && has_tag (node_at p t.event.node).tags AlwaysHalt) Halt
reasons-seen plan p context ts before new stops t s old at order =
    ap (λ hs. hs ++ where_so (is_over p ts t.event (step_in s stops)) Step ++ where_so (is_enter t.event.kind && has_tag (node_at p t.event.node).tags AlwaysHalt) Halt)
    (hits-are (setting_with plan p context (answer_at (before ++ new)) stops []) s t plan.bindings 0 new
    (λ i. ap (slice_get plan.bindings) (omega arith)) (at-from t.event.number new at) (in_order-behind before new order)
    (λ c h. answer-behind before new t.event.number c old))
