-- What the answers of a binding to which all was given say of its log.
use Rattle.std.proofs.Common.{◌≡◌, ℕ, zero, suc, Bool, true, false, cond, ◌&&◌, not, List, [], ◌∷◌, map, Option, None, Some, refl, sym, ap, ◌∙◌, ⊎_elim, arith}
use Rattle.std.specs.Prelude.{◌==◌, filter, slice_get, count_by}
use Rattle.std.specs.List.{All, list_all, list_any, filter_map, cons_option}
use Rattle.std.specs.Option.{option_map}
use Rattle.std.proofs.lemmas.Bool.{and_parts, and_from, or_cases, cond-true, cond-false, eqb-true, cases_Bool, false_from_ne_true, both_ways}
use Rattle.std.proofs.lemmas.Option.{same_Some}
use Rattle.std.proofs.lemmas.List.Elements.{All-head, All-tail}
use Rattle.pd_tree.specs.Program.{Program}
use Rattle.pd_machine.specs.Events.{Told}
use Rattle.pd_plan.specs.declared.plan.BindingSpec.{BindingSpec}
use Rattle.pd_plan.specs.declared.plan.BindingSpec.TheVariants.{Observe, Break, Pause}
use Rattle.pd_plan.specs.declared.plan.Plan.{Plan}
use Rattle.pd_filter.specs.Matching.{is_about}
use Rattle.pd_break.specs.Hits.{is_observer}
use Rattle.pd_condition.specs.Truths.{truth_for, is_false}
use Rattle.pd_log.specs.declared.Entry.{Entry}
use Rattle.pd_board.specs.declared.answers.Drawn.{Drawn}
use Rattle.pd_board.specs.declared.answers.Drawn.TheVariants.{On, Missed, Off}
use Rattle.pd_board.specs.declared.answers.Sight.{Sight}
use Rattle.pd_board.specs.declared.answers.ActResult.{ActResult}
use Rattle.pd_board.specs.Kept.{disables_upto, IsMissed, FitsToggles, missed_of}
use Rattle.pd_record.specs.Logs.{is_of, answer_at, place_of, is_on, is_number, some_and, has_binding, is_met_by, is_subject, subject_events, answers_of, entry_of, delivery, log_of}
use Rattle.pd_record.specs.Seen.{is_subject_at}
use Rattle.pd_running.specs.Running.{Mark, mark_of, mark_in, marks_where}
use Rattle.pd_steady.specs.Steady.{about}
use Rattle.pd_order.proofs.Pairing.{IsEnd, IsEnteredAt, IsPaired}
use Rattle.pd_machine.specs.declared.event.EventKind.{EventKind}
use Rattle.pd_machine.specs.declared.event.EventKind.TheVariants.{Enter, Return as Gave, Leave}
use Rattle.pd_suspend.specs.Steps.{is_enter}

-- ---- lists

-- what is found stands at a place
found_at : {A : Type 0} (p : A → Bool) (xs : List A) → list_any p xs ≡ true → (k : ℕ) × (x : A) × (slice_get xs k ≡ Some x) × (p x ≡ true)
found_at p [] h = cc
found_at p (x ∷ xs) h =
    ⊎_elim
    (λ (here : p x ≡ true). (zero, x, refl, here))
    (λ (there : list_any p xs ≡ true). let f = found_at p xs there in (suc f.0, f.1, f.2, f.3))
    (or_cases (p x) (list_any p xs) h)

-- an element that passes the filter passes what all passes
filtered_at : {A : Type 0} (p q : A → Bool) (xs : List A) (k : ℕ) (x : A) → list_all p (filter q xs) ≡ true → slice_get xs k ≡ Some x → q x ≡ true → p x ≡ true
filtered_at p q [] k x h at passes = cc
filtered_at p q (y ∷ ys) zero x h at passes =
    let same : y ≡ x = same_Some y x at in
    let all : list_all p (y ∷ filter q ys) ≡ true = ap (list_all p) (sym (cond-true (q y) (y ∷ filter q ys) (filter q ys) (ap q same ∙ passes))) ∙ h in
    ap p (sym same) ∙ (and_parts (p y) (list_all p (filter q ys)) all).0
filtered_at p q (y ∷ ys) (suc k) x h at passes =
    filtered_at p q ys k x
    (⊎_elim
    (λ (i : q y ≡ true). (and_parts (p y) (list_all p (filter q ys)) (ap (list_all p) (sym (cond-true (q y) (y ∷ filter q ys) (filter q ys) i)) ∙ h)).1)
    (λ (i : q y ≡ false). ap (list_all p) (sym (cond-false (q y) (y ∷ filter q ys) (filter q ys) i)) ∙ h)
    (cases_Bool (q y)))
    at passes

-- two tests that agree at each place
filter-same_at : {A : Type 0} (p q : A → Bool) (xs : List A) → ((k : ℕ) (x : A) → slice_get xs k ≡ Some x → p x ≡ q x) → filter p xs ≡ filter q xs
filter-same_at p q [] h = refl
filter-same_at p q (x ∷ xs) h =
    ap (λ b. cond b (x ∷ filter p xs) (filter p xs)) (h zero x refl) ∙ ap (λ ys. cond (q x) (x ∷ ys) ys) (filter-same_at p q xs (λ k y i. h (suc k) y i))

list_all-map : {A B : Type 0} (p : B → Bool) (f : A → B) (xs : List A) → list_all p (map f xs) ≡ list_all (λ x. p (f x)) xs
list_all-map p f [] = refl
list_all-map p f (x ∷ xs) = ap (λ b. p (f x) && b) (list_all-map p f xs)

-- what is no Enter is an end
no_enter : (k : EventKind) → is_enter k ≡ false → IsEnd k
no_enter Enter h = cc
no_enter (Gave a) h = tt
no_enter (Leave c) h = tt

-- ---- subject events of an observer are the events of its nodes

-- where a binding was On at an event, that event is one of its subject events
on_is_subject : (plan : Plan) (p : Program) (events : List Told) (seen ss : List Sight) (e b : ℕ) → list_all (λ s. is_subject_at plan p seen events s.event s.binding) ss ≡ true → is_on (answer_at ss e b) ≡ true → is_subject_at plan p seen events e b ≡ true
on_is_subject plan p events seen [] e b h on = cc
on_is_subject plan p events seen (s ∷ ss) e b h on =
    let parts = and_parts (is_subject_at plan p seen events s.event s.binding) (list_all (λ s. is_subject_at plan p seen events s.event s.binding) ss) h in
    ⊎_elim
    (λ (own : is_of e b s ≡ true).
    let same = and_parts (s.event == e) (s.binding == b) own in
    ap (λ x. is_subject_at plan p seen events x b) (sym (eqb-true s.event e same.0)) ∙ ap (is_subject_at plan p seen events s.event) (sym (eqb-true s.binding b same.1)) ∙ parts.0)
    (λ (other : is_of e b s ≡ false). on_is_subject plan p events seen ss e b parts.1 (ap is_on (sym (cond-false (is_of e b s) s.drawn (answer_at ss e b) other)) ∙ on))
    (cases_Bool (is_of e b s))

-- an observer has no condition
and_true : (b : Bool) → (b && true) ≡ b
and_true true = refl
and_true false = refl

met_about : (p : Program) (x : BindingSpec) (t : Told) → is_observer x ≡ true → (is_about p x t.event.node && not (is_false (truth_for x p t.scene))) ≡ is_about p x t.event.node
met_about p (Observe f) t h = and_true (is_about p (Observe f) t.event.node)
met_about p (Break b) t h = cc
met_about p (Pause s) t h = cc

met_some : (p : Program) (o : Option BindingSpec) (t : Told) → some_and o is_observer ≡ true → some_and o (λ x. is_about p x t.event.node && not (is_false (truth_for x p t.scene))) ≡ some_and o (λ x. is_about p x t.event.node)
met_some p None t h = refl
met_some p (Some x) t h = met_about p x t h

enter_subject : (plan : Plan) (p : Program) (seen : List Sight) (b : ℕ) → has_binding plan b is_observer ≡ true → (t : Told) → is_enter t.event.kind ≡ true → is_subject plan p seen b t ≡ about plan p b t.event.node
enter_subject plan p seen b watches t h = cond-true (is_enter t.event.kind) (is_met_by plan p b t) (has_binding plan b is_observer && is_on (answer_at seen t.event.opened b)) h ∙ met_some p (slice_get plan.bindings b) t watches

end_subject : (plan : Plan) (p : Program) (seen : List Sight) (b : ℕ) → has_binding plan b is_observer ≡ true → (t : Told) → is_enter t.event.kind ≡ false → is_subject plan p seen b t ≡ is_on (answer_at seen t.event.opened b)
end_subject plan p seen b watches t h = cond-false (is_enter t.event.kind) (is_met_by plan p b t) (has_binding plan b is_observer && is_on (answer_at seen t.event.opened b)) h ∙ ap (λ x. x && is_on (answer_at seen t.event.opened b)) watches

module _ (plan : Plan) (p : Program) (events : List Told) (seen : List Sight) (b : ℕ)
    (watches : has_binding plan b is_observer ≡ true) (paired : IsPaired events)
    (subjects : list_all (λ s. is_subject_at plan p seen events s.event s.binding) seen ≡ true)
    (given : list_all is_on (answers_of plan p seen events b) ≡ true) where
  subject_given : (k : ℕ) (t : Told) → slice_get events k ≡ Some t → is_subject plan p seen b t ≡ true → is_on (answer_at seen t.event.number b) ≡ true
  subject_given k t at h =
      filtered_at (λ x. is_on (answer_at seen x.event.number b)) (λ x. is_subject plan p seen b x) events k t
      (sym (list_all-map is_on (λ x. answer_at seen x.event.number b) (subject_events plan p seen events b)) ∙ given) at h

  -- whether an Enter was given to it
  entered_given : (t : Told) (e : IsEnteredAt events t.event.node t.event.opened) → is_on (answer_at seen t.event.opened b) ≡ about plan p b t.event.node
  entered_given t e =
      let number : e.enter.event.number ≡ t.event.opened = paired.numbers t.event.opened e.enter e.there in
      let subject : is_subject plan p seen b e.enter ≡ about plan p b t.event.node = enter_subject plan p seen b watches e.enter (ap is_enter e.kind_is) ∙ ap (about plan p b) e.node_is in
      ⊎_elim
      (λ (stands : about plan p b t.event.node ≡ true).
      ap (λ n. is_on (answer_at seen n b)) (sym number) ∙ subject_given t.event.opened e.enter e.there (subject ∙ stands) ∙ sym stands)
      (λ (stands : about plan p b t.event.node ≡ false).
      false_from_ne_true (is_on (answer_at seen t.event.opened b))
      (λ on.
      let f = found_at (λ x. (x.event.number == t.event.opened) && is_subject plan p seen b x) events (on_is_subject plan p events seen seen t.event.opened b subjects on) in
      let parts = and_parts (f.1.event.number == t.event.opened) (is_subject plan p seen b f.1) f.3 in
      let place : f.0 ≡ t.event.opened = sym (paired.numbers f.0 f.1 f.2) ∙ eqb-true f.1.event.number t.event.opened parts.0 in
      let same : f.1 ≡ e.enter = same_Some f.1 e.enter (sym f.2 ∙ ap (slice_get events) place ∙ e.there) in
      both_ways (about plan p b t.event.node) stands (sym subject ∙ ap (λ (x : Told). is_subject plan p seen b x) (sym same) ∙ parts.1))
      ∙ sym stands)
      (cases_Bool (about plan p b t.event.node))

  subject_is : (k : ℕ) (t : Told) → slice_get events k ≡ Some t → is_subject plan p seen b t ≡ about plan p b t.event.node
  subject_is k t at =
      ⊎_elim
      (λ (enter : is_enter t.event.kind ≡ true). enter_subject plan p seen b watches t enter)
      (λ (end : is_enter t.event.kind ≡ false).
      end_subject plan p seen b watches t end ∙ entered_given t (paired.ends_named k t at (no_enter t.event.kind end)))
      (cases_Bool (is_enter t.event.kind))

  pub subjects_match : subject_events plan p seen events b ≡ filter (λ t. about plan p b t.event.node) events
  subjects_match = filter-same_at (λ t. is_subject plan p seen b t) (λ t. about plan p b t.event.node) events subject_is

-- ---- the log of a binding to which all was given

mark_step : (c : ℕ) (t : Told) (d : Drawn) (es : List Entry) (ms : List Mark) → is_on d ≡ true → map mark_in es ≡ ms → map mark_in (cons_option (option_map (entry_of c t.event) (place_of d)) es) ≡ mark_of t ∷ ms
mark_step c t (On p) es ms on e = ap (λ xs. mark_of t ∷ xs) e
mark_step c t (Missed p) es ms on e = cc
mark_step c t Off es ms on e = cc

marks_given : (c : ℕ) (seen : List Sight) (b : ℕ) (ts : List Told) → list_all (λ t. is_on (answer_at seen t.event.number b)) ts ≡ true → map mark_in (filter_map (delivery c seen b) ts) ≡ map mark_of ts
marks_given c seen b [] h = refl
marks_given c seen b (t ∷ ts) h =
    let parts = and_parts (is_on (answer_at seen t.event.number b)) (list_all (λ t. is_on (answer_at seen t.event.number b)) ts) h in
    mark_step c t (answer_at seen t.event.number b) (filter_map (delivery c seen b) ts) (map mark_of ts) parts.0 (marks_given c seen b ts parts.1)

-- where the binding was never switched off, no number is missed
not_missed : (b : ℕ) (replies : List ActResult) (s : Sight) → (s.binding == b) ≡ true → ((n : ℕ) → count_by (disables_upto b n) replies ≡ 0) → FitsToggles b replies s → is_number s.drawn ≡ true → is_on s.drawn ≡ true
not_missed b replies s own none fits number = by_drawn s.drawn number (λ p e. let h : IsMissed b p true replies = fits.missed (eqb-true s.binding b own) p e in omega (arith, none p, h))
  where
    by_drawn : (d : Drawn) → is_number d ≡ true → ((p : ℕ) → missed_of d ≡ Some p → ⊥) → is_on d ≡ true
    by_drawn (On p) h f = refl
    by_drawn (Missed p) h f = absurd (f p refl)
    by_drawn Off h f = cc

number_is_on : (b : ℕ) (replies : List ActResult) → ((n : ℕ) → count_by (disables_upto b n) replies ≡ 0) → (ss : List Sight) → All (FitsToggles b replies) ss → (e : ℕ) → is_number (answer_at ss e b) ≡ true → is_on (answer_at ss e b) ≡ true
number_is_on b replies none [] fits e h = cc
number_is_on b replies none (s ∷ ss) fits e h =
    ⊎_elim
    (λ (own : is_of e b s ≡ true).
    let same : answer_at (s ∷ ss) e b ≡ s.drawn = cond-true (is_of e b s) s.drawn (answer_at ss e b) own in
    ap is_on same ∙ not_missed b replies s (and_parts (s.event == e) (s.binding == b) own).1 none (All-head (FitsToggles b replies) s ss fits) (ap is_number (sym same) ∙ h))
    (λ (other : is_of e b s ≡ false).
    let same : answer_at (s ∷ ss) e b ≡ answer_at ss e b = cond-false (is_of e b s) s.drawn (answer_at ss e b) other in
    ap is_on same ∙ number_is_on b replies none ss (All-tail (FitsToggles b replies) s ss fits) e (ap is_number (sym same) ∙ h))
    (cases_Bool (is_of e b s))

-- an observer that was never switched off, and was given a number at each of its subject events, has all events of its nodes in its log
pub whole_log : (c : ℕ) (plan : Plan) (p : Program) (events : List Told) (seen : List Sight) (b : ℕ) (replies : List ActResult)
    → has_binding plan b is_observer ≡ true → IsPaired events → list_all (λ s. is_subject_at plan p seen events s.event s.binding) seen ≡ true
    → list_all is_number (answers_of plan p seen events b) ≡ true → ((n : ℕ) → count_by (disables_upto b n) replies ≡ 0) → All (FitsToggles b replies) seen
    → map mark_in (log_of c plan p seen events b) ≡ marks_where (about plan p b) events
whole_log c plan p events seen b replies watches paired subjects numbers none fits =
    let ts : List Told = subject_events plan p seen events b in
    let answer : Told → Drawn = λ x. answer_at seen x.event.number b in
    let told : list_all (λ x. is_number (answer x)) ts ≡ true = sym (list_all-map is_number answer ts) ∙ numbers in
    let on : list_all (λ x. is_on (answer x)) ts ≡ true = weaker (λ x. is_number (answer x)) (λ x. is_on (answer x)) (λ x i. number_is_on b replies none seen fits x.event.number i) ts told in
    marks_given c seen b ts on ∙ ap (map mark_of) (subjects_match plan p events seen b watches paired subjects (list_all-map is_on answer ts ∙ on))
  where
    weaker : {A : Type 0} (f g : A → Bool) → ((x : A) → f x ≡ true → g x ≡ true) → (xs : List A) → list_all f xs ≡ true → list_all g xs ≡ true
    weaker f g h [] k = refl
    weaker f g h (x ∷ xs) k = let parts = and_parts (f x) (list_all f xs) k in and_from _ _ (h x parts.0) (weaker f g h xs parts.1)
