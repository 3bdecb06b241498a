-- From the report of a run to what its logs tell of calls.
use Rattle.std.proofs.Common.{◌≡◌, ℕ, suc, ◌+◌, ◌≤◌, Bool, true, false, ◌&&◌, ◌||◌, cond, List, [], ◌∷◌, length, map, Option, None, Some, refl, sym, ap, subst, ◌∙◌, arith, ⊎_elim}
use Rattle.std.specs.Prelude.{filter, slice_get, slice_index}
use Rattle.std.proofs.lemmas.Bool.{and_parts, cases_Bool}
use Rattle.std.proofs.lemmas.List.Elements.{filter_agree}
use Rattle.pd_values.specs.declared.value.Tag.{Tag}
use Rattle.pd_values.specs.declared.value.Tag.TheVariants.{Statement, Call, Root, RootBody, Expression, ReadVariable, WriteVariable, AlwaysHalt}
use Rattle.pd_tree.specs.Program.{Program, node_at, has_tag}
use Rattle.pd_machine.specs.Events.{Told}
use Rattle.pd_plan.specs.declared.plan.LineRange.{LineRange}
use Rattle.pd_plan.specs.declared.plan.Filter.{Filter}
use Rattle.pd_plan.specs.declared.plan.BindingSpec.{BindingSpec}
use Rattle.pd_plan.specs.declared.plan.BindingSpec.TheVariants.{Observe, Break, Pause}
use Rattle.pd_plan.specs.declared.plan.Plan.{Plan}
use Rattle.pd_filter.specs.Matching.{is_about, is_empty, meets_tags, satisfies}
use Rattle.pd_suspend.specs.Stops.{verdicts_of}
use Rattle.pd_suspend.specs.declared.context.ContextRecord.{ContextRecord}
use Rattle.pd_record.specs.Logs.{some_and, has_binding}
use Rattle.pd_record.specs.Record.{fuel_at}
use Rattle.pd_shared.specs.declared.sights.Sights.{Sights}
use Rattle.pd_run.specs.declared.report.Report.{Report}
use Rattle.pd_run.specs.Run.{events_of, AreContexts, IsRun, IsScripted}
use Rattle.pd_order.proofs.Runs.{meaning_ordered}
use Rattle.pd_running.specs.Running.{is_root_node, mark_of, mark_in, marks_where}
use Rattle.pd_running.specs.Nested.{IsNested}
use Rattle.pd_running.specs.Laws.{next_open}
use Rattle.pd_nesting.specs.Nesting.{AreRooted}
use Rattle.pd_nesting.proofs.Nested.{nested_from}
use Rattle.pd_nesting.proofs.Covered.{covered_run}
use Rattle.pd_steady.specs.Steady.{about, is_steady, AreWhole}
use Rattle.pd_steady.proofs.Steady.{logs_whole}
use Rattle.pd_paths.specs.declared.PathCount.{PathCount}
use Rattle.pd_paths.specs.Tally.{AreRising, IsTally}
use Rattle.pd_paths.proofs.Amounts.{next_nested}
use Rattle.pd_paths.proofs.Numbers.{rising_from}
use Rattle.pd_paths.proofs.Told.{sums_whole}
use Rattle.pd_paths.proofs.Trees.{tally_is_tree}
use Rattle.pd_calltree.specs.Results.{log_in, AreTrees, AreSummedIn}
use Rattle.pd_calltree.specs.Suits.{are_roots, asks_tags_alone, observes_roots, is_for_tree}
use Rattle.pd_calltree.specs.Counting.{AreCountable, AreTallied}

-- ---- a filter for functions and procedures alone

roots_only : (ts : List Tag) → are_roots ts ≡ true → ts ≡ Root ∷ []
roots_only [] h = cc
roots_only (Root ∷ []) h = refl
roots_only (Statement ∷ []) h = cc
roots_only (Call ∷ []) h = cc
roots_only (RootBody ∷ []) h = cc
roots_only (Expression ∷ []) h = cc
roots_only (ReadVariable ∷ []) h = cc
roots_only (WriteVariable ∷ []) h = cc
roots_only (AlwaysHalt ∷ []) h = cc
roots_only (t ∷ u ∷ ts) h = cc

no_entries : {A : Type 0} (xs : List A) → is_empty xs ≡ true → xs ≡ []
no_entries [] h = refl
no_entries (x ∷ xs) h = cc

abbrev made : List Tag → List Tag → List ℕ → List LineRange → List (List ℕ) → Filter
made tags not_tags sources lines roots = record { tags = tags; not_tags = not_tags; sources = sources; lines = lines; roots = roots }

of_tags : (ts : List Tag) → (meets_tags (made (Root ∷ []) [] [] [] []) ts && true) ≡ has_tag ts Root
of_tags [] = refl
of_tags (t ∷ ts) = by (has_tag (t ∷ ts) Root)
  where
    by : (b : Bool) → ((true && (b || false) && true) && true) ≡ b
    by true = refl
    by false = refl

filter_about : (f : Filter) (p : Program) (n : ℕ) → are_roots f.tags ≡ true → asks_tags_alone f ≡ true → satisfies f p n ≡ is_root_node p n
filter_about f p n tags alone =
    let a = and_parts (is_empty f.not_tags) (is_empty f.sources && (is_empty f.lines && is_empty f.roots)) alone in
    let b = and_parts (is_empty f.sources) (is_empty f.lines && is_empty f.roots) a.1 in
    let c = and_parts (is_empty f.lines) (is_empty f.roots) b.1 in
    ap (λ x. satisfies (made x f.not_tags f.sources f.lines f.roots) p n) (roots_only f.tags tags)
    ∙ ap (λ x. satisfies (made (Root ∷ []) x f.sources f.lines f.roots) p n) (no_entries f.not_tags a.0)
    ∙ ap (λ x. satisfies (made (Root ∷ []) [] x f.lines f.roots) p n) (no_entries f.sources b.0)
    ∙ ap (λ x. satisfies (made (Root ∷ []) [] [] x f.roots) p n) (no_entries f.lines c.0)
    ∙ ap (λ x. satisfies (made (Root ∷ []) [] [] [] x) p n) (no_entries f.roots c.1)
    ∙ of_tags (node_at p n).tags

root_about : (p : Program) (o : Option BindingSpec) → some_and o observes_roots ≡ true → (n : ℕ) → some_and o (λ x. is_about p x n) ≡ is_root_node p n
root_about p None h n = cc
root_about p (Some (Observe f)) h n = let parts = and_parts (are_roots f.tags) (asks_tags_alone f) h in filter_about f p n parts.0 parts.1
root_about p (Some (Break x)) h n = cc
root_about p (Some (Pause s)) h n = cc

-- ---- logs

marks_same : (f g : ℕ → Bool) → ((n : ℕ) → f n ≡ g n) → (events : List Told) → marks_where f events ≡ marks_where g events
marks_same f g h events = ap (map mark_of) (filter_agree (λ t. f t.event.node) (λ t. g t.event.node) (λ t. h t.event.node) events)

-- the entries of nested events rise
rising_marks : (test : ℕ → Bool) (ts live : List Told) (n events : ℕ) → events ≡ n + length ts → IsNested live n ts → AreRising n events (marks_where test ts)
rising_marks test [] live n events e h = omega (arith, e)
rising_marks test (t ∷ ts) live n events e h =
    let rest : AreRising (suc n) events (marks_where test ts) = rising_marks test ts (next_open live t) (suc n) events (omega (arith, e)) (next_nested live t (suc n) ts h.1) in
    ⊎_elim
    (λ (kept : test t.event.node ≡ true). subst (λ b. AreRising n events (map mark_of (cond b (t ∷ filter (λ x. test x.event.node) ts) (filter (λ x. test x.event.node) ts)))) (sym kept)
    (low h.0, subst (λ k. AreRising (suc k) events (marks_where test ts)) (sym h.0) rest))
    (λ (other : test t.event.node ≡ false). subst (λ b. AreRising n events (map mark_of (cond b (t ∷ filter (λ x. test x.event.node) ts) (filter (λ x. test x.event.node) ts)))) (sym other)
    (rising_from n (suc n) events (marks_where test ts) (omega arith) rest))
    (cases_Bool (test t.event.node))
  where
    low : t.event.number ≡ n → n ≤ t.event.number
    low e = omega (arith, e)

module _ (plan : Plan) (p : Program) (b : ℕ) (suits : is_for_tree plan b ≡ true) where
  steady : is_steady plan b ≡ true
  steady = (and_parts (is_steady plan b) (has_binding plan b observes_roots) suits).0

  only : has_binding plan b observes_roots ≡ true
  only = (and_parts (is_steady plan b) (has_binding plan b observes_roots) suits).1

  -- the log tells all events of functions and procedures
  log_tells : (c : ℕ) (r : ContextRecord) → map mark_in (log_in b r) ≡ marks_where (about plan p b) (events_of plan p c r) → map mark_in (log_in b r) ≡ marks_where (is_root_node p) (events_of plan p c r)
  log_tells c r whole = whole ∙ marks_same (about plan p b) (is_root_node p) (root_about p (slice_get plan.bindings b) only) (events_of plan p c r)

  nested_in : (c : ℕ) (r : ContextRecord) → IsNested [] 0 (events_of plan p c r)
  nested_in c r = nested_from (events_of plan p c r) 0 [] (meaning_ordered p (verdicts_of r.stops) (fuel_at plan c) (slice_index p.entries c))

  countable_in : (c : ℕ) (rs : List ContextRecord) (ss : List Sights) → AreContexts (IsScripted plan) plan p c rs ss → AreWhole plan p b c rs → AreCountable b rs
  countable_in c [] [] a w = tt
  countable_in c (r ∷ rs) (s ∷ ss) a w =
      (subst (λ ms. AreRising 0 r.events ms) (sym (log_tells c r w.0)) (rising_marks (is_root_node p) (events_of plan p c r) [] 0 r.events (count a.0.run.events) (nested_in c r)), countable_in (suc c) rs ss a.1 w.1)
    where
      count : {n : ℕ} → r.events ≡ n → r.events ≡ 0 + n
      count e = omega (arith, e)
  countable_in c [] (s ∷ ss) a w = absurd a
  countable_in c (r ∷ rs) [] a w = absurd a

  tally_in : (c : ℕ) (r : ContextRecord) (t : List PathCount) → map mark_in (log_in b r) ≡ marks_where (about plan p b) (events_of plan p c r) → r.events ≡ length (events_of plan p c r)
      → IsTally r.events (map mark_in (log_in b r)) t → IsTally (length (events_of plan p c r)) (marks_where (is_root_node p) (events_of plan p c r)) t
  tally_in c r t whole count h = subst (λ n. IsTally n (marks_where (is_root_node p) (events_of plan p c r)) t) count (subst (λ ms. IsTally r.events ms t) (log_tells c r whole) h)

  trees_in : (c : ℕ) (rs : List ContextRecord) (ss : List Sights) (ts : List (List PathCount)) → AreContexts (IsScripted plan) plan p c rs ss → AreWhole plan p b c rs → AreTallied b rs ts → AreTrees plan p c rs ts
  trees_in c [] [] [] a w t = tt
  trees_in c (r ∷ rs) (s ∷ ss) (x ∷ xs) a w t =
      (tally_is_tree p (events_of plan p c r) x (nested_in c r) (tally_in c r x w.0 a.0.run.events t.0), trees_in (suc c) rs ss xs a.1 w.1 t.1)
  trees_in c [] (s ∷ ss) ts a w t = absurd a
  trees_in c (r ∷ rs) [] ts a w t = absurd a
  trees_in c [] [] (x ∷ xs) a w t = absurd t
  trees_in c (r ∷ rs) (s ∷ ss) [] a w t = absurd t

  sums_in : AreRooted p → (c : ℕ) (rs : List ContextRecord) (ss : List Sights) (ts : List (List PathCount)) → AreContexts (IsScripted plan) plan p c rs ss → AreWhole plan p b c rs → AreTallied b rs ts → AreSummedIn plan p c rs ts
  sums_in rooted c [] [] [] a w t = tt
  sums_in rooted c (r ∷ rs) (s ∷ ss) (x ∷ xs) a w t = (
    sums_whole p (events_of plan p c r) x (nested_in c r) (covered_run p (verdicts_of r.stops) (fuel_at plan c) (slice_index p.entries c) (rooted (slice_index p.entries c))) (tally_in c r x w.0 a.0.run.events t.0),
    sums_in rooted (suc c) rs ss xs a.1 w.1 t.1,
  )
  sums_in rooted c [] (s ∷ ss) ts a w t = absurd a
  sums_in rooted c (r ∷ rs) [] ts a w t = absurd a
  sums_in rooted c [] [] (x ∷ xs) a w t = absurd t
  sums_in rooted c (r ∷ rs) (s ∷ ss) [] a w t = absurd t

pub logs_count : (plan : Plan) (p : Program) (r : Report) (b : ℕ) → IsRun plan p r → is_for_tree plan b ≡ true → AreCountable b r.contexts
logs_count plan p r b run h = countable_in plan p b h 0 r.contexts r.sights run.contexts (logs_whole plan p r b run (steady plan p b h))

pub trees_told : (plan : Plan) (p : Program) (r : Report) (b : ℕ) (ts : List (List PathCount)) → IsRun plan p r → is_for_tree plan b ≡ true → AreTallied b r.contexts ts → AreTrees plan p 0 r.contexts ts
trees_told plan p r b ts run h t = trees_in plan p b h 0 r.contexts r.sights ts run.contexts (logs_whole plan p r b run (steady plan p b h)) t

pub sums_told : (plan : Plan) (p : Program) (r : Report) (b : ℕ) (ts : List (List PathCount)) → IsRun plan p r → is_for_tree plan b ≡ true → AreRooted p → AreTallied b r.contexts ts → AreSummedIn plan p 0 r.contexts ts
sums_told plan p r b ts run h rooted t = sums_in plan p b h rooted 0 r.contexts r.sights ts run.contexts (logs_whole plan p r b run (steady plan p b h)) t
