-- In the report of a run the log of a steady binding tells all events of its nodes.
use Rattle.std.proofs.Common.{◌≡◌, ℕ, zero, suc, ◌<◌, Bool, true, false, ◌&&◌, ◌||◌, not, List, [], ◌∷◌, ◌++◌, length, map, Option, None, Some, refl, sym, ap, ◌∙◌, arith}
use Rattle.std.specs.Prelude.{◌==◌, slice_get, slice_index, slice_index_or, count_by, flat_map}
use Rattle.std.specs.List.{All, AllByRecursion, list_all, list_any, filter_map}
use Rattle.std.proofs.lemmas.Bool.{and_parts}
use Rattle.std.proofs.lemmas.List.Elements.{recursion_from_All}
use Rattle.std.proofs.lemmas.List.Sums.{length-filter}
use Rattle.pd_tree.specs.Program.{Program}
use Rattle.pd_machine.specs.Events.{Told}
use Rattle.pd_plan.specs.declared.plan.BindingSpec.{BindingSpec}
use Rattle.pd_plan.specs.declared.plan.BindingSpec.TheVariants.{Observe, Break, Pause}
use Rattle.pd_plan.specs.declared.plan.Script.{Script}
use Rattle.pd_plan.specs.declared.plan.Plan.{Plan}
use Rattle.pd_break.specs.Hits.{is_observer, is_used_up_at}
use Rattle.pd_board.specs.declared.answers.Drawn.{Drawn}
use Rattle.pd_board.specs.declared.answers.Drawn.TheVariants.{On, Missed, Off}
use Rattle.pd_board.specs.declared.answers.Sight.{Sight}
use Rattle.pd_board.specs.declared.answers.ActResult.{ActResult}
use Rattle.pd_board.specs.declared.answers.State.{State}
use Rattle.pd_board.specs.declared.answers.State.TheVariants as states
use Rattle.pd_board.specs.Answers.{has_attach, has_attachment}
use Rattle.pd_board.specs.Kept.{disables_upto, FitsToggles}
use Rattle.pd_board.specs.Tally.{state_by, no_tally}
use Rattle.pd_suspend.specs.Answers.{Carries, scripted, acts_of}
use Rattle.pd_suspend.specs.Stops.{verdicts_of}
use Rattle.pd_suspend.specs.declared.context.ContextRecord.{ContextRecord}
use Rattle.pd_record.specs.Logs.{answer_at, is_number, some_and, has_binding, subject_events, answers_of}
use Rattle.pd_record.specs.Acts.{uses_up}
use Rattle.pd_shared.specs.declared.sights.Sights.{Sights}
use Rattle.pd_run.specs.declared.report.Report.{Report}
use Rattle.pd_session.specs.declared.record.SessionRecord.{SessionRecord}
use Rattle.pd_run.specs.Part.{replies_of, is_spent, HasLife}
use Rattle.pd_run.specs.Life.{Whole, seen_in, recorded, IsGone}
use Rattle.pd_session.specs.Results as sessions
use Rattle.pd_session.specs.Before.{befores_behind}
use Rattle.pd_record.specs.Record.{fuel_at}
use Rattle.pd_run.specs.Run.{events_of, IsScripted, AreContexts, AreSessions, parts_of, whole_in, IsRun}
use Rattle.pd_run.proofs.Flat.{all_parts}
use Rattle.pd_steady.specs.Steady.{script_spares, action_may_stop, answer_spares, is_attached_before, is_steady, AreWhole}
use Rattle.pd_order.proofs.Pairing.{meaning_paired}
use Rattle.pd_steady.proofs.Given.{whole_log}
use Rattle.pd_steady.proofs.Spared.{all_map, all_flat, all_both, spares, none_disposes, none_disables, acts_spare, actions_spare, befores_spare, befores_attach}

-- ---- what is recorded

flat_mapped : {A B : Type 0} (f : A → List B) (xs : List A) → flat_map f xs ≡ flat_map (λ ys. ys) (map f xs)
flat_mapped f [] = refl
flat_mapped f (x ∷ xs) = ap (λ ys. f x ++ ys) (flat_mapped f xs)

contexts_spare : (plan : Plan) (p : Program) (b : ℕ) → list_all (script_spares b) plan.sessions ≡ true → (c : ℕ) (rs : List ContextRecord) (ss : List Sights) → AreContexts (IsScripted plan) plan p c rs ss → list_all (spares b) (flat_map replies_of (parts_of plan p c rs)) ≡ true
contexts_spare plan p b h c [] [] a = refl
contexts_spare plan p b h c (r ∷ rs) (s ∷ ss) a =
    all_both (spares b) (map (λ x. x.1) (acts_of r.stops)) (flat_map replies_of (parts_of plan p (suc c) rs))
    (all_map (spares b) (λ (x : ℕ × ActResult). x.1) (acts_of r.stops) ∙ acts_spare plan b h r.stops (recursion_from_All (λ x. Carries x (scripted plan x.session x.answer)) r.stops a.0.answered))
    (contexts_spare plan p b h (suc c) rs ss a.1)
contexts_spare plan p b h c [] (s ∷ ss) a = absurd a
contexts_spare plan p b h c (r ∷ rs) [] a = absurd a

sessions_spare : (plan : Plan) (answers : List ℕ) (b s : ℕ) (xs : List Script) (rs : List SessionRecord) (ls : List Sights) → list_all (script_spares b) xs ≡ true → AreSessions plan answers s xs rs ls → list_all (spares b) (flat_map (λ ys. ys) (map (λ r. filter_map sessions.act_in r.actions) rs)) ≡ true
sessions_spare plan answers b s [] [] [] h a = refl
sessions_spare plan answers b s (x ∷ xs) (r ∷ rs) (l ∷ ls) h a =
    let parts = and_parts (script_spares b x) (list_all (script_spares b) xs) h in
    let own = and_parts (list_all (λ y. not (action_may_stop b y)) x.actions) (list_all (answer_spares b) x.answers) parts.0 in
    all_both (spares b) (filter_map sessions.act_in r.actions) (flat_map (λ ys. ys) (map (λ r. filter_map sessions.act_in r.actions) rs))
    (actions_spare b x.actions r.actions a.0.results.each own.0)
    (sessions_spare plan answers b (suc s) xs rs ls parts.1 a.1)
sessions_spare plan answers b s [] [] (l ∷ ls) h a = absurd a
sessions_spare plan answers b s [] (r ∷ rs) [] h a = absurd a
sessions_spare plan answers b s [] (r ∷ rs) (l ∷ ls) h a = absurd a
sessions_spare plan answers b s (x ∷ xs) [] [] h a = absurd a
sessions_spare plan answers b s (x ∷ xs) [] (l ∷ ls) h a = absurd a
sessions_spare plan answers b s (x ∷ xs) (r ∷ rs) [] h a = absurd a

-- ---- an observer is never used up

never_used : (x : BindingSpec) (place : ℕ) → is_observer x ≡ true → is_used_up_at x place ≡ false
never_used (Observe f) place h = refl
never_used (Break b) place h = cc
never_used (Pause s) place h = cc

none_used : (o : Option BindingSpec) (place : ℕ) → some_and o is_observer ≡ true → some_and o (λ x. is_used_up_at x place) ≡ false
none_used None place h = refl
none_used (Some x) place h = never_used x place h

and_no : (a b : Bool) → b ≡ false → (a && b) ≡ false
and_no true b h = h
and_no false b h = refl

drawn_uses_none : (plan : Plan) (b : ℕ) (d : Drawn) → has_binding plan b is_observer ≡ true → uses_up plan b d ≡ false
drawn_uses_none plan b (On place) h = none_used (slice_get plan.bindings b) place h
drawn_uses_none plan b (Missed place) h = refl
drawn_uses_none plan b Off h = refl

none_spent : (plan : Plan) (b : ℕ) → has_binding plan b is_observer ≡ true → (ss : List Sight) → list_any (is_spent plan b) ss ≡ false
none_spent plan b h [] = refl
none_spent plan b h (s ∷ ss) = ap (λ x. x || list_any (is_spent plan b) ss) (and_no (s.binding == b) (uses_up plan b s.drawn) (drawn_uses_none plan b s.drawn h)) ∙ none_spent plan b h ss

not_disposed : (b : Bool) (s : State) → s ≡ state_by false b → s ≡ states.Disposed → ⊥
not_disposed true s h k = cc
not_disposed false s h k = cc

there_is : {A : Type 0} (f : A → Bool) (xs : List A) (k : ℕ) → some_and (slice_get xs k) f ≡ true → k < length xs
there_is f [] k h = cc
there_is f (x ∷ xs) zero h = omega arith
there_is f (x ∷ xs) (suc k) h = omega (arith, there_is f xs k h)

-- ---- each context

module _ (plan : Plan) (p : Program) (b : ℕ) (watches : has_binding plan b is_observer ≡ true) (replies : List ActResult) (none : (n : ℕ) → count_by (disables_upto b n) replies ≡ 0)
    (attached gone : Type 0) (is_attached : attached) (lives : gone → ⊥) where
  whole_contexts : (c : ℕ) (rs : List ContextRecord) (ss : List Sights) → AreContexts (IsScripted plan) plan p c rs ss → AllByRecursion (λ x. HasLife plan b attached gone x) (parts_of plan p c rs)
      → All (FitsToggles b replies) (flat_map (λ x. x.seen) (parts_of plan p c rs)) → b < length plan.bindings → AreWhole plan p b c rs
  whole_contexts c [] [] a l f lt = tt
  whole_contexts c (r ∷ rs) (s ∷ ss) a l f lt =
      let fits = all_parts (FitsToggles b replies) r.seen (flat_map (λ x. x.seen) (parts_of plan p (suc c) rs)) f in
      let events : List Told = events_of plan p c r in
      let ts : List Told = subject_events plan p r.seen events b in
      let numbers : list_all is_number (answers_of plan p r.seen events b) ≡ true =
      all_map is_number (λ (t : Told). answer_at r.seen t.event.number b) ts
      ∙ sym (all_map (λ (m : ℕ × Drawn). is_number m.1) (λ (t : Told). (t.event.number, answer_at r.seen t.event.number b)) ts)
      ∙ sym (all_map is_number (λ (m : ℕ × Drawn). m.1) (map (λ (t : Told). (t.event.number, answer_at r.seen t.event.number b)) ts))
      ∙ l.0.given.before_lives is_attached lives in (
        (ap (map _) (a.0.logs b lt).log ∙ whole_log c plan p events r.seen b replies watches
            (meaning_paired p (verdicts_of r.stops) (fuel_at plan c) (slice_index p.entries c))
            a.0.sights.subjects numbers none fits.0),
        whole_contexts (suc c) rs ss a.1 l.1 fits.1 lt,
      )
  whole_contexts c [] (s ∷ ss) a l f lt = absurd a
  whole_contexts c (r ∷ rs) [] a l f lt = absurd a

pub logs_whole : (plan : Plan) (p : Program) (r : Report) (b : ℕ) → IsRun plan p r → is_steady plan b ≡ true → AreWhole plan p b 0 r.contexts
logs_whole plan p r b run steady =
    let one = and_parts (has_binding plan b is_observer) (is_attached_before plan b && list_all (script_spares b) plan.sessions) steady in
    let two = and_parts (is_attached_before plan b) (list_all (script_spares b) plan.sessions) one.1 in
    let w : Whole = whole_in plan p r in
    let lt : b < length plan.bindings = there_is is_observer plan.bindings b one.0 in
    let life = run.lives b lt in
    let befores : w.before ≡ flat_map (λ ys. ys) (befores_behind [] plan.sessions) = flat_mapped (λ (s : SessionRecord). s.before) r.sessions ∙ ap (flat_map (λ ys. ys)) run.before in
    let spared : list_all (spares b) (recorded w) ≡ true =
    all_both (spares b) w.before (flat_map replies_of w.contexts ++ flat_map (λ rs. rs) w.scripts)
    (ap (list_all (spares b)) befores ∙ all_flat (spares b) (λ ys. ys) (befores_behind [] plan.sessions) (befores_spare b [] plan.sessions))
    (all_both (spares b) (flat_map replies_of w.contexts) (flat_map (λ rs. rs) w.scripts)
    (contexts_spare plan p b two.1 0 r.contexts r.sights run.contexts)
    (sessions_spare plan r.tally.answers b 0 plan.sessions r.sessions r.scripts two.1 run.sessions)) in
    let none : (n : ℕ) → count_by (disables_upto b n) (recorded w) ≡ 0 = λ n. sym (length-filter (disables_upto b n) (recorded w)) ∙ ap length (none_disables b n (recorded w) spared) in
    let state : (slice_index_or r.tally.bindings b no_tally).state ≡ state_by false (has_attachment b (recorded w)) =
    life.state ∙ ap (λ x. state_by (x || list_any (is_spent plan b) (seen_in w)) (has_attachment b (recorded w))) (none_disposes b (recorded w) spared)
    ∙ ap (λ x. state_by x (has_attachment b (recorded w))) (none_spent plan b one.0 (seen_in w)) in
    let attached : has_attach b w.before ≡ true = ap (has_attach b) befores ∙ befores_attach b [] plan.sessions two.0 in
    whole_contexts plan p b one.0 (recorded w) none (has_attach b w.before ≡ true) (IsGone (slice_index_or r.tally.bindings b no_tally)) attached
    (λ g. not_disposed (has_attachment b (recorded w)) (slice_index_or r.tally.bindings b no_tally).state state g)
    0 r.contexts r.sights run.contexts
    (recursion_from_All (λ x. HasLife plan b (has_attach b w.before ≡ true) (IsGone (slice_index_or r.tally.bindings b no_tally)) x) w.contexts life.lives)
    life.toggled lt
