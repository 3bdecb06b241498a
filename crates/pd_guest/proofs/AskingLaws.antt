-- The sessions of an event are asked, one after another.
use Rattle.std.proofs.Common.{◌≡◌, ℕ, zero, suc, ◌<◌, ◌≤◌, ◌+◌, ◌-◌, ◌^◌, Bool, true, false, ◌&&◌, not, List, [], ◌∷◌, ◌++◌, map, length, take, drop, get_or, Option, None, Some, refl, sym, ap, ◌∙◌, subst, arith, ⊎_elim, get_or-set_same, get_or-set_other, length-set, length-drop}
use Rattle.std.specs.Prelude.{◌==◌, nat_lt, if◌then◌else◌, slice_index_or, slice_set}
use Rattle.std.specs.List.{All, AllByRecursion, list_all, range_with_len, cons_option}
use Rattle.std.specs.Option.{option_map}
use Rattle.std.proofs.lemmas.Bool.{and_parts, and_from, cases_Bool, cond-true, cond-false, lt-ltb, eqb-true, eqb-false, eq-eqb, ne_eqb, cases_lt}
use Rattle.std.proofs.lemmas.List.{append-nil, map-append, length-append, get_or_default}
use Rattle.std.proofs.lemmas.List.Elements.{recursion_from_All, filter-append, filter_map-append}
use Rattle.std.proofs.Math.Seq.{take-append_seam, take-length}
use Rattle.pd_tree.specs.Program.{Program}
use Rattle.pd_machine.specs.Events.{Told}
use Rattle.pd_machine.specs.declared.event.Verdict.{Verdict}
use Rattle.pd_machine.specs.declared.event.Verdict.TheVariants.{Go, Reenter, Return, Kill}
use Rattle.pd_filter.specs.Matching.{row_of}
use Rattle.pd_guest.specs.Reasoning.{reasons_seen}
use Rattle.pd_guest.proofs.HitsLaws.{reasons-are}
use Rattle.pd_meaning.specs.Meaning.{Verdicts}
use Rattle.pd_eval.specs.Watching.{keep}
use Rattle.pd_plan.specs.declared.plan.Plan.{Plan}
use Rattle.pd_plan.specs.declared.plan.Resume.{Resume}
use Rattle.pd_plan.specs.declared.plan.Resume.TheVariants as resumes
use Rattle.pd_board.specs.declared.answers.ActResult.{ActResult}
use Rattle.pd_board.specs.declared.answers.Sight.{Sight}
use Rattle.pd_board.specs.Standing.{Standing}
use Rattle.pd_suspend.specs.declared.stepper.Stepper.{Stepper}
use Rattle.pd_suspend.specs.declared.suspension.Reason.{Reason}
use Rattle.pd_suspend.specs.declared.suspension.Suspension.{Suspension}
use Rattle.pd_suspend.specs.Steps.{Armed, step_of, stands_before, stands_after}
use Rattle.pd_suspend.specs.Counters.{idle, armed, armed_by, moved_by, moved_any, sees_any, stepper_of}
use Rattle.pd_suspend.specs.Laws.{AreNumbered, IsStepping}
use Rattle.pd_suspend.specs.Stops.{is_over, is_verdict, verdict_of, verdicts_of, step_in, step_left, answered_to, views_of, view_of}
use Rattle.pd_suspend.specs.Answers.{acts_of, numbers_in, stops_in}
use Rattle.std.proofs.lemmas.List.{length-map}
use Rattle.std.proofs.lemmas.List.FromFn.{length-range_with_len}
use Rattle.pd_suspend.proofs.Stopping.{step_in-own, step_in-other}
use Rattle.pd_suspend.proofs.Following.{sees_the_end, sees_one_more, arms_the_step}
use Rattle.pd_record.specs.Logs.{is_of, answer_at}
use Rattle.pd_record.specs.Life.{rises}
use Rattle.pd_record.specs.Step.{is_below}
use Rattle.pd_record.specs.Stopping.{IsStoppedTo, IsStoppingAt, reasons_by, stop_by}
use Rattle.pd_record.proofs.Lists.{list_all-weaker}
use Rattle.pd_record.proofs.SeenLaws.{seen_below}
use Rattle.pd_record.proofs.StoppingLaws.{stopping-begins, stopping-over, stopping-runs, stopping-stops, stopping-ends}
use Rattle.pd_guest.specs.declared.reasons.Place.{Place}
use Rattle.pd_guest.specs.declared.serving.Progress.{Progress}
use Rattle.pd_guest.specs.Moment.{At}
use Rattle.pd_guest.specs.Delivering.{steady_of}
use Rattle.pd_guest.specs.Growing.{IsMore}
use Rattle.pd_guest.specs.Keeping.{IsKeptAt, start_of}
use Rattle.pd_record.specs.Replies.{owed_of, HasGrownBy}
use Rattle.pd_guest.specs.Asking.{IsStepped, IsKept, IsAsking, IsAsked, IsPlaceOf, is_go, left_of, stepper_at, verdict_by}
use Rattle.pd_guest.proofs.ReplyLaws.{grown-served, grown-asked, acts-push}

-- ---- steps

some_is : {A : Type 0} → A → Option A → A
some_is x None = x
some_is x (Some y) = y

to_stepping : (p : Program) (past : List Told) (o : Option Armed) (s : Stepper) → IsStepped p past o s → IsStepping p past o s
to_stepping p past None s i = i.free refl
to_stepping p past (Some a) s i = i.bound a refl

of_stepping : (p : Program) (past : List Told) (o : Option Armed) (s : Stepper) → IsStepping p past o s → IsStepped p past o s
unfolding some_is
of_stepping p past None s j = record { free = λ e. j; bound = λ a e. absurd (none_some e) }
  where
    none_some : {a : Armed} → None ≡ Some a → ⊥
    none_some e = cc
of_stepping p past (Some a) s j = record {
  free = λ e. absurd (some_none e);
  bound = λ b e. subst (λ (x : Armed). (x.event < length past) × (s ≡ stepper_of (moved_by p (armed x.step x.depth) (drop (suc x.event) past)))) (ap (some_is a) e) j;
}
  where
    some_none : {a : Armed} → Some a ≡ None → ⊥
    some_none e = cc

pub stepped-idle : (p : Program) → IsStepped p [] None idle
stepped-idle p = record { free = λ e. refl; bound = λ a e. absurd (none_some e) }
  where
    none_some : {a : Armed} → None ≡ Some a → ⊥
    none_some e = cc

moved_at : Program → Stepper → Told → Stepper
moved_at p s t = moved_any s (stands_before p t.event) (stands_after p t.event) t.event.depth

stepped_more : (p : Program) (past : List Told) (o : Option Armed) (s : Stepper) (t : Told) → IsStepped p past o s → IsStepped p (past ++ t ∷ []) o (moved_at p s t)
unfolding moved_at
stepped_more p past o s t i = of_stepping p (past ++ t ∷ []) o (moved_at p s t) (sees_one_more p past o s t (to_stepping p past o s i))

pub sees-over : (p : Program) (past : List Told) (o : Option Armed) (s : Stepper) (t : Told) → AreNumbered past → t.event.number ≡ length past → IsStepped p past o s
    → sees_any s (stands_before p t.event) (stands_after p t.event) t.event.depth ≡ is_over p past t.event o
sees-over p past o s t numbered number i = sees_the_end p past o s t numbered number (to_stepping p past o s i)

moved_by_place : (m : At) (s : Stepper) (place : Place) → IsPlaceOf m place → moved_any s place.before place.after m.told.event.depth ≡ moved_at m.program s m.told
unfolding moved_at
moved_by_place m s place at =
    ap (λ x. moved_any s x place.after m.told.event.depth) at.before ∙ ap (λ x. moved_any s (stands_before m.program m.told.event) x m.told.event.depth) at.after

-- ---- lists

same_steppers : (h after : Progress) (i : ℕ) (s : Stepper) → after.steppers.items ≡ slice_set h.steppers.items i s → (x : ℕ) → (i ≡ x → ⊥) → stepper_at after x ≡ stepper_at h x
same_steppers h after i s e x apart = ap (λ xs. slice_index_or xs x idle) e ∙ get_or-set_other h.steppers.items i x s idle (λ k. apart (sym k))

own_stepper : (h after : Progress) (i : ℕ) (s : Stepper) → i < length h.steppers.items → after.steppers.items ≡ slice_set h.steppers.items i s → stepper_at after i ≡ s
own_stepper h after i s lt e = ap (λ xs. slice_index_or xs i idle) e ∙ get_or-set_same h.steppers.items i s idle lt

range_push : (a n : ℕ) → range_with_len a (suc n) ≡ range_with_len a n ++ (a + n) ∷ []
range_push a zero = ap (λ x. x ∷ []) (omega arith)
range_push a (suc n) = ap (λ xs. a ∷ xs) (range_push (a + 1) n ∙ ap (λ x. range_with_len (a + 1) n ++ x ∷ []) (omega arith))

range_first : (a n : ℕ) → 0 < n → range_with_len a n ≡ a ∷ range_with_len (a + 1) (n - 1)
range_first a zero h = absurd (omega (arith, h))
range_first a (suc n) h = ap (λ k. a ∷ range_with_len (a + 1) k) (omega arith)

left_first : (plan : Plan) (i : ℕ) → i < length plan.sessions → left_of plan i true ≡ i ∷ left_of plan (i + 1) true
left_first plan i h = range_first i (length plan.sessions - i) (omega (arith, h)) ∙ ap (λ k. i ∷ range_with_len (i + 1) k) (omega (arith, h))

left_none : (plan : Plan) (i : ℕ) (goes : Bool) → length plan.sessions ≤ i → left_of plan i goes ≡ []
left_none plan i true h = ap (range_with_len i) (none (omega (arith, h)))
  where
    none : {k : ℕ} → k ≡ 0 → k ≡ 0
    none e = e
left_none plan i false h = refl

one-numbered : (ts : List Told) (t : Told) → t.event.number ≡ length ts → AreNumbered ts → AreNumbered (ts ++ t ∷ [])
one-numbered ts t e h =
    map-append (λ (u : Told). u.event.number) ts (t ∷ [])
    ∙ ap (λ x. x ++ t.event.number ∷ []) h
    ∙ ap (λ x. range_with_len 0 (length ts) ++ x ∷ []) (e ∙ zero_left (length ts))
    ∙ sym (range_push 0 (length ts))
    ∙ ap (range_with_len 0) (suc_is (length ts) ∙ sym (length-append ts (t ∷ [])))
  where
    zero_left : (k : ℕ) → k ≡ 0 + k
    zero_left k = omega arith

    suc_is : (k : ℕ) → suc k ≡ k + 1
    suc_is k = omega arith

-- ---- an event begins

answer_before : (xs ys : List Sight) (n e b : ℕ) → e < n → list_all (λ (x : Sight). x.event == n) ys ≡ true → answer_at (xs ++ ys) e b ≡ answer_at xs e b
answer_before [] [] n e b h k = refl
answer_before [] (y ∷ ys) n e b h k =
    let parts = and_parts (y.event == n) (list_all (λ (x : Sight). x.event == n) ys) k in
    cond-false (is_of e b y) y.drawn (answer_at ys e b) (left_no (y.event == e) (y.binding == b) (ne_eqb y.event e (λ q. omega (arith, h, q, eqb-true y.event n parts.0)))) ∙ answer_before [] ys n e b h parts.1
  where
    left_no : (x y : Bool) → x ≡ false → (x && y) ≡ false
    left_no true y k = cc
    left_no false y k = refl
answer_before (x ∷ xs) ys n e b h k = ap (λ d. if is_of e b x then x.drawn else d) (answer_before xs ys n e b h k)

drop_seam : {A : Type 0} (xs ys : List A) → drop (length xs) (xs ++ ys) ≡ ys
drop_seam [] ys = refl
drop_seam (x ∷ xs) ys = drop_seam xs ys

numbers_below : (n : ℕ) (ts : List Told) → list_all (is_below n) ts ≡ true → list_all (λ (u : Told). nat_lt u.event.number n) ts ≡ true
numbers_below n ts h = list_all-weaker (is_below n) (λ (u : Told). nat_lt u.event.number n) (λ u k. (and_parts (nat_lt u.event.number n) (nat_lt u.event.opened n) k).0) ts h

pub asking-begins : (m : At) (old new : Standing) (h after : Progress)
    → IsKept m.plan m.program old h → after ≡ record h { opens = after.opens; kept = after.kept }
    → IsKeptAt m.plan m.program (start_of h.start.known) ((length h.history.events) + 1) (h.history.events ++ m.told ∷ []) (acts_of h.stops.items) new after.opens.items after.kept
    → (length h.history.events) < 2 ^ 25 → m.told.event.number ≡ (length h.history.events) → IsMore m.plan m.told.event.number old new → after.kept.context ≡ h.kept.context → steady_of new ≡ steady_of old
    → IsAsking m (length h.kept.seen.items) 0 true new after
asking-begins m old new h after k same kept few number more context steady =
    let seen : after.kept.seen.items ≡ h.kept.seen.items ++ more.news = kept.seen ∙ more.sights ∙ ap (λ x. x ++ more.news) (sym k.at_next.seen) in
    let before : list_all (λ (x : Sight). nat_lt x.event (length h.history.events)) old.sights ≡ true =
    seen_below m.plan m.program h.history.events (length h.history.events) old.sights old.sight_loads old.passes old.loads k.at_next.current.below k.at_next.current.seen in
    let now : list_all (λ (x : Sight). x.event == (length h.history.events)) more.news ≡ true = ap (λ y. list_all (λ (x : Sight). x.event == y) more.news) (sym number) ∙ more.now in
    let shares : (x : ℕ) → new.answer_share x ≡ old.answer_share x = λ x. ap (λ s. s.answer_share x) steady in
    let sessions : new.sessions ≡ old.sessions = ap (λ s. s.sessions) steady in
    subst (λ y. IsAsking m (length h.kept.seen.items) 0 true new y) (sym same) (record {
      at_next = kept;
      context = context ∙ k.context;
      number = number;
      few = few;
      numbered = k.numbered;
      past = numbers_below (length h.history.events) h.history.events k.at_next.current.below;
      earlier = ap (λ ss. list_all (λ (x : Sight). nat_lt x.event (length h.history.events)) (take (length h.kept.seen.items) ss)) seen
          ∙ ap (λ ss. list_all (λ (x : Sight). nat_lt x.event (length h.history.events)) ss) (take-append_seam h.kept.seen.items more.news)
          ∙ ap (λ ss. list_all (λ (x : Sight). nat_lt x.event (length h.history.events)) ss) k.at_next.seen ∙ before;
      now = ap (λ ss. list_all (λ (x : Sight). x.event == (length h.history.events)) (drop (length h.kept.seen.items) ss)) seen
          ∙ ap (λ ss. list_all (λ (x : Sight). x.event == (length h.history.events)) ss) (drop_seam h.kept.seen.items more.news) ∙ now;
      within = let e : length after.kept.seen.items ≡ length h.kept.seen.items + length more.news = ap length seen ∙ length-append h.kept.seen.items more.news in omega (arith, e);
      stopping = subst (λ left. IsStoppingAt m.plan m.program h.context h.history.events m.told left new.sights h.stops.items) (ap (range_with_len 0) (sub_zero (length m.plan.sessions)))
          (stopping-begins m.plan m.program h.context h.history.events m.told (length h.history.events) old.sights new.sights h.stops.items number
          (λ e b lt. ap (λ ss. answer_at ss e b) more.sights ∙ answer_before old.sights more.news (length h.history.events) e b lt now) k.stopped);
      steppers = k.steppers;
      waiting = λ x low lt. k.stepped x lt;
      moved = λ x lt. absurd (omega (arith, lt));
      sessions = sessions ∙ k.sessions;
      few_sessions = k.few_sessions;
      few_stops = omega (arith, k.few_stops);
      unasked = λ x low lt. omega (arith, shares x, k.shares x (omega (arith, lt, sessions)));
      shares = λ x lt. omega (arith, shares x, k.shares x (omega (arith, lt, sessions)));
      numbers = λ x. ap (λ s. s.numbers x) steady ∙ k.numbers x;
      rising = k.rising;
      replied = grown-served m.plan h.start.replies (length h.history.events) old new h.stops.items h.history.events m.told number (numbers_below (length h.history.events) h.history.events k.at_next.current.below) before k.at_next.current.acts_below
          (subst (λ e. IsMore m.plan e old new) number more) k.replied;
    })
  where
    sub_zero : (k : ℕ) → k ≡ k - 0
    sub_zero k = omega arith

-- ---- all sessions were asked

pub kept-over : (m : At) (first : ℕ) (goes : Bool) (s : Standing) (h after : Progress)
    → IsAsking m first (length m.plan.sessions) goes s h
    → after ≡ record h { history = after.history } → after.history.events ≡ h.history.events ++ m.told ∷ []
    → IsKept m.plan m.program s after
kept-over m first goes s h after i same events =
    let ts : List Told = h.history.events ++ m.told ∷ [] in
    let n : ℕ = length h.history.events in
    let next : length after.history.events ≡ n + 1 = ap length events ∙ length-append h.history.events (m.told ∷ []) in
    let numbered : AreNumbered ts = one-numbered h.history.events m.told i.number i.numbered in
    let over : IsStoppedTo m.plan m.program h.context (suc m.told.event.number) ts s.sights h.stops.items =
    stopping-over m.plan m.program h.context h.history.events m.told s.sights h.stops.items
    (subst (λ left. IsStoppingAt m.plan m.program h.context h.history.events m.told left s.sights h.stops.items) (left_none m.plan (length m.plan.sessions) goes (omega arith)) i.stopping) in
    let stopped : IsStoppedTo m.plan m.program h.context (n + 1) ts s.sights h.stops.items =
    subst (λ k. IsStoppedTo m.plan m.program h.context k ts s.sights h.stops.items) (ap suc i.number ∙ suc_is n) over in
    subst (λ y. IsKept m.plan m.program s y) (sym same) (record {
      at_next = subst (λ k. IsKeptAt m.plan m.program (start_of h.start.known) k after.history.events (acts_of h.stops.items) s h.opens.items h.kept) (sym next)
          (subst (λ us. IsKeptAt m.plan m.program (start_of h.start.known) (n + 1) us (acts_of h.stops.items) s h.opens.items h.kept) (sym events) i.at_next);
      context = i.context;
      numbered = subst AreNumbered (sym events) numbered;
      stopped = subst (λ k. IsStoppedTo m.plan m.program h.context k after.history.events s.sights h.stops.items) (sym next)
          (subst (λ us. IsStoppedTo m.plan m.program h.context (n + 1) us s.sights h.stops.items) (sym events) stopped);
      steppers = i.steppers;
      stepped = λ x lt. subst (λ us. IsStepped m.program us (step_in x h.stops.items) (stepper_at h x)) (sym events) (i.moved x lt);
      sessions = i.sessions;
      few_sessions = i.few_sessions;
      few_stops = omega (arith, i.few_stops, i.few_sessions, next);
      shares = λ x lt. omega (arith, i.shares x lt, next);
      numbers = i.numbers;
      rising = i.rising;
      replied = subst (λ us. HasGrownBy (owed_of m.plan s.sights h.stops.items us) h.start.replies s.replies) (sym events) i.replied;
    })
  where
    suc_is : (k : ℕ) → suc k ≡ k + 1
    suc_is k = omega arith

-- ---- a session is passed over

module _ (m : At) (first i : ℕ) (s : Standing) (h after : Progress) (place : Place) (at : IsPlaceOf m place) (within : i < length m.plan.sessions)
    (same : after ≡ record h { steppers = after.steppers }) (steppers : after.steppers.items ≡ slice_set h.steppers.items i (moved_any (stepper_at h i) place.before place.after m.told.event.depth)) where
  moved_on : (goes : Bool) → IsAsking m first i goes s h → (next : Bool) → IsStoppingAt m.plan m.program h.context h.history.events m.told (left_of m.plan (i + 1) next) s.sights h.stops.items
      → IsAsking m first (i + 1) next s after
  moved_on goes k next stopping =
      let ts : List Told = h.history.events in
      let made : Stepper = moved_any (stepper_at h i) place.before place.after m.told.event.depth in
      let own : stepper_at after i ≡ made = own_stepper h after i made (omega (arith, within, k.steppers)) steppers in
      let here : IsStepped m.program (ts ++ m.told ∷ []) (step_in i h.stops.items) (stepper_at after i) =
      subst (λ y. IsStepped m.program (ts ++ m.told ∷ []) (step_in i h.stops.items) y) (sym (own ∙ moved_by_place m (stepper_at h i) place at))
      (stepped_more m.program ts (step_in i h.stops.items) (stepper_at h i) m.told (k.waiting i (omega arith) within)) in
      let there : (x : ℕ) → (i ≡ x → ⊥) → stepper_at after x ≡ stepper_at h x = same_steppers h after i made steppers in
      subst (λ y. IsAsking m first (i + 1) next s y) (sym same) (record {
        at_next = k.at_next;
        context = k.context;
        number = k.number;
        few = k.few;
        numbered = k.numbered;
        past = k.past;
        earlier = k.earlier;
        now = k.now;
        within = k.within;
        stopping = stopping;
        steppers = ap length steppers ∙ length-set h.steppers.items i made ∙ k.steppers;
        waiting = λ x low lt. subst (λ y. IsStepped m.program ts (step_in x h.stops.items) y) (sym (there x (λ e. omega (arith, low, e)))) (k.waiting x (omega (arith, low)) lt);
        moved = λ x lt. ⊎_elim
            (λ (less : x < i). subst (λ y. IsStepped m.program (ts ++ m.told ∷ []) (step_in x h.stops.items) y) (sym (there x (λ e. omega (arith, less, e)))) (k.moved x less))
            (λ (no : i ≤ x). let e : i ≡ x = omega (arith, no, lt) in subst (λ y. IsStepped m.program (ts ++ m.told ∷ []) (step_in y h.stops.items) (stepper_at after y)) e here)
            (cases_lt x i);
        sessions = k.sessions;
        few_sessions = k.few_sessions;
        few_stops = omega (arith, k.few_stops);
        unasked = λ x low lt. k.unasked x (omega (arith, low)) lt;
        shares = k.shares;
        numbers = k.numbers;
        rising = k.rising;
        replied = k.replied;
      })

  -- since an answer before changed the run
  pub asking-passes : IsAsking m first i false s h → IsAsking m first (i + 1) false s after
  asking-passes k = moved_on false k false k.stopping

  -- since it has no reason
  pub asking-runs : reasons_by m.plan m.program h.context h.history.events s.sights h.stops.items m.told i ≡ [] → IsAsking m first i true s h → IsAsking m first (i + 1) true s after
  asking-runs none k = moved_on true k true
      (stopping-runs m.plan m.program h.context h.history.events m.told i (left_of m.plan (i + 1) true) s.sights h.stops.items none
      (subst (λ left. IsStoppingAt m.plan m.program h.context h.history.events m.told left s.sights h.stops.items) (left_first m.plan i within) k.stopping))

-- ---- numbers of answers

numbers-own : (i : ℕ) (stops : List Suspension) (x : Suspension) → (x.session == i) ≡ true → numbers_in i (stops ++ x ∷ []) ≡ numbers_in i stops ++ x.answer ∷ []
numbers-own i stops x h =
    ap (map (λ (y : Suspension). y.answer)) (filter-append (λ (y : Suspension). y.session == i) stops (x ∷ []) ∙ ap (λ y. stops_in i stops ++ y) (cond-true (x.session == i) (x ∷ []) [] h))
    ∙ map-append (λ (y : Suspension). y.answer) (stops_in i stops) (x ∷ [])

numbers-other : (i : ℕ) (stops : List Suspension) (x : Suspension) → (x.session == i) ≡ false → numbers_in i (stops ++ x ∷ []) ≡ numbers_in i stops
numbers-other i stops x h =
    ap (map (λ (y : Suspension). y.answer)) (filter-append (λ (y : Suspension). y.session == i) stops (x ∷ []) ∙ ap (λ y. stops_in i stops ++ y) (cond-false (x.session == i) (x ∷ []) [] h) ∙ append-nil (stops_in i stops))

less_all : (ns : List ℕ) (n y : ℕ) → list_all (nat_lt n) ns ≡ true → n < y → list_all (nat_lt n) (ns ++ y ∷ []) ≡ true
less_all [] n y h k = and_from _ _ (lt-ltb n y k) refl
less_all (x ∷ xs) n y h k = let parts = and_parts (nat_lt n x) (list_all (nat_lt n) xs) h in and_from _ _ parts.0 (less_all xs n y parts.1 k)

rises-push : (ns : List ℕ) (y : ℕ) → rises ns ≡ true → AllByRecursion (λ n. n < y) ns → rises (ns ++ y ∷ []) ≡ true
rises-push [] y h k = refl
rises-push (n ∷ ns) y h k =
    let parts = and_parts (list_all (nat_lt n) ns) (rises ns) h in
    and_from _ _ (less_all ns n y parts.0 k.0) (rises-push ns y parts.1 k.1)

-- ---- verdicts

verdict_one : (kept : Verdicts) (e : ℕ) (r : Resume) → kept ++ cons_option (option_map (λ (v : Verdict). (e, v)) (verdict_of r)) [] ≡ keep kept e (verdict_by r)
verdict_one kept e resumes.Continue = append-nil kept
verdict_one kept e (resumes.Into n) = append-nil kept
verdict_one kept e (resumes.Over n) = append-nil kept
verdict_one kept e (resumes.Out n) = append-nil kept
verdict_one kept e (resumes.Reenter k) = refl
verdict_one kept e (resumes.Return k v) = refl
verdict_one kept e resumes.Kill = refl

pub verdicts-kept : (stops : List Suspension) (x : Suspension) (n : ℕ) → x.event ≡ n → verdicts_of (stops ++ x ∷ []) ≡ keep (verdicts_of stops) n (verdict_by x.resume)
verdicts-kept stops x n e =
    filter_map-append (λ (y : Suspension). option_map (λ (v : Verdict). (y.event, v)) (verdict_of y.resume)) stops (x ∷ [])
    ∙ verdict_one (verdicts_of stops) x.event x.resume ∙ ap (λ k. keep (verdicts_of stops) k (verdict_by x.resume)) e

goes_by : (r : Resume) → is_go (verdict_by r) ≡ not (is_verdict r)
goes_by resumes.Continue = refl
goes_by (resumes.Into n) = refl
goes_by (resumes.Over n) = refl
goes_by (resumes.Out n) = refl
goes_by (resumes.Reenter k) = refl
goes_by (resumes.Return k v) = refl
goes_by resumes.Kill = refl

-- ---- a session is asked

frames_long : (p : Program) (t : Told) → length (views_of p t.scene) ≡ length t.scene.frames
frames_long p t = length-map (range_with_len 0 (length t.scene.frames)) (view_of p t.scene) ∙ length-range_with_len 0 (length t.scene.frames)

module _ (m : At) (first i : ℕ) (s new : Standing) (h after : Progress) (x : Suspension) (r : Reason) (rs : List Reason) (within : i < length m.plan.sessions)
    (k : IsAsking m first i true s h) (none : reasons_by m.plan m.program h.context h.history.events s.sights h.stops.items m.told i ≡ r ∷ rs) where
  -- how far the suspensions are known then
  asked_stopping : (is : Bool) → is_verdict x.resume ≡ is → x ≡ stop_by m.plan m.program h.context s.sights h.stops.items m.told i (r ∷ rs) (answered_to x)
      → IsStoppingAt m.plan m.program h.context h.history.events m.told (left_of m.plan (i + 1) (not is)) s.sights (h.stops.items ++ x ∷ [])
  asked_stopping false goes shown =
      subst (λ y. IsStoppingAt m.plan m.program h.context h.history.events m.told (left_of m.plan (i + 1) true) s.sights (h.stops.items ++ y ∷ [])) (sym shown)
      (stopping-stops m.plan m.program h.context h.history.events m.told i (left_of m.plan (i + 1) true) s.sights h.stops.items r rs (answered_to x) none goes
      (subst (λ left. IsStoppingAt m.plan m.program h.context h.history.events m.told left s.sights h.stops.items) (left_first m.plan i within) k.stopping))
  asked_stopping true ends shown =
      subst (λ y. IsStoppingAt m.plan m.program h.context h.history.events m.told [] s.sights (h.stops.items ++ y ∷ [])) (sym shown)
      (stopping-ends m.plan m.program h.context h.history.events m.told i (left_of m.plan (i + 1) true) s.sights h.stops.items r rs (answered_to x) none ends
      (subst (λ left. IsStoppingAt m.plan m.program h.context h.history.events m.told left s.sights h.stops.items) (left_first m.plan i within) k.stopping))

  asked_numbers : (x.session ≡ i) → new.numbers i ≡ s.numbers i ++ x.answer ∷ [] → ((y : ℕ) → (y == i) ≡ false → new.numbers y ≡ s.numbers y)
      → (y : ℕ) → new.numbers y ≡ numbers_in y (h.stops.items ++ x ∷ [])
  asked_numbers own more others y = ⊎_elim
      (λ (e : (y == i) ≡ true).
      subst (λ z. new.numbers z ≡ numbers_in z (h.stops.items ++ x ∷ [])) (sym (eqb-true y i e))
      (more ∙ ap (λ ns. ns ++ x.answer ∷ []) (k.numbers i) ∙ sym (numbers-own i h.stops.items x (eq-eqb x.session i own))))
      (λ (e : (y == i) ≡ false).
      others y e ∙ k.numbers y ∙ sym (numbers-other y h.stops.items x (ne_eqb x.session y (λ q. eqb-false y i e (sym q ∙ own)))))
      (cases_Bool (y == i))

  asked_rising : (x.session ≡ i) → All (λ n. n < x.answer) (s.numbers i) → (y : ℕ) → rises (numbers_in y (h.stops.items ++ x ∷ [])) ≡ true
  asked_rising own above y = ⊎_elim
      (λ (e : (y == i) ≡ true).
      subst (λ z. rises (numbers_in z (h.stops.items ++ x ∷ [])) ≡ true) (sym (eqb-true y i e))
      (ap rises (numbers-own i h.stops.items x (eq-eqb x.session i own))
      ∙ rises-push (numbers_in i h.stops.items) x.answer (k.rising i) (recursion_from_All (λ n. n < x.answer) (numbers_in i h.stops.items) (subst (λ ns. All (λ n. n < x.answer) ns) (k.numbers i) above))))
      (λ (e : (y == i) ≡ false).
      ap rises (numbers-other y h.stops.items x (ne_eqb x.session y (λ q. eqb-false y i e (sym q ∙ own)))) ∙ k.rising y)
      (cases_Bool (y == i))

  asked_share : ((y : ℕ) → new.answer_share y + (if y == i then 1 else 0) ≡ s.answer_share y) → (y : ℕ) → y < s.sessions → 2 ^ 26 ≤ new.answer_share y + ((length h.history.events) + 1)
  asked_share share y lt = ⊎_elim
      (λ (e : (y == i) ≡ true).
      let one : ◌≡◌ {A = ℕ} (if y == i then 1 else 0) 1 = cond-true (y == i) 1 0 e in
      let was : 2 ^ 26 ≤ s.answer_share y + (length h.history.events) = k.unasked y (omega (arith, eqb-true y i e)) lt in
      omega (arith, one, was, share y))
      (λ (e : (y == i) ≡ false).
      let zero_is : ◌≡◌ {A = ℕ} (if y == i then 1 else 0) 0 = cond-false (y == i) 1 0 e in
      omega (arith, zero_is, k.shares y lt, share y))
      (cases_Bool (y == i))

  pub asking-asked : (mid : Progress) (v : Verdict) (seen_by : Stepper) → mid ≡ record h { steppers = mid.steppers } → mid.steppers.items ≡ slice_set h.steppers.items i seen_by
      → after ≡ record mid { stops = after.stops; steppers = after.steppers }
      → IsAsked m i (r ∷ rs) s new mid after x → v ≡ verdict_by x.resume
      → IsAsking m first (i + 1) (is_go v) new after
  asking-asked mid v seen_by mid_is saw after_is was verdict =
      let ts : List Told = h.history.events in
      let a : IsAsked m i (r ∷ rs) s new (record h { steppers = mid.steppers }) after x = subst (λ y. IsAsked m i (r ∷ rs) s new y after x) mid_is was in
      let same : after ≡ record h { stops = after.stops; steppers = after.steppers } = after_is ∙ ap (λ (y : Progress). record y { stops = after.stops; steppers = after.steppers }) mid_is in
      let event : x.event ≡ (length h.history.events) = ap (λ (y : Suspension). y.event) a.shown ∙ k.number in
      let own : x.session ≡ i = ap (λ (y : Suspension). y.session) a.shown in
      let long : length mid.steppers.items ≡ length m.plan.sessions = ap length saw ∙ length-set h.steppers.items i seen_by ∙ k.steppers in
      let sights : new.sights ≡ s.sights = ap (λ y. y.sights) a.same in
      let armed_is : Stepper = armed_by (step_of x.resume) (length m.told.scene.frames) in
      let there : (y : ℕ) → (i ≡ y → ⊥) → stepper_at after y ≡ stepper_at h y = λ y e. same_steppers mid after i armed_is was.steppers y e ∙ same_steppers h mid i seen_by saw y e in
      let here : stepper_at after i ≡ armed_is = own_stepper mid after i armed_is (omega (arith, within, long)) was.steppers in
      let deep : length x.frames ≡ length m.told.scene.frames = ap (λ (y : Suspension). length y.frames) a.shown ∙ frames_long m.program m.told in
      let left : IsStepped m.program (ts ++ m.told ∷ []) (step_left x) (stepper_at after i) =
      subst (λ y. IsStepped m.program (ts ++ m.told ∷ []) (step_left x) y) (ap (armed_by (step_of x.resume)) deep ∙ sym here)
      (of_stepping m.program (ts ++ m.told ∷ []) (step_left x) (armed_by (step_of x.resume) (length x.frames)) (arms_the_step m.program ts m.told x event)) in
      let mine : IsStepped m.program (ts ++ m.told ∷ []) (step_in i (h.stops.items ++ x ∷ [])) (stepper_at after i) =
      subst (λ o. IsStepped m.program (ts ++ m.told ∷ []) o (stepper_at after i)) (sym (step_in-own i h.stops.items x (eq-eqb x.session i own))) left in
      let others : (y : ℕ) → (i ≡ y → ⊥) → step_in y (h.stops.items ++ x ∷ []) ≡ step_in y h.stops.items =
      λ y e. step_in-other y h.stops.items x (ne_eqb x.session y (λ q. e (sym own ∙ q))) in
      let go : is_go v ≡ not (is_verdict x.resume) = ap is_go verdict ∙ goes_by x.resume in
      let acts : acts_of (h.stops.items ++ x ∷ []) ≡ acts_of h.stops.items ++ map {B = ℕ × ActResult} (λ y. ((length h.history.events), y)) x.acts =
      acts-push h.stops.items x ∙ ap (λ e. acts_of h.stops.items ++ map {B = ℕ × ActResult} (λ y. (e, y)) x.acts) event in
      let sessions : new.sessions ≡ s.sessions = ap (λ y. y.sessions) a.same in
      subst (λ y. IsAsking m first (i + 1) (is_go v) new y) (sym same)
      (record {
        at_next = subst (λ z. IsKeptAt m.plan m.program (start_of h.start.known) ((length h.history.events) + 1) (ts ++ m.told ∷ []) (acts_of z) new h.opens.items h.kept) (sym a.stops)
            (subst (λ done. IsKeptAt m.plan m.program (start_of h.start.known) ((length h.history.events) + 1) (ts ++ m.told ∷ []) done new h.opens.items h.kept) (sym acts)
            (a.kept m.plan m.program (start_of h.start.known) (length h.history.events) (ts ++ m.told ∷ []) (acts_of h.stops.items) h.opens.items h.kept k.at_next));
        context = k.context;
        number = k.number;
        few = k.few;
        numbered = k.numbered;
        past = k.past;
        earlier = k.earlier;
        now = k.now;
        within = k.within;
        stopping = subst (λ z. IsStoppingAt m.plan m.program h.context ts m.told (left_of m.plan (i + 1) (is_go v)) new.sights z) (sym a.stops)
            (subst (λ ss. IsStoppingAt m.plan m.program h.context ts m.told (left_of m.plan (i + 1) (is_go v)) ss (h.stops.items ++ x ∷ [])) (sym sights)
            (subst (λ g. IsStoppingAt m.plan m.program h.context ts m.told (left_of m.plan (i + 1) g) s.sights (h.stops.items ++ x ∷ [])) (sym go)
            (asked_stopping (is_verdict x.resume) refl a.shown)));
        steppers = ap length was.steppers ∙ length-set mid.steppers.items i armed_is ∙ long;
        waiting = λ y low lt. subst (λ z. IsStepped m.program ts (step_in y z) (stepper_at after y)) (sym a.stops)
            (subst (λ o. IsStepped m.program ts o (stepper_at after y)) (sym (others y (λ e. omega (arith, low, e))))
            (subst (λ z. IsStepped m.program ts (step_in y h.stops.items) z) (sym (there y (λ e. omega (arith, low, e)))) (k.waiting y (omega (arith, low)) lt)));
        moved = λ y lt. subst (λ z. IsStepped m.program (ts ++ m.told ∷ []) (step_in y z) (stepper_at after y)) (sym a.stops)
            (⊎_elim
            (λ (less : y < i). subst (λ o. IsStepped m.program (ts ++ m.told ∷ []) o (stepper_at after y)) (sym (others y (λ e. omega (arith, less, e))))
            (subst (λ z. IsStepped m.program (ts ++ m.told ∷ []) (step_in y h.stops.items) z) (sym (there y (λ e. omega (arith, less, e)))) (k.moved y less)))
            (λ (no : i ≤ y). let e : i ≡ y = omega (arith, no, lt) in subst (λ z. IsStepped m.program (ts ++ m.told ∷ []) (step_in z (h.stops.items ++ x ∷ [])) (stepper_at after z)) e mine)
            (cases_lt y i));
        sessions = sessions ∙ k.sessions;
        few_sessions = k.few_sessions;
        few_stops = let e : length after.stops.items ≡ length h.stops.items + 1 = ap length a.stops ∙ length-append h.stops.items (x ∷ []) in omega (arith, e, k.few_stops);
        unasked = λ y low lt.
            let apart : ◌≡◌ {A = ℕ} (if y == i then 1 else 0) 0 = cond-false (y == i) 1 0 (ne_eqb y i (λ e. omega (arith, low, e))) in
            omega (arith, apart, a.share y, k.unasked y (omega (arith, low)) (omega (arith, lt, sessions)));
        shares = λ y lt. asked_share a.share y (omega (arith, lt, sessions));
        numbers = λ y. subst (λ z. new.numbers y ≡ numbers_in y z) (sym a.stops) (asked_numbers own a.numbers a.others y);
        rising = λ y. subst (λ z. rises (numbers_in y z) ≡ true) (sym a.stops) (asked_rising own a.above y);
        replied = subst (λ z. HasGrownBy (owed_of m.plan new.sights z (ts ++ m.told ∷ [])) h.start.replies new.replies) (sym a.stops)
            (subst (λ ss. HasGrownBy (owed_of m.plan ss (h.stops.items ++ x ∷ []) (ts ++ m.told ∷ [])) h.start.replies new.replies) (sym sights)
            (grown-asked m.plan h.start.replies s.replies new.replies s.sights h.stops.items x ts m.told (k.number ∙ sym event)
            (subst (λ e. list_all (λ (u : Told). nat_lt u.event.number e) ts ≡ true) (sym event) k.past) a.replies k.replied));
      })

-- ---- what the code reads

pub slice-from : (xs items : List Sight) (k : ℕ) → xs ≡ items → take (length xs - k) (drop k xs) ≡ drop k items
slice-from xs items k same =
    ap (λ n. take n (drop k xs)) (sym (length-drop k xs)) ∙ take-length (drop k xs) ∙ ap (drop k) same

pub read-as : (xs : List Stepper) (i : ℕ) (x : Stepper) → i < length xs → x ≡ get_or xs i x → x ≡ slice_index_or xs i idle
read-as xs i x lt e = e ∙ get_or_default xs i x idle lt

-- the reasons that were gathered are those of the session
pub asked-reasons : (m : At) (first i : ℕ) (s : Standing) (h : Progress) (stepper : Stepper) (sights : List Sight) (place : Place) (found : List Reason)
    → IsAsking m first i true s h → i < length m.plan.sessions → IsPlaceOf m place → stepper ≡ stepper_at h i → sights ≡ drop first h.kept.seen.items
    → found ≡ reasons_seen m sights i stepper place
    → reasons_by m.plan m.program h.context h.history.events s.sights h.stops.items m.told i ≡ found
asked-reasons m first i s h stepper sights place found k lt at stepper_is sights_are found_are =
    let rows : length s.table.rows ≡ length m.plan.bindings = ap (λ t. length t.rows) k.at_next.table ∙ length-map m.plan.bindings (row_of m.program) in
    let seen : h.kept.seen.items ≡ s.sights = k.at_next.seen in
    sym (found_are
    ∙ ap (λ ss. reasons_seen m ss i stepper place) (sights_are ∙ ap (drop first) seen)
    ∙ ap (λ x. reasons_seen m (drop first s.sights) i x place) stepper_is
    ∙ reasons-are m i h.context first h.history.events s.sights h.stops.items (stepper_at h i) place
    k.at_next.current.seen.order
    (ap (λ n. list_all (λ (x : Sight). nat_lt x.event n) (take first s.sights)) k.number ∙ ap (λ ss. list_all (λ (x : Sight). nat_lt x.event (length h.history.events)) (take first ss)) (sym seen) ∙ k.earlier)
    (ap (λ n. list_all (λ (x : Sight). x.event == n) (drop first s.sights)) k.number ∙ ap (λ ss. list_all (λ (x : Sight). x.event == (length h.history.events)) (drop first ss)) (sym seen) ∙ k.now)
    (ap (λ n. list_all (λ (x : Sight). nat_lt x.binding n) s.sights) (sym rows) ∙ k.at_next.bound)
    at
    (sees-over m.program h.history.events (step_in i h.stops.items) (stepper_at h i) m.told k.numbered k.number (k.waiting i (omega arith) lt)))

-- a session that was asked, whatever its reasons
pub asking-asked-any : (m : At) (first i : ℕ) (s new : Standing) (h mid after : Progress) (x : Suspension) (found : List Reason) (v : Verdict) (seen_by : Stepper) → i < length m.plan.sessions
    → IsAsking m first i true s h → reasons_by m.plan m.program h.context h.history.events s.sights h.stops.items m.told i ≡ found → 0 < length found
    → mid ≡ record h { steppers = mid.steppers } → mid.steppers.items ≡ slice_set h.steppers.items i seen_by
    → after ≡ record mid { stops = after.stops; steppers = after.steppers }
    → IsAsked m i found s new mid after x → v ≡ verdict_by x.resume
    → IsAsking m first (i + 1) (is_go v) new after
asking-asked-any m first i s new h mid after x [] v seen_by within k none some mid_is saw after_is was verdict = absurd (omega (arith, some))
asking-asked-any m first i s new h mid after x (r ∷ rs) v seen_by within k none some mid_is saw after_is was verdict =
    asking-asked m first i s new h after x r rs within k none mid v seen_by mid_is saw after_is was verdict

pub go-is : (v : Verdict) → is_go v ≡ true → v ≡ Go
go-is Go h = refl
go-is (Reenter k) h = cc
go-is (Return k a) h = cc
go-is Kill h = cc
