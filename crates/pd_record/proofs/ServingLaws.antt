-- One step of serving an event; how it begins, and what stands at its end.
use Rattle.std.proofs.Common.{◌≤◌, suc, Option, Some, None, ◌≡◌, ℕ, ◌<◌, ◌+◌, Bool, true, false, ◌&&◌, ◌||◌, not, cond, List, [], ◌∷◌, ◌++◌, refl, sym, ap, ◌∙◌, subst, inl, ⊎_elim, arith}
use Rattle.std.specs.Prelude.{slice_get, nat_lt, nat_le, ◌==◌}
use Rattle.std.specs.List.{list_all, list_any}
use Rattle.std.specs.Option.{option_to_list, option_map}
use Rattle.std.proofs.lemmas.Bool.{and_parts, and_from, and_cases, and_left, or_left, or_right, cond-true, cond-false, ltb-true, lt-ltb, le-leb, eq-eqb, eqb-true, cases_Bool, not_from_false}
use Rattle.std.proofs.lemmas.List.{append-nil}
use Rattle.std.proofs.lemmas.List.Folds.{list_any-append}
use Rattle.pd_machine.specs.Events.{Told}
use Rattle.pd_tree.specs.Program.{Program}
use Rattle.pd_plan.specs.declared.plan.Plan.{Plan}
use Rattle.pd_board.specs.declared.answers.ActResult.{ActResult}
use Rattle.pd_filter.specs.Matching.{is_about}
use Rattle.pd_break.specs.Hits.{is_observer}
use Rattle.pd_condition.specs.Truths.{truth_for, is_false}
use Rattle.pd_board.specs.Answers.{stage, known_after_load, is_attach}
use Rattle.pd_log.specs.declared.Entry.{Entry}
use Rattle.pd_board.specs.declared.answers.Known.{Known}
use Rattle.pd_board.specs.declared.answers.Known.TheVariants.{Fresh, Attached, Disposed}
use Rattle.pd_board.specs.declared.answers.Drawn.{Drawn}
use Rattle.pd_board.specs.declared.answers.Drawn.TheVariants.{Off}
use Rattle.pd_board.specs.declared.answers.Sight.{Sight}
use Rattle.pd_board.specs.declared.answers.Passed.{Passed}
use Rattle.pd_board.specs.Standing.{Standing, in_row}
use Rattle.pd_suspend.specs.Steps.{is_enter}
use Rattle.pd_record.specs.Logs.{is_of, answer_at, place_of, is_on, is_subject, is_met_by, is_refused_by, has_binding, some_and, is_number, is_off, moments_of, entry_of}
use Rattle.pd_record.specs.Seen.{is_before, enters_to, is_due_pass, is_met, IsSeen}
use Rattle.pd_record.specs.Served.{IsServed}
use Rattle.pd_record.specs.Turning.{is_earlier, is_up_to, IsTurned}
use Rattle.pd_record.proofs.ActsLaws.{is_number_off, or_case, or_nil}
use Rattle.pd_record.specs.Step.{IsSameFor, IsAnswered, IsDrawn, IsPassed, IsRefused, IsQuiet, IsLoaded, IsActStep, is_below}
use Rattle.pd_record.specs.Serving.{log_at, is_opened_below, IsCurrent, IsServing, without, IsNext, IsLogged}
use Rattle.pd_record.proofs.Lists.{list_all-weaker, list_all-push}
use Rattle.pd_record.proofs.ServedLaws.{served-same, served-other, served-answered, served-known, served-act, fresh_only, moments_below}
use Rattle.pd_record.proofs.SeenLaws.{enters-more, enters_to-all, seen_below, seen-event, subject-kept, seen-sight, seen-pass, before_event, unseen_before}
use Rattle.pd_record.proofs.StepLaws.{met_by_sight, met_by_pass, drawn-other, drawn-answered, passed-other, passed-answered, refused-same, quiet-same, quiet-answered, loaded-same, loaded-answered}

-- ---- small steps

-- a fact on lists that are equal
seen_along : (plan : Plan) (p : Program) (ts : List Told) (ss ss' : List Sight) (after after' : List ℕ) (passed passed' : List Passed) (loaded loaded' : ℕ → ℕ)
    → ss' ≡ ss → after' ≡ after → passed' ≡ passed → loaded' ≡ loaded
    → IsSeen plan p ts ss after passed loaded → IsSeen plan p ts ss' after' passed' loaded'
seen_along plan p ts ss ss' after after' passed passed' loaded loaded' b c d e i =
    subst (λ x. IsSeen plan p ts x after' passed' loaded') (sym b)
    (subst (λ x. IsSeen plan p ts ss x passed' loaded') (sym c)
    (subst (λ x. IsSeen plan p ts ss after x loaded') (sym d)
    (subst (λ x. IsSeen plan p ts ss after passed x) (sym e) i)))

served_along : (plan : Plan) (p : Program) (context : ℕ) (start : Known) (s : Standing) (log log' : List Entry) (ts : List Told) (done : List (ℕ × ActResult)) (b : ℕ) → log' ≡ log → IsServed plan p context start s log ts done b → IsServed plan p context start s log' ts done b
served_along plan p context start s log log' ts done b e i = subst (λ x. IsServed plan p context start s x ts done b) (sym e) i

false_true : false ≡ true → ⊥
false_true e = cc

not_true : (x : Bool) → not x ≡ true → x ≡ false
not_true true h = cc
not_true false h = refl

not_false : (x : Bool) → not x ≡ false → x ≡ true
not_false true h = refl
not_false false h = cc

below_up_to : (n : ℕ) (ts : List Told) (t : Told) → list_all (is_below n) ts ≡ true → t.event.number ≡ n → list_all (λ x. nat_le x.event.number n) (ts ++ t ∷ []) ≡ true
below_up_to n ts t below number =
    list_all-push (λ x. nat_le x.event.number n) ts t
    (list_all-weaker (is_below n) (λ x. nat_le x.event.number n) (λ x h. le-leb x.event.number n (omega (arith, ltb-true x.event.number n (and_parts _ _ h).0))) ts below)
    (le-leb t.event.number n (omega (arith, number)))

opened_all : (n : ℕ) (ts : List Told) (t : Told) → list_all (is_below n) ts ≡ true → is_opened_below n t ≡ true → list_all (is_opened_below n) (ts ++ t ∷ []) ≡ true
opened_all n ts t below opened =
    list_all-push (is_opened_below n) ts t
    (list_all-weaker (is_below n) (is_opened_below n) (λ x h. or_right _ _ (and_parts (nat_lt x.event.number n) _ h).1) ts below) opened

found_last : (f : Told → Bool) (ts : List Told) (t : Told) → f t ≡ true → list_any f (ts ++ t ∷ []) ≡ true
found_last f ts t h = list_any-append f ts (t ∷ []) ∙ or_right (list_any f ts) _ (or_left _ _ h)

-- ---- a step, whatever it is

module _ (plan : Plan) (p : Program) (context : ℕ) (start : ℕ → Known) (ts : List Told) (t : Told) (done : List (ℕ × ActResult)) (left : ℕ → Bool) (old new : Standing) (logs newer : List (List Entry)) (b : ℕ) (d : Drawn)
    (i : IsServing plan p context start ts t done left old logs) (next : IsNext b left)
    (logged : IsLogged context t b d logs newer) where
  serving-step : IsSeen plan p (ts ++ t ∷ []) new.sights new.sight_loads new.passes new.loads → new.all_loads ≡ old.all_loads
      → IsAnswered plan done t.event.number b d old new
      → ((c : ℕ) → (c == b) ≡ false → IsSameFor c old new)
      → ((c : ℕ) → left c ≡ true → is_subject plan p new.sights c t ≡ true)
      → (is_enter t.event.kind || is_met new.sights new.passes t.event.number b) ≡ true
      → ((c : ℕ) → (c == b) ≡ false → left c ≡ true → list_all (is_before t.event.number c) new.sights ≡ true)
      → ((c : ℕ) → new.known c ≡ Fresh → old.known c ≡ Fresh)
      → IsServing plan p context start ts t done (without b left) new newer
  serving-step seen all answered same subject met ahead fresh_before =
      let n = t.event.number in
      let unchanged : (c : ℕ) (us : List Told) → (c == b) ≡ false → IsServed plan p context (start c) old (log_at logs c) us done c → IsServed plan p context (start c) new (log_at newer c) us done c =
      λ c us apart s. served_along plan p context (start c) new (log_at logs c) (log_at newer c) us done c (logged.others c apart) (served-same plan p context (start c) old new (log_at logs c) us done c (same c apart) s) in
      let here : IsServed plan p context (start b) new (log_at newer b) (ts ++ t ∷ []) done b =
      served_along plan p context (start b) new (log_at logs b ++ option_to_list (option_map (entry_of context t.event) (place_of d))) (log_at newer b) (ts ++ t ∷ []) done b logged.here
      (served-answered plan p context (start b) old new (log_at logs b) ts t done n b d i.below i.acts_below (i.tried b) refl (subject b next.left_is) met answered (i.todo b next.left_is)) in
      record {
        seen = seen;
        all = all ∙ i.all;
        served = λ c h. ⊎_elim
            (λ (e : not (c == b) ≡ false). subst (λ x. IsServed plan p context (start x) new (log_at newer x) (ts ++ t ∷ []) done x) (sym (eqb-true c b (not_false (c == b) e))) here)
            (λ (e : left c ≡ false).
            ⊎_elim
            (λ (k : (c == b) ≡ true). subst (λ x. IsServed plan p context (start x) new (log_at newer x) (ts ++ t ∷ []) done x) (sym (eqb-true c b k)) here)
            (λ (k : (c == b) ≡ false). unchanged c (ts ++ t ∷ []) k (i.served c e))
            (cases_Bool (c == b)))
            (and_cases (not (c == b)) (left c) h);
        todo = λ c h. let parts = and_parts (not (c == b)) (left c) h in unchanged c ts (not_true (c == b) parts.0) (i.todo c parts.1);
        ahead = λ c h. let parts = and_parts (not (c == b)) (left c) h in ahead c (not_true (c == b) parts.0) parts.1;
        subject = λ c h. subject c (and_parts (not (c == b)) (left c) h).1;
        below = i.below;
        opened = i.opened;
        acts_below = i.acts_below;
        tried = λ c some fresh. i.tried c some (fresh_before c fresh);
      }

  unseen_next : list_any (is_of t.event.number b) old.sights ≡ false
  unseen_next = unseen_before t.event.number b old.sights (i.ahead b next.left_is)

  all_up_to : old.all_loads ≡ enters_to t.event.number (ts ++ t ∷ [])
  all_up_to = i.all ∙ sym (enters_to-all t.event.number (ts ++ t ∷ []) (below_up_to t.event.number ts t i.below refl))

  -- a draw
  pub serving-drawn : IsDrawn plan done t.event.number b d old new → IsServing plan p context start ts t done (without b left) new newer
  serving-drawn drawn =
      let n = t.event.number in
      let s : Sight = record { event = n; binding = b; drawn = d } in
      serving-step
      (seen_along plan p (ts ++ t ∷ []) (old.sights ++ s ∷ []) new.sights (old.sight_loads ++ old.all_loads ∷ []) new.sight_loads old.passes new.passes old.loads new.loads
      drawn.sights drawn.sight_loads drawn.passes drawn.loads
      (seen-sight plan p (ts ++ t ∷ []) old.sights s old.sight_loads old.all_loads old.passes old.loads
      (opened_all n ts t i.below i.opened) (i.ahead b next.left_is)
      (found_last (λ x. (x.event.number == n) && is_subject plan p old.sights b x) ts t (and_from _ _ (eq-eqb n n refl) (i.subject b next.left_is)))
      all_up_to i.seen))
      drawn.all_loads
      (drawn-answered plan done n b d old new unseen_next drawn)
      (λ c apart. drawn-other plan done n b c d old new apart drawn)
      (λ c h. ap (λ ss. is_subject plan p ss c t) drawn.sights
      ∙ subject-kept plan p old.sights s c t i.opened ∙ i.subject c h)
      (or_right (is_enter t.event.kind) _ (ap (λ ss. is_met ss new.passes n b) drawn.sights ∙ met_by_sight old.sights new.passes n b d))
      (λ c apart h. ap (λ ss. list_all (is_before n c) ss) drawn.sights
      ∙ list_all-push (is_before n c) old.sights s (i.ahead c h)
      (or_right (nat_lt n n) _ (and_from _ _ (eq-eqb n n refl) (lt-ltb b c (omega (arith, next.least c h, λ (e : c ≡ b). false_true (sym apart ∙ eq-eqb c b e)))))))
      (λ c fresh. ⊎_elim
      (λ (k : (c == b) ≡ true). subst (λ x. old.known x ≡ Fresh) (sym (eqb-true c b k)) (left_fresh (subst (λ x. new.known x ≡ Fresh) (eqb-true c b k) fresh) (drawn.turns)))
      (λ (k : (c == b) ≡ false). sym (drawn.others c k) ∙ fresh)
      (cases_Bool (c == b)))
    where
      left_fresh : new.known b ≡ Fresh → IsTurned plan b done (old.known b) d (new.known b) → old.known b ≡ Fresh
      left_fresh fresh turned = ⊎_elim
          (λ (k : is_number d ≡ true). absurd (turned.number k fresh))
          (λ (k : is_off d ≡ true). turned.fresh k fresh)
          (is_number_off d)

module _ (plan : Plan) (p : Program) (context : ℕ) (start : ℕ → Known) (ts : List Told) (t : Told) (done : List (ℕ × ActResult)) (left : ℕ → Bool) (old new : Standing) (logs : List (List Entry)) (b : ℕ)
    (i : IsServing plan p context start ts t done left old logs) (next : IsNext b left) (gone : old.known b ≡ Disposed) where
  unlogged : IsLogged context t b Off logs logs
  unlogged = record { here = sym (append-nil (log_at logs b)); others = λ c h. refl }

  -- a pass at an end
  pub serving-passed : is_enter t.event.kind ≡ false → IsPassed t.event.number b old new → IsServing plan p context start ts t done (without b left) new logs
  serving-passed end passed =
      let n = t.event.number in
      let x : Passed = record { event = n; binding = b; disposed = true; before = old.all_loads } in
      serving-step plan p context start ts t done left old new logs logs b Off i next unlogged
      (seen_along plan p (ts ++ t ∷ []) old.sights new.sights old.sight_loads new.sight_loads (old.passes ++ x ∷ []) new.passes old.loads new.loads
      passed.sights passed.sight_loads passed.passes passed.loads
      (seen-pass plan p (ts ++ t ∷ []) old.sights old.sight_loads old.passes x old.loads
      (and_from _ _
      (found_last (λ x. (x.event.number == n) && not (is_enter x.event.kind) && is_subject plan p old.sights b x) ts t
      (and_from _ _ (and_from _ _ (eq-eqb n n refl) (not_from_false _ end)) (i.subject b next.left_is)))
      (eq-eqb _ _ (all_up_to plan p context start ts t done left old new logs logs b Off i next unlogged)))
      i.seen))
      passed.all_loads
      (passed-answered plan done n b old new (unseen_next plan p context start ts t done left old new logs logs b Off i next unlogged) gone passed)
      (λ c apart. passed-other n b c old new passed)
      (λ c h. ap (λ ss. is_subject plan p ss c t) passed.sights ∙ i.subject c h)
      (or_right (is_enter t.event.kind) _ (ap (λ ps. is_met new.sights ps n b) passed.passes ∙ met_by_pass new.sights old.passes n b old.all_loads))
      (λ c apart h. ap (λ ss. list_all (is_before n c) ss) passed.sights ∙ i.ahead c h)
      (λ c fresh. sym (ap (λ f. f c) passed.known) ∙ fresh)

  -- a sweep at an Enter
  pub serving-swept : is_enter t.event.kind ≡ true → IsQuiet old new → IsServing plan p context start ts t done (without b left) new logs
  serving-swept enter quiet =
      let n = t.event.number in
      serving-step plan p context start ts t done left old new logs logs b Off i next unlogged
      (seen_along plan p (ts ++ t ∷ []) old.sights new.sights old.sight_loads new.sight_loads old.passes new.passes old.loads new.loads
      quiet.sights quiet.sight_loads quiet.passes quiet.loads i.seen)
      quiet.all_loads
      (quiet-answered plan done n b old new (unseen_next plan p context start ts t done left old new logs logs b Off i next unlogged) gone quiet)
      (λ c apart. quiet-same c old new quiet)
      (λ c h. ap (λ ss. is_subject plan p ss c t) quiet.sights ∙ i.subject c h)
      (or_left _ _ enter)
      (λ c apart h. ap (λ ss. list_all (is_before n c) ss) quiet.sights ∙ i.ahead c h)
      (λ c fresh. sym (ap (λ f. f c) quiet.known) ∙ fresh)

-- ---- a pass of a binding whose condition is false

pub serving-refused : (plan : Plan) (p : Program) (context : ℕ) (start : ℕ → Known) (ts : List Told) (t : Told) (done : List (ℕ × ActResult)) (left : ℕ → Bool) (old new : Standing) (logs : List (List Entry)) (b : ℕ)
    → is_enter t.event.kind ≡ true → is_refused_by plan p b t ≡ true → IsRefused t.event.number b old new
    → IsServing plan p context start ts t done left old logs → IsServing plan p context start ts t done left new logs
serving-refused plan p context start ts t done left old new logs b enter false_there refused i =
    let n = t.event.number in
    let x : Passed = record { event = n; binding = b; disposed = false; before = old.all_loads } in
    let due : is_due_pass plan p old.sights (ts ++ t ∷ []) x ≡ true = and_from _ _
    (found_last (λ u. (u.event.number == n) && is_enter u.event.kind && is_refused_by plan p b u) ts t
    (and_from _ _ (and_from _ _ (eq-eqb n n refl) enter) false_there))
    (eq-eqb _ _ (i.all ∙ sym (enters_to-all n (ts ++ t ∷ []) (below_up_to n ts t i.below refl)))) in
    record {
      seen = seen_along plan p (ts ++ t ∷ []) old.sights new.sights old.sight_loads new.sight_loads (old.passes ++ x ∷ []) new.passes old.loads new.loads
          refused.sights refused.sight_loads refused.passes refused.loads
          (seen-pass plan p (ts ++ t ∷ []) old.sights old.sight_loads old.passes x old.loads due i.seen);
      all = refused.all_loads ∙ i.all;
      served = λ c h. served-same plan p context (start c) old new (log_at logs c) (ts ++ t ∷ []) done c (refused-same n b c old new refused) (i.served c h);
      todo = λ c h. served-same plan p context (start c) old new (log_at logs c) ts done c (refused-same n b c old new refused) (i.todo c h);
      ahead = λ c h. ap (λ ss. list_all (is_before n c) ss) refused.sights ∙ i.ahead c h;
      subject = λ c h. ap (λ ss. is_subject plan p ss c t) refused.sights ∙ i.subject c h;
      below = i.below;
      opened = i.opened;
      acts_below = i.acts_below;
      tried = λ c some fresh. i.tried c some (sym (ap (λ f. f c) refused.known) ∙ fresh);
    }

-- ---- an act at the last event

pub serving-act : (plan : Plan) (p : Program) (context : ℕ) (start : ℕ → Known) (ts : List Told) (done : List (ℕ × ActResult)) (n : ℕ) (r : ActResult) (old new : Standing) (logs : List (List Entry))
    → IsActStep plan p ts done r old new
    → ((b : ℕ) → is_attach b r ≡ true → new.known b ≡ Fresh → ⊥)
    → IsCurrent plan p context start (suc n) ts done old logs → IsCurrent plan p context start (suc n) ts (done ++ (n, r) ∷ []) new logs
serving-act plan p context start ts done n r old new logs act known i = record {
  seen = seen_along plan p ts old.sights new.sights old.sight_loads new.sight_loads old.passes new.passes old.loads new.loads
      act.sights act.sight_loads act.passes act.loads i.seen;
  all = act.all_loads ∙ i.all;
  served = λ b. served-act plan p context (start b) old new (log_at logs b) ts done n b r
      (list_all-weaker (is_earlier (suc n)) (is_up_to n) (λ m h. le-leb m.0 n (omega (arith, ltb-true m.0 (suc n) h))) (moments_of plan p old.sights ts b) (moments_below plan p old ts (suc n) b i.below))
      act (i.served b);
  below = i.below;
  acts_below = list_all-push (is_earlier (suc n)) done (n, r) i.acts_below (lt-ltb n (suc n) (omega arith));
  tried = λ b some fresh. ⊎_elim
      (λ (earlier : list_any (λ a. is_attach b a.1) done ≡ true). i.tried b earlier (fresh_only (old.known b) (new.known b) (act.forward b) fresh))
      (λ (now : is_attach b r ≡ true). known b now fresh)
      (or_case (list_any (λ a. is_attach b a.1) done) (is_attach b r)
      (ap (λ x. list_any (λ a. is_attach b a.1) done || x) (sym (or_nil (is_attach b r))) ∙ sym (list_any-append (λ a. is_attach b a.1) done ((n, r) ∷ [])) ∙ some));
}

-- ---- room changes nothing

pub serving-quiet : (plan : Plan) (p : Program) (context : ℕ) (start : ℕ → Known) (ts : List Told) (t : Told) (done : List (ℕ × ActResult)) (left : ℕ → Bool) (old new : Standing) (logs : List (List Entry))
    → IsServing plan p context start ts t done left old logs → IsQuiet old new → IsServing plan p context start ts t done left new logs
serving-quiet plan p context start ts t done left old new logs i quiet = record {
  seen = seen_along plan p (ts ++ t ∷ []) old.sights new.sights old.sight_loads new.sight_loads old.passes new.passes old.loads new.loads
      quiet.sights quiet.sight_loads quiet.passes quiet.loads i.seen;
  all = quiet.all_loads ∙ i.all;
  served = λ b h. served-same plan p context (start b) old new (log_at logs b) (ts ++ t ∷ []) done b (quiet-same b old new quiet) (i.served b h);
  todo = λ b h. served-same plan p context (start b) old new (log_at logs b) ts done b (quiet-same b old new quiet) (i.todo b h);
  ahead = λ b h. ap (λ ss. list_all (is_before t.event.number b) ss) quiet.sights ∙ i.ahead b h;
  subject = λ b h. ap (λ ss. is_subject plan p ss b t) quiet.sights ∙ i.subject b h;
  below = i.below;
  opened = i.opened;
  acts_below = i.acts_below;
  tried = λ b some fresh. i.tried b some (sym (ap (λ f. f b) quiet.known) ∙ fresh);
}

-- and where all events so far were served, they stay so
pub current-quiet : (plan : Plan) (p : Program) (context : ℕ) (start : ℕ → Known) (n : ℕ) (ts : List Told) (done : List (ℕ × ActResult)) (old new : Standing) (logs : List (List Entry))
    → IsCurrent plan p context start n ts done old logs → IsQuiet old new → IsCurrent plan p context start n ts done new logs
current-quiet plan p context start n ts done old new logs i quiet = record {
  seen = seen_along plan p ts old.sights new.sights old.sight_loads new.sight_loads old.passes new.passes old.loads new.loads
      quiet.sights quiet.sight_loads quiet.passes quiet.loads i.seen;
  all = quiet.all_loads ∙ i.all;
  served = λ b. served-same plan p context (start b) old new (log_at logs b) ts done b (quiet-same b old new quiet) (i.served b);
  below = i.below;
  acts_below = i.acts_below;
  tried = λ b some fresh. i.tried b some (sym (ap (λ f. f b) quiet.known) ∙ fresh);
}

-- ---- an event begins

load_forward : (stands has : Bool) (k : Known) → stage k ≤ stage (known_after_load stands has k)
load_forward true true Fresh = omega arith
load_forward true true Attached = omega arith
load_forward true true Disposed = omega arith
load_forward true false Fresh = omega arith
load_forward true false Attached = omega arith
load_forward true false Disposed = omega arith
load_forward false has Fresh = omega arith
load_forward false has Attached = omega arith
load_forward false has Disposed = omega arith

more_for : {A : Type 0} (o : Option A) (f g : A → Bool) → some_and o (λ x. f x && g x) ≡ true → some_and o f ≡ true
more_for None f g h = h
more_for (Some x) f g h = (and_parts (f x) (g x) h).0

-- the bindings that the load held, and whose condition isn't false, are to be served; all others are already
pub serving-enter : (plan : Plan) (p : Program) (context : ℕ) (start : ℕ → Known) (ts : List Told) (t : Told) (done : List (ℕ × ActResult)) (has : ℕ → Bool) (old new : Standing) (logs : List (List Entry))
    → is_enter t.event.kind ≡ true
    → ((b : ℕ) → in_row old.table b t.event.node ≡ has_binding plan b (λ x. is_about p x t.event.node))
    → IsLoaded t.event.node has old new
    → IsCurrent plan p context start t.event.number ts done old logs → IsServing plan p context start ts t done (λ b. has b && is_met_by plan p b t) new logs
serving-enter plan p context start ts t done has old new logs enter rows loaded i =
    let n = t.event.number in
    let subject : (b : ℕ) (ss : List Sight) → is_subject plan p ss b t ≡ is_met_by plan p b t = λ b ss. cond-true _ _ _ enter in
    let unseen : (b : ℕ) → list_any (is_of n b) old.sights ≡ false =
    λ b. unseen_before n b old.sights (before_event n b old.sights (seen_below plan p ts n old.sights old.sight_loads old.passes old.loads i.below i.seen)) in
    let forward : (b : ℕ) → stage (old.known b) ≤ stage (new.known b) =
    λ b. subst (λ k. stage (old.known b) ≤ stage k) (sym (loaded.known b)) (load_forward (in_row old.table b t.event.node) (has b) (old.known b)) in
    let stands : (b : ℕ) → is_met_by plan p b t ≡ true → in_row old.table b t.event.node ≡ true =
    λ b k. rows b ∙ more_for (slice_get plan.bindings b) (λ x. is_about p x t.event.node) (λ x. not (is_false (truth_for x p t.scene))) k in
    let missing : (b : ℕ) → has b ≡ false → is_met_by plan p b t ≡ true → IsServed plan p context (start b) new (log_at logs b) (ts ++ t ∷ []) done b =
    λ b h k. served_along plan p context (start b) new (log_at logs b ++ []) (log_at logs b) (ts ++ t ∷ []) done b (sym (append-nil (log_at logs b)))
    (served-answered plan p context (start b) old new (log_at logs b) ts t done n b Off i.below i.acts_below (i.tried b) refl (subject b new.sights ∙ k) (or_left _ _ enter)
    (loaded-answered plan done t.event.node n b has old new (unseen b) h (stands b k) loaded) (i.served b)) in
    let other : (b : ℕ) → is_met_by plan p b t ≡ false → IsServed plan p context (start b) new (log_at logs b) (ts ++ t ∷ []) done b =
    λ b k. served-other plan p context (start b) new (log_at logs b) ts t done b (subject b new.sights ∙ k)
    (served-known plan p context (start b) old new (log_at logs b) ts done b loaded.sights loaded.passes (forward b) (i.served b)) in
    record {
      seen = seen_along plan p (ts ++ t ∷ []) old.sights new.sights old.sight_loads new.sight_loads old.passes new.passes new.loads new.loads
          loaded.sights loaded.sight_loads loaded.passes refl
          (seen-event plan p ts t n old.sights old.sight_loads old.passes old.loads new.loads i.below refl
          (λ m. loaded.loads m ∙ ap (λ x. old.loads m + cond {A = ℕ} (x && (m == t.event.node)) 1 0) (sym enter)) i.seen);
      all = omega (arith, loaded.all_loads, i.all, enters-more ts t, cond-true {A = ℕ} (is_enter t.event.kind) 1 0 enter);
      served = λ b h. ⊎_elim
          (λ (k : is_met_by plan p b t ≡ true). missing b (unless (has b) (is_met_by plan p b t) h k) k)
          (λ (k : is_met_by plan p b t ≡ false). other b k)
          (cases_Bool (is_met_by plan p b t));
      todo = λ b h. served-same plan p context (start b) old new (log_at logs b) ts done b (loaded-same t.event.node b has old new (inl (and_parts (has b) _ h).0) loaded) (i.served b);
      ahead = λ b h. ap (λ ss. list_all (is_before n b) ss) loaded.sights
          ∙ before_event n b old.sights (seen_below plan p ts n old.sights old.sight_loads old.passes old.loads i.below i.seen);
      subject = λ b h. subject b new.sights ∙ (and_parts (has b) _ h).1;
      below = i.below;
      opened = or_left _ _ enter;
      acts_below = i.acts_below;
      tried = λ b some fresh. i.tried b some (fresh_only (old.known b) (new.known b) (forward b) fresh);
    }
  where
    unless : (x y : Bool) → (x && y) ≡ false → y ≡ true → x ≡ false
    unless true true h k = cc
    unless true false h k = cc
    unless false y h k = refl

pub serving-end : (plan : Plan) (p : Program) (context : ℕ) (start : ℕ → Known) (ts : List Told) (t : Told) (done : List (ℕ × ActResult)) (s : Standing) (logs : List (List Entry))
    → is_enter t.event.kind ≡ false → t.event.opened < t.event.number
    → IsCurrent plan p context start t.event.number ts done s logs
    → IsServing plan p context start ts t done (λ b. has_binding plan b is_observer && is_on (answer_at s.sights t.event.opened b)) s logs
serving-end plan p context start ts t done s logs end opened i =
    let n = t.event.number in
    let subject : (b : ℕ) → is_subject plan p s.sights b t ≡ (has_binding plan b is_observer && is_on (answer_at s.sights t.event.opened b)) = λ b. cond-false _ _ _ end in
    record {
      seen = seen-event plan p ts t n s.sights s.sight_loads s.passes s.loads s.loads i.below refl
          (λ m. omega (arith, cond-false {A = ℕ} (is_enter t.event.kind && (m == t.event.node)) 1 0 (and_left _ _ end))) i.seen;
      all = omega (arith, i.all, enters-more ts t, cond-false {A = ℕ} (is_enter t.event.kind) 1 0 end);
      served = λ b h. served-other plan p context (start b) s (log_at logs b) ts t done b (subject b ∙ h) (i.served b);
      todo = λ b h. i.served b;
      ahead = λ b h. before_event n b s.sights (seen_below plan p ts n s.sights s.sight_loads s.passes s.loads i.below i.seen);
      subject = λ b h. subject b ∙ h;
      below = i.below;
      opened = or_right (is_enter t.event.kind) _ (lt-ltb _ _ opened);
      acts_below = i.acts_below;
      tried = i.tried;
    }

-- ---- an event is over

pub serving-over : (plan : Plan) (p : Program) (context : ℕ) (start : ℕ → Known) (ts : List Told) (t : Told) (done : List (ℕ × ActResult)) (left : ℕ → Bool) (s : Standing) (logs : List (List Entry)) (n : ℕ)
    → ((b : ℕ) → left b ≡ false) → t.event.number < n → t.event.opened < n
    → IsServing plan p context start ts t done left s logs → IsCurrent plan p context start n (ts ++ t ∷ []) done s logs
serving-over plan p context start ts t done left s logs n over number opened i = record {
  seen = i.seen;
  all = i.all;
  served = λ b. i.served b (over b);
  below = list_all-push (is_below n) ts t
      (list_all-weaker (is_below t.event.number) (is_below n)
      (λ x h. let parts = and_parts (nat_lt x.event.number t.event.number) (nat_lt x.event.opened t.event.number) h in
      and_from _ _ (lt-ltb x.event.number n (omega (arith, ltb-true x.event.number t.event.number parts.0, number)))
      (lt-ltb x.event.opened n (omega (arith, ltb-true x.event.opened t.event.number parts.1, number)))) ts i.below)
      (and_from _ _ (lt-ltb _ _ number) (lt-ltb _ _ opened));
  acts_below = list_all-weaker (is_earlier t.event.number) (is_earlier n) (λ a h. lt-ltb a.0 n (omega (arith, ltb-true a.0 t.event.number h, number))) done i.acts_below;
  tried = i.tried;
}

-- ---- the same bindings are left

pub serving-along : (plan : Plan) (p : Program) (context : ℕ) (start : ℕ → Known) (ts : List Told) (t : Told) (done : List (ℕ × ActResult)) (left other : ℕ → Bool) (s : Standing) (logs : List (List Entry))
    → ((b : ℕ) → other b ≡ left b) → IsServing plan p context start ts t done left s logs → IsServing plan p context start ts t done other s logs
serving-along plan p context start ts t done left other s logs same i = record {
  seen = i.seen;
  all = i.all;
  served = λ b h. i.served b (sym (same b) ∙ h);
  todo = λ b h. i.todo b (sym (same b) ∙ h);
  ahead = λ b h. i.ahead b (sym (same b) ∙ h);
  subject = λ b h. i.subject b (sym (same b) ∙ h);
  below = i.below;
  opened = i.opened;
  acts_below = i.acts_below;
  tried = i.tried;
}
