-- What is kept before the first event, and at the end of a run.
use Rattle.std.proofs.Common.{◌≡◌, ℕ, zero, suc, ◌<◌, ◌≤◌, ◌+◌, Bool, true, false, List, [], ◌++◌, map, length, refl, sym, ap, ◌∙◌, subst, arith, ⊎_elim}
use Rattle.std.specs.Prelude.{slice_index_or, nat_lt, reverse}
use Rattle.std.specs.List.{All, list_all, range_with_len}
use Rattle.std.proofs.lemmas.Bool.{cases_lt}
use Rattle.std.proofs.lemmas.List.{append-nil, length-map}
use Rattle.std.proofs.lemmas.List.Elements.{All-nil}
use Rattle.pd_tree.specs.Program.{Program}
use Rattle.pd_plan.specs.declared.plan.Plan.{Plan}
use Rattle.pd_plan.specs.declared.plan.Answer.{Answer}
use Rattle.pd_filter.specs.Matching.{row_of, table_of}
use Rattle.pd_machine.specs.Events.{Told}
use Rattle.pd_meaning.specs.Meaning.{meaning_of}
use Rattle.pd_log.specs.declared.Entry.{Entry}
use Rattle.pd_board.specs.declared.answers.ActResult.{ActResult}
use Rattle.pd_board.specs.declared.answers.Known.{Known}
use Rattle.pd_board.specs.declared.answers.Known.TheVariants.{Fresh}
use Rattle.pd_board.specs.Answers.{stage}
use Rattle.pd_board.specs.Standing.{Standing}
use Rattle.pd_eval.specs.declared.running.Ran.{Ran as Answered}
use Rattle.pd_eval.specs.Watching.{IsRan}
use Rattle.pd_suspend.specs.declared.suspension.Suspension.{Suspension}
use Rattle.pd_suspend.specs.declared.context.ContextRecord.{ContextRecord}
use Rattle.pd_suspend.specs.Laws.{AreNumbered}
use Rattle.pd_suspend.specs.Stops.{verdicts_of, step_in, stops_of}
use Rattle.pd_suspend.specs.Answers.{acts_of, numbers_in, as_handed}
use Rattle.pd_record.specs.Life.{rises, numbers_of}
use Rattle.pd_record.specs.Seen.{in_order, IsSeen, is_subject_at, enters_to, is_due_pass}
use Rattle.pd_record.specs.Served.{IsServed}
use Rattle.pd_record.specs.Serving.{log_at}
use Rattle.pd_record.specs.Stopping.{IsStoppedTo}
use Rattle.pd_record.specs.Record.{IsObserved, IsRunOf, IsStopped, IsRecord, IsReplied, setting_of}
use Rattle.pd_record.proofs.ActsLaws.{in_order_none}
use Rattle.pd_record.proofs.StoppingLaws.{stopped-none, stopped-all}
use Rattle.pd_guest.specs.declared.serving.Opened.{Opened}
use Rattle.pd_guest.specs.declared.serving.Progress.{Progress}
use Rattle.pd_guest.specs.Keeping.{IsOpened, IsKeptAt, IsNew, start_of}
use Rattle.pd_record.specs.Replies.{owed_of, AreFor, HasGrownBy}
use Rattle.pd_guest.specs.Replying.{answer_of, kept_by, IsGiven}
use Rattle.pd_guest.specs.Asking.{IsKept, IsStepped, stepper_at}
use Rattle.pd_guest.specs.Beginning.{IsReadyFor, IsKeptWith}
use Rattle.pd_guest.proofs.OfferingLaws.{no_acts}
use Rattle.pd_guest.proofs.AskingLaws.{stepped-idle}

-- ---- what the board knew

known_from : (f : ℕ → Known) (a n b : ℕ) → b < n → slice_index_or (map f (range_with_len a n)) b Fresh ≡ f (a + b)
known_from f a zero b h = absurd (omega (arith, h))
known_from f a (suc n) zero h = ap f (omega arith)
known_from f a (suc n) (suc b) h = known_from f (a + 1) n b (omega (arith, h)) ∙ ap f (omega arith)

fresh_past : (f : ℕ → Known) (a n b : ℕ) → n ≤ b → slice_index_or (map f (range_with_len a n)) b Fresh ≡ Fresh
fresh_past f a zero b h = refl
fresh_past f a (suc n) zero h = absurd (omega (arith, h))
fresh_past f a (suc n) (suc b) h = fresh_past f (a + 1) n b (omega (arith, h))

pub begins-known : (f : ℕ → Known) (n b : ℕ) → b < n → start_of (map f (range_with_len 0 n)) b ≡ f b
begins-known f n b h = known_from f 0 n b h ∙ ap f (omega arith)

pub begins-forward : (f : ℕ → Known) (n b : ℕ) → stage (start_of (map f (range_with_len 0 n)) b) ≤ stage (f b)
begins-forward f n b = ⊎_elim
    (λ (lt : b < n). let e : stage (start_of (map f (range_with_len 0 n)) b) ≡ stage (f b) = ap stage (begins-known f n b lt) in omega (arith, e))
    (λ (past : n ≤ b). let e : stage (start_of (map f (range_with_len 0 n)) b) ≡ 0 = ap stage (fresh_past f 0 n b past) in omega (arith, e))
    (cases_lt b n)

pub rows_of : (plan : Plan) (p : Program) (s : Standing) → s.table ≡ table_of plan p → length s.table.rows ≡ length plan.bindings
rows_of plan p s h = ap (λ t. length t.rows) h ∙ length-map plan.bindings (row_of p)

-- ---- before the first event

served_none : (plan : Plan) (p : Program) (context : ℕ) (start : Known) (s : Standing) (log : List Entry) (b : ℕ) → s.sights ≡ [] → log ≡ [] → stage start ≤ stage (s.known b)
    → IsServed plan p context start s log [] [] b
served_none plan p context start s log b sights empty forward = record {
  log_is = empty;
  life = record {
    given = record { window = refl; lives = λ e. refl; before = λ e. refl; before_lives = λ e f. refl };
    fresh = λ e. refl;
    forward = forward;
  };
  acted = record {
    on = record { attached = refl; attached_lives = λ e. refl; first = refl; disposed = refl; used_up = refl; used_up_once = refl; counted = refl; uncounted = refl };
    disposed_known = λ e. absurd (no e);
    used_up_known = λ e. absurd (no e);
    turns = in_order_none b;
  };
  rising = ap (λ ss. rises (numbers_of ss b)) sights;
  none = λ e. ap (λ ss. numbers_of ss b) sights;
  ends = refl;
}
  where
    no : false ≡ true → ⊥
    no e = cc

kept_none : (plan : Plan) (p : Program) (context : ℕ) (first : List (Suspension × Answer)) (s : Standing) (h : Progress)
    → IsReadyFor plan p s → IsNew context (length plan.bindings) (length plan.sessions) s first h
    → IsKeptAt plan p (start_of h.start.known) 0 [] [] s h.opens.items h.kept
kept_none plan p context first s h r n =
    let rows : length s.table.rows ≡ length plan.bindings = rows_of plan p s r.table in
    record {
      current = record {
        seen = record {
          order = ap in_order r.sights;
          subjects = ap (list_all (λ x. is_subject_at plan p s.sights [] x.event x.binding)) r.sights;
          loads = r.loads;
          loads_before = r.sight_loads ∙ sym (ap (map (λ x. enters_to x.event [])) r.sights);
          passes = ap (list_all (is_due_pass plan p s.sights [])) r.passes;
        };
        all = r.all_loads;
        served = λ b. served_none plan p h.kept.context (start_of h.start.known b) s (log_at h.kept.logs.items b) b r.sights (n.logs b) (n.forward b);
        below = refl;
        acts_below = refl;
        tried = λ b e. absurd (no e);
      };
      stood = no_acts s;
      table = r.table;
      nodes = r.nodes;
      seen = n.seen ∙ sym r.sights;
      count = n.count_is ∙ sym rows;
      rows = omega (arith, rows, r.few_bindings);
      bound = ap (list_all (λ x. nat_lt x.binding (length s.table.rows))) r.sights;
      open_are = sym (ap (λ opens. reverse (map (λ (o : Opened). o.event) opens)) n.opens);
      opened = subst (λ opens. All (IsOpened plan s.sights 0) opens) (sym n.opens) (All-nil (IsOpened plan s.sights 0));
      few = omega arith;
      share = omega (arith, r.draws);
      cleared = omega (arith, r.cleared);
      loads = omega (arith, r.all_loads);
      nothing_due = r.nothing_due;
      is_open = r.is_open;
    }
  where
    no : false ≡ true → ⊥
    no e = cc

pub begins-kept : (plan : Plan) (p : Program) (context : ℕ) (first : List (Suspension × Answer)) (s : Standing) (h : Progress)
    → IsReadyFor plan p s → IsNew context (length plan.bindings) (length plan.sessions) s first h → IsKept plan p s h
begins-kept plan p context first s h r n = record {
  at_next = subst (λ ts. IsKeptAt plan p (start_of h.start.known) (length ts) ts (acts_of h.stops.items) s h.opens.items h.kept) (sym n.events)
      (subst (λ stops. IsKeptAt plan p (start_of h.start.known) 0 [] (acts_of stops) s h.opens.items h.kept) (sym n.stops) (kept_none plan p context first s h r n));
  context = n.same ∙ sym n.context_is;
  numbered = subst AreNumbered (sym n.events) refl;
  stopped = subst (λ ts. IsStoppedTo plan p h.context (length ts) ts s.sights h.stops.items) (sym n.events)
      (subst (λ stops. IsStoppedTo plan p h.context 0 [] s.sights stops) (sym n.stops) (stopped-none plan p h.context s.sights));
  steppers = n.steppers;
  stepped = λ x lt. subst (λ ts. IsStepped p ts (step_in x h.stops.items) (stepper_at h x)) (sym n.events)
      (subst (λ stops. IsStepped p [] (step_in x stops) (stepper_at h x)) (sym n.stops)
      (subst (λ y. IsStepped p [] (step_in x []) y) (sym (n.idle_all x)) (stepped-idle p)));
  sessions = r.sessions;
  few_sessions = r.few_sessions;
  few_stops = let e : length h.stops.items ≡ 0 = ap length n.stops in omega (arith, e);
  shares = λ x lt. omega (arith, r.answers x lt);
  numbers = λ x. r.numbers x ∙ sym (ap (numbers_in x) n.stops);
  rising = λ x. ap (λ stops. rises (numbers_in x stops)) n.stops;
  replied = record {
    grown = [];
    replies = sym n.replies ∙ sym (append-nil h.start.replies);
    each = subst (λ ts. AreFor (owed_of plan s.sights h.stops.items ts) []) (sym n.events) tt;
  };
}

pub begins-given : (admits : Suspension → Answer → Type 0) (keeps : ℕ → Bool) (context bindings sessions : ℕ) (first : List (Suspension × Answer)) (s : Standing) (h : Progress)
    → IsNew context bindings sessions s first h → IsGiven admits keeps h.first.list first h.stops.items
begins-given admits keeps context bindings sessions first s h n = record {
  admitted = subst (λ stops. All (λ x. admits (as_handed x) (answer_of x)) stops) (sym n.stops) (All-nil (λ x. admits (as_handed x) (answer_of x)));
  kept = sym n.first_is ∙ sym (append-nil h.first.list) ∙ ap (λ stops. h.first.list ++ kept_by keeps stops) (sym n.stops);
}

-- ---- at the end

served_ended : (plan : Plan) (p : Program) (context : ℕ) (start : Known) (s : Standing) (ended : Bool) (share : ℕ) (log : List Entry) (ts : List Told) (done : List (ℕ × ActResult)) (b : ℕ)
    → IsServed plan p context start s log ts done b → IsServed plan p context start (record s { ended = ended; end_share = share }) log ts done b
served_ended plan p context start s ended share log ts done b i = record { log_is = i.log_is; life = i.life; acted = i.acted; rising = i.rising; none = i.none; ends = i.ends }

module _ (plan : Plan) (p : Program) (context entry fuel : ℕ) (first mid last : Standing) (list : List (Suspension × Answer)) (before h : Progress) (ran : Answered) (r : ContextRecord)
    (ready : IsReadyFor plan p first) (new : IsNew context (length plan.bindings) (length plan.sessions) first list before) (kept : IsKept plan p mid h)
    (starts : h.start.known ≡ before.start.known) (contexts : h.context ≡ before.context) (last_is : last ≡ record mid { ended = last.ended; end_share = last.end_share })
    (is_ran : IsRan ran h.history.events (meaning_of p entry fuel (verdicts_of h.stops.items))) (with : IsKeptWith ran h r) where
  run_of : IsRunOf (meaning_of p entry fuel (verdicts_of r.stops)) r
  run_of = subst (λ stops. IsRunOf (meaning_of p entry fuel (verdicts_of stops)) r) (sym with.stops)
      (record { output = with.output ∙ is_ran.output; «end» = with.end_is ∙ is_ran.finish; used = with.used ∙ is_ran.used; events = with.events ∙ is_ran.count })

  same_context : h.kept.context ≡ context
  same_context = kept.context ∙ contexts ∙ new.context_is

  means : h.history.events ≡ (meaning_of p entry fuel (verdicts_of r.stops)).events
  means = is_ran.events ∙ ap (λ stops. (meaning_of p entry fuel (verdicts_of stops)).events) (sym with.stops)

  observed_mid : IsObserved plan p context first mid h.history.events r
  observed_mid =
      let k : IsKeptAt plan p (start_of h.start.known) (length h.history.events) h.history.events (acts_of h.stops.items) mid h.opens.items h.kept = kept.at_next in
      record {
        seen = with.seen ∙ k.seen;
        sights = k.current.seen;
        count = ap length with.logs ∙ k.count ∙ rows_of plan p mid k.table;
        served = λ b within.
            let known : start_of h.start.known b ≡ first.known b = ap (λ xs. start_of xs b) starts ∙ new.start b within in
            subst (λ stops. IsServed plan p context (first.known b) mid (log_at r.logs b) h.history.events (acts_of stops) b) (sym with.stops)
            (subst (λ log. IsServed plan p context (first.known b) mid log h.history.events (acts_of h.stops.items) b) (ap (λ logs. log_at logs b) (sym with.logs))
            (subst (λ x. IsServed plan p context x mid (log_at h.kept.logs.items b) h.history.events (acts_of h.stops.items) b) known
            (subst (λ x. IsServed plan p x (start_of h.start.known b) mid (log_at h.kept.logs.items b) h.history.events (acts_of h.stops.items) b) same_context (k.current.served b))));
      }

  observed_last : (events : List Told) → IsObserved plan p context first mid events r → IsObserved plan p context first last events r
  observed_last events i = record {
    seen = i.seen ∙ sym (ap (λ s. s.sights) last_is);
    sights = subst (λ s. IsSeen plan p events s.sights s.sight_loads s.passes s.loads) (sym last_is) i.sights;
    count = i.count;
    served = λ b within. subst (λ s. IsServed plan p context (first.known b) s (log_at r.logs b) events (acts_of r.stops) b) (sym last_is)
        (served_ended plan p context (first.known b) mid last.ended last.end_share (log_at r.logs b) events (acts_of r.stops) b (i.served b within));
  }

  stopped_last : IsStopped plan p context first last h.history.events r
  stopped_last =
      let seen : r.seen ≡ mid.sights = with.seen ∙ kept.at_next.seen in
      let stops : h.stops.items ≡ stops_of (setting_of plan p h.context mid.sights h.stops.items) h.history.events =
      stopped-all plan p h.context (length h.history.events) h.history.events mid.sights h.stops.items kept.stopped in
      record {
        stops = subst (λ ss. r.stops ≡ stops_of (setting_of plan p context ss r.stops) h.history.events) (sym seen)
            (subst (λ x. x ≡ stops_of (setting_of plan p context mid.sights x) h.history.events) (sym with.stops)
            (subst (λ x. h.stops.items ≡ stops_of (setting_of plan p x mid.sights h.stops.items) h.history.events) (contexts ∙ new.context_is) stops));
        numbers = λ s. ap (λ y. y.numbers s) last_is ∙ kept.numbers s ∙ ap (numbers_in s) (sym with.stops) ∙ ap (λ ns. ns ++ numbers_in s r.stops) (sym (ready.numbers s));
        rising = λ s. ap (λ x. rises (numbers_in s x)) with.stops ∙ kept.rising s;
      }

  pub record-of : IsRecord plan p entry fuel context first last r
  record-of = record {
    run = run_of;
    observed = subst (λ events. IsObserved plan p context first last events r) means (observed_last h.history.events observed_mid);
    stopped = subst (λ events. IsStopped plan p context first last events r) means stopped_last;
  }

  pub grown-of : h.start.replies ≡ before.start.replies → IsReplied plan first last (meaning_of p entry fuel (verdicts_of r.stops)).events r
  grown-of replies =
      subst (λ events. HasGrownBy (owed_of plan last.sights r.stops events) first.replies last.replies) means
      (subst (λ x. HasGrownBy (owed_of plan last.sights x h.history.events) first.replies last.replies) (sym with.stops)
      (subst (λ (s : Standing). HasGrownBy (owed_of plan s.sights h.stops.items h.history.events) first.replies s.replies) (sym last_is)
      (subst (λ rs. HasGrownBy (owed_of plan mid.sights h.stops.items h.history.events) rs mid.replies) (replies ∙ new.replies) kept.replied)))

pub given-of : (admits : Suspension → Answer → Type 0) (keeps : ℕ → Bool) (first start now : List (Suspension × Answer)) (h : Progress) (ran : Answered) (r : ContextRecord)
    → IsGiven admits keeps start now h.stops.items → start ≡ first → IsKeptWith ran h r → IsGiven admits keeps first now r.stops
given-of admits keeps first start now h ran r given same with =
    subst (λ stops. IsGiven admits keeps first now stops) (sym with.stops) (subst (λ xs. IsGiven admits keeps xs now h.stops.items) same given)

pub given-end : (admits : Suspension → Answer → Type 0) (keeps : ℕ → Bool) (first mid last : List (Suspension × Answer)) (stops : List Suspension)
    → last ≡ mid → IsGiven admits keeps first mid stops → IsGiven admits keeps first last stops
given-end admits keeps first mid last stops same given = subst (λ xs. IsGiven admits keeps first xs stops) (sym same) given
