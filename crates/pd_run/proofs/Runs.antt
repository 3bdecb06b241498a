-- From what a run has when the board is closed, to its report.
use Rattle.std.proofs.Common.{◌≡◌, ℕ, zero, suc, List, [], ◌∷◌, ◌++◌, map, drop, length, true, sym, refl, ap, ◌∙◌, subst, arith}
use Rattle.std.specs.Prelude.{slice_index, slice_index_or, flat_map}
use Rattle.std.specs.List.{All, AllZip, AllByRecursion, list_all, filter_map}
use Rattle.std.proofs.lemmas.List.{length-map}
use Rattle.std.proofs.lemmas.List.Elements.{All-from_recursion}
use Rattle.pd_tree.specs.Program.{Program}
use Rattle.pd_plan.specs.declared.plan.Plan.{Plan}
use Rattle.pd_plan.specs.declared.plan.Script.{Script}
use Rattle.pd_board.specs.declared.answers.ActResult.{ActResult}
use Rattle.pd_board.specs.declared.answers.Known.{Known}
use Rattle.pd_board.specs.declared.answers.Known.TheVariants as knowns
use Rattle.pd_board.specs.Journal.{Entries}
use Rattle.pd_board.specs.Tally.{no_tally}
use Rattle.pd_core.specs.Layout.{Layout}
use Rattle.pd_suspend.specs.Answers.{numbers_in}
use Rattle.pd_record.specs.Logs.{log_of}
use Rattle.pd_record.specs.Seen.{IsSeen, is_end_met}
use Rattle.pd_shared.specs.declared.token.Token.{Token}
use Rattle.pd_shared.specs.declared.sights.Sights.{Sights}
use Rattle.pd_shared.specs.Book.{known_at, reads_at}
use Rattle.pd_shared.specs.Left.{Leaves}
use Rattle.pd_run.specs.declared.report.Report.{Report}
use Rattle.pd_session.specs.declared.record.SessionRecord.{SessionRecord}
use Rattle.pd_run.specs.Part.{Part}
use Rattle.pd_run.specs.Life.{Whole, IsLife}
use Rattle.pd_run.specs.Answers.{AreAnswers}
use Rattle.pd_session.specs.Results.{act_in, AreResults}
use Rattle.pd_suspend.specs.declared.suspension.Suspension.{Suspension}
use Rattle.pd_seats.specs.Back.{numbers_for, HasGathered}
use Rattle.pd_run.specs.Hands.{ContextHand, ScriptHand, acted, IsContext, IsScript}
use Rattle.pd_run.specs.Record.{hand_of}
use Rattle.pd_run.specs.Run.{events_of, IsContextOf, AreContexts, readings_in, IsSessionOf, AreSessions, parts_of, whole_in, IsScripted, IsRunBy}
use Rattle.pd_run.specs.Laws.{whole_of, IsOver}
use Rattle.pd_run.specs.Done.{Ran, IsDone, AreDone, AreScripted, tokens_in, IsAllOver, ReportsAreRuns}
use Rattle.pd_run.proofs.Told.{lives_are_told, life_weaker}
use Rattle.pd_run.proofs.Numbers.{answers_are_told}
use Rattle.pd_run.proofs.Scripts.{scripts_are_told}
use Rattle.pd_record.specs.Record.{setting_of}
use Rattle.pd_run.proofs.ByEvent.{stops_are_by_event}
use Rattle.pd_run.proofs.Records.{records_are_hands, map_twice}

-- ---- the hands of the contexts

started : (n : ℕ) (plan : Plan) (one other : ℕ → Known) (h : ContextHand) → ((b : ℕ) → one b ≡ other b) → IsContext n plan one h → IsContext n plan other h
started n plan one other h same g = record {
  seen = g.seen;
  replies = g.replies;
  lives = λ b lt. life_weaker plan b (one b ≡ knowns.Attached) (other b ≡ knowns.Attached) (known_at h.token.known.items b ≡ knowns.Disposed) (known_at h.token.known.items b ≡ knowns.Disposed) (λ e. same b ∙ e) (λ e. e) h.part (g.lives b lt);
  numbers = g.numbers;
}

module _ (given : ℕ → Suspension → Type 0) (plan : Plan) (p : Program) (start : ℕ → Known) where
  hands_of : (c : ℕ) (xs : List Ran) → AreDone given plan p start c xs → List ContextHand
  hands_of c [] d = []
  hands_of c (x ∷ xs) d = hand_of d.0.replied.grown plan p (events_of plan p c x.result) x.seat.token x.result ∷ hands_of (suc c) xs d.1

  abbrev tokens : List Ran → List Token
  tokens xs = map (λ x. x.seat.token) xs

  hands_tokens : (c : ℕ) (xs : List Ran) (d : AreDone given plan p start c xs) → map (λ h. h.token) (hands_of c xs d) ≡ tokens xs
  unfolding hands_of
  hands_tokens c [] d = refl
  hands_tokens c (x ∷ xs) d = ap (λ ts. x.seat.token ∷ ts) (hands_tokens (suc c) xs d.1)

  hands_parts : (c : ℕ) (xs : List Ran) (d : AreDone given plan p start c xs) → map (λ h. h.part) (hands_of c xs d) ≡ parts_of plan p c (map (λ x. x.result) xs)
  unfolding hands_of
  hands_parts c [] d = refl
  hands_parts c (x ∷ xs) d = ap (λ ps. (hand_of d.0.replied.grown plan p (events_of plan p c x.result) x.seat.token x.result).part ∷ ps) (hands_parts (suc c) xs d.1)

  hands_fit : (c : ℕ) (xs : List Ran) (d : AreDone given plan p start c xs) → AllByRecursion (IsContext (length plan.bindings) plan start) (hands_of c xs d)
  unfolding hands_of
  hands_fit c [] d = tt
  hands_fit c (x ∷ xs) d = (
    started (length plan.bindings) plan x.start.known start (hand_of d.0.replied.grown plan p (events_of plan p c x.result) x.seat.token x.result) d.0.known
        (records_are_hands plan p c (events_of plan p c x.result) x.start x.seat x.result d.0.observed d.0.stopped d.0.replied (stops_are_by_event (setting_of plan p c x.result.seen x.result.stops) (events_of plan p c x.result) x.result.stops d.0.numbered d.0.stopped.stops) d.0.no_replies d.0.no_numbers),
    hands_fit (suc c) xs d.1,
  )

  hands_numbers : (s c : ℕ) (xs : List Ran) (d : AreDone given plan p start c xs) → map (λ h. numbers_for s h.token) (hands_of c xs d) ≡ map (λ r. numbers_in s r.stops) (map (λ x. x.result) xs)
  unfolding hands_of
  hands_numbers s c [] d = refl
  hands_numbers s c (x ∷ xs) d =
      ap (λ ns. ns ∷ map (λ h. numbers_for s h.token) (hands_of (suc c) xs d.1)) (d.0.stopped.numbers s ∙ ap (λ ns. ns ++ numbers_in s x.result.stops) (d.0.no_numbers s))
      ∙ ap (λ ns. numbers_in s x.result.stops ∷ ns) (hands_numbers s (suc c) xs d.1)

  hands_length : (c : ℕ) (xs : List Ran) (d : AreDone given plan p start c xs) → length (hands_of c xs d) ≡ length xs
  unfolding hands_of
  hands_length c [] d = refl
  hands_length c (x ∷ xs) d = omega (arith, hands_length (suc c) xs d.1)

  -- ---- their records

  one_context : (c : ℕ) (x : Ran) (s : Sights) → IsDone given plan p start c x → Leaves x.seat.token s → IsContextOf given plan p c x.result s
  one_context c x s d leaves =
      let journal : s.journal ≡ x.seat.token.journal = leaves.journal in
      record {
        run = d.run;
        seen = ap (λ (e : Entries). e.sights) journal ∙ sym d.observed.seen;
        sights = subst (λ xs. IsSeen plan p (events_of plan p c x.result) xs s.journal.sight_loads s.journal.passes (λ n. slice_index s.loads.items n)) (sym d.observed.seen)
            (subst (λ ns. IsSeen plan p (events_of plan p c x.result) x.seat.token.journal.sights s.journal.sight_loads s.journal.passes (λ n. slice_index ns n)) (sym leaves.loads)
            (subst (λ (e : Entries). IsSeen plan p (events_of plan p c x.result) x.seat.token.journal.sights e.sight_loads e.passes (λ n. slice_index x.seat.token.loads.items n)) (sym journal) d.observed.sights));
        count = d.observed.count;
        logs = λ b lt. record {
          log = (d.observed.served b lt).log_is ∙ ap (λ xs. log_of c plan p xs (events_of plan p c x.result) b) (sym d.observed.seen);
          met = subst (λ xs. list_all (is_end_met plan p xs s.journal.passes b) (events_of plan p c x.result) ≡ true) (sym d.observed.seen)
              (subst (λ (e : Entries). list_all (is_end_met plan p x.seat.token.journal.sights e.passes b) (events_of plan p c x.result) ≡ true) (sym journal) (d.observed.served b lt).ends);
        };
        stops = d.stopped.stops;
        answered = d.answered;
      }

  -- of the sights that all seats left the first are those of the contexts
  contexts_of : (c : ℕ) (xs : List Ran) (hs : List ScriptHand) (sights scripts : List Sights) → AreDone given plan p start c xs → length sights ≡ length xs → AllZip Leaves (tokens_in xs hs) (sights ++ scripts) → AreContexts given plan p c (map (λ x. x.result) xs) sights
  contexts_of c [] hs [] scripts d e z = tt
  contexts_of c [] hs (s ∷ ss) scripts d e z = absurd (omega (arith, e))
  contexts_of c (x ∷ xs) hs [] scripts d e z = absurd (omega (arith, e))
  contexts_of c (x ∷ xs) hs (s ∷ ss) scripts d e z = (one_context c x s d.0 z.0, contexts_of (suc c) xs hs ss scripts d.1 (omega (arith, e)) z.1)

drop_first : {A : Type 0} (n : ℕ) (xs ys : List A) → length xs ≡ n → drop n (xs ++ ys) ≡ ys
drop_first zero [] ys e = refl
drop_first zero (x ∷ xs) ys e = absurd (omega (arith, e))
drop_first (suc n) [] ys e = absurd (omega (arith, e))
drop_first (suc n) (x ∷ xs) ys e = drop_first n xs ys (omega (arith, e))

-- ---- sessions

module _ (plan : Plan) (l : Layout) (counts : List ℕ) where
  scripted_fit : (s : ℕ) (ss : List Script) (hs : List ScriptHand) → AreScripted l s ss hs → AllByRecursion (IsScript l.sessions l.contexts) hs
  scripted_fit s [] [] h = tt
  scripted_fit s (x ∷ xs) (y ∷ ys) h = (h.2, scripted_fit (suc s) xs ys h.3)
  scripted_fit s [] (y ∷ ys) h = absurd h
  scripted_fit s (x ∷ xs) [] h = absurd h

  scripted_length : (s : ℕ) (ss : List Script) (hs : List ScriptHand) → AreScripted l s ss hs → length hs ≡ length ss
  scripted_length s [] [] h = refl
  scripted_length s (x ∷ xs) (y ∷ ys) h = omega (arith, scripted_length (suc s) xs ys h.3)
  scripted_length s [] (y ∷ ys) h = absurd h
  scripted_length s (x ∷ xs) [] h = absurd h

  abbrev Told : ScriptHand → Sights → Type 0
  Told h s = AreResults l.contexts (slice_index counts h.session) (readings_in h.session s) h.script h.results

  head_same : {A : Type 0} (x y : A) (xs ys : List A) → (x ∷ xs) ≡ (y ∷ ys) → x ≡ y
  head_same {A} x y xs ys e = ap first e
    where
      first : List A → A
      first [] = x
      first (z ∷ zs) = z

  tail_same : {A : Type 0} (x y : A) (xs ys : List A) → (x ∷ xs) ≡ (y ∷ ys) → xs ≡ ys
  tail_same {A} x y xs ys e = ap rest e
    where
      rest : List A → List A
      rest [] = []
      rest (z ∷ zs) = zs

  one_session : (s : ℕ) (x : Script) (h : ScriptHand) (r : SessionRecord) (left : Sights) → l.contexts ≡ length plan.contexts → h.session ≡ s → h.script ≡ x.actions → r.actions ≡ h.results → Told h left → IsSessionOf plan counts s x r left
  one_session s x h r left contexts number script results told = record {
    results = subst (λ n. AreResults n (slice_index counts s) (readings_in s left) x.actions r.actions) contexts
        (subst (λ rs. AreResults l.contexts (slice_index counts s) (readings_in s left) x.actions rs) (sym results)
        (subst (λ «as». AreResults l.contexts (slice_index counts s) (readings_in s left) «as» h.results) script
        (subst (λ k. AreResults l.contexts (slice_index counts k) (readings_in k left) h.script h.results) number told)));
  }

  sessions_of : (s : ℕ) (ss : List Script) (hs : List ScriptHand) (rs : List SessionRecord) (left : List Sights) → l.contexts ≡ length plan.contexts → AreScripted l s ss hs → map (λ r. r.actions) rs ≡ map (λ h. h.results) hs → AllZip Told hs left → AreSessions plan counts s ss rs left
  sessions_of s [] [] [] [] c a e z = tt
  sessions_of s [] [] (r ∷ rs) left c a e z = absurd (omega (arith, ap length e))
  sessions_of s [] [] [] (x ∷ left) c a e z = absurd z
  sessions_of s [] (h ∷ hs) rs left c a e z = absurd a
  sessions_of s (x ∷ xs) [] rs left c a e z = absurd a
  sessions_of s (x ∷ xs) (h ∷ hs) [] left c a e z = absurd (omega (arith, ap length e))
  sessions_of s (x ∷ xs) (h ∷ hs) (r ∷ rs) [] c a e z = absurd z
  sessions_of s (x ∷ xs) (h ∷ hs) (r ∷ rs) (y ∷ left) c a e z = (
    one_session s x h r y c a.0 a.1 (head_same r.actions h.results (map (λ q. q.actions) rs) (map (λ q. q.results) hs) e) z.0,
    sessions_of (suc s) xs hs rs left c a.3 (tail_same r.actions h.results (map (λ q. q.actions) rs) (map (λ q. q.results) hs) e) z.1,
  )

-- ---- the report

module _ (given : ℕ → Suspension → Type 0) (plan : Plan) (p : Program) (l : Layout) (start : ℕ → Known) (first now : Token) (xs : List Ran) (hs : List ScriptHand) (r : Report) (o : IsAllOver given plan p l start first now xs hs r) where
  abbrev hands : List ContextHand
  hands = hands_of given plan p start 0 xs o.contexts

  over : IsOver l plan start first now hands hs r.tally.bindings r.tally.answers
  over = record {
    closed = o.closed;
    whole = o.whole;
    before = o.before;
    contexts_are = subst (λ n. All (IsContext n plan start) hands) (sym o.laid_out.bindings_are) (All-from_recursion (IsContext (length plan.bindings) plan start) hands (hands_fit given plan p start 0 xs o.contexts));
    scripts_are = All-from_recursion (IsScript l.sessions l.contexts) hs (scripted_fit plan l r.tally.answers 0 plan.sessions hs o.scripts);
    left = r.sights ++ r.scripts;
    gathered = subst (λ ts. HasGathered first (ts ++ map (λ h. h.token) hs) (r.sights ++ r.scripts) now) (sym (hands_tokens given plan p start 0 xs o.contexts)) o.gathered;
  }

  acted_same : map acted hs ≡ map (λ s. filter_map act_in s.actions) r.sessions
  acted_same =
      sym (map_twice (filter_map act_in) (λ (h : ScriptHand). h.results) hs)
      ∙ ap (map (filter_map act_in)) (sym o.made.actions)
      ∙ map_twice (filter_map act_in) (λ (s : SessionRecord). s.actions) r.sessions

  parts_same : map (λ h. h.part) hands ≡ parts_of plan p 0 r.contexts
  parts_same = hands_parts given plan p start 0 xs o.contexts ∙ ap (parts_of plan p 0) (sym o.made.contexts)

  whole_same : whole_of first.journal.replies hands hs ≡ whole_in plan p r
  whole_same =
      ap (λ (b : List ActResult). (let w : Whole = record { before = b; contexts = map (λ h. h.part) hands; scripts = map acted hs } in w)) o.made.attached
      ∙ ap (λ (c : List Part). (let w : Whole = record { before = flat_map (λ s. s.before) r.sessions; contexts = c; scripts = map acted hs } in w)) parts_same
      ∙ ap (λ (s : List (List ActResult)). (let w : Whole = record { before = flat_map (λ s. s.before) r.sessions; contexts = parts_of plan p 0 r.contexts; scripts = s } in w)) acted_same

  told_scripts : AllZip (λ (h : ScriptHand) (s : Sights). AreResults l.contexts (slice_index r.tally.answers h.session) (readings_in h.session s) h.script h.results) hs r.scripts
  unfolding over
  told_scripts =
      subst (AllZip (λ (h : ScriptHand) (s : Sights). AreResults l.contexts (slice_index r.tally.answers h.session) (readings_in h.session s) h.script h.results) hs)
      (drop_first (length hands) r.sights r.scripts (o.made.sights_are ∙ sym (hands_length given plan p start 0 xs o.contexts)))
      (scripts_are_told l plan start first now hands hs r.tally.bindings r.tally.answers over)

  pub report_is : IsRunBy given plan p r
  report_is = record {
    counted = record {
      contexts = ap length o.made.contexts ∙ length-map xs (λ x. x.result) ∙ o.made.contexts_are;
      sessions = omega (arith, ap length o.made.actions, length-map r.sessions (λ (s : SessionRecord). s.actions), length-map hs (λ (h : ScriptHand). h.results), scripted_length plan l r.tally.answers 0 plan.sessions hs o.scripts);
      bindings = o.closed.bindings_are ∙ o.laid_out.bindings_are;
      answers = o.closed.sessions_are ∙ o.laid_out.sessions_are;
    };
    contexts = subst (λ rs. AreContexts given plan p 0 rs r.sights) (sym o.made.contexts) (contexts_of given plan p start 0 xs hs r.sights r.scripts o.contexts o.made.sights_are o.gathered.leaves);
    lives = λ b lt. subst (λ w. IsLife plan b w (slice_index_or r.tally.bindings b no_tally)) whole_same (lives_are_told l plan start first now hands hs r.tally.bindings r.tally.answers over b (omega (arith, lt, o.laid_out.bindings_are)));
    answers = λ s lt. subst (AreAnswers (slice_index r.tally.answers s)) (hands_numbers given plan p start s 0 xs o.contexts ∙ ap (map (λ c. numbers_in s c.stops)) (sym o.made.contexts)) (answers_are_told l plan start first now hands hs r.tally.bindings r.tally.answers over s (omega (arith, lt, o.laid_out.sessions_are)));
    before = o.made.before;
    sessions = sessions_of plan l r.tally.answers 0 plan.sessions hs r.sessions r.scripts o.laid_out.contexts_are o.scripts o.made.actions told_scripts;
  }

pub reports_are_runs : ReportsAreRuns
reports_are_runs plan p l start first now xs hs r o = report_is (IsScripted plan) plan p l start first now xs hs r o
