-- From pieces that were done to contexts and sessions that are back.
use Rattle.std.proofs.Common.{◌≡◌, Bool, true, false, ℕ, suc, ◌+◌, ◌<◌, List, [], ◌∷◌, ◌++◌, Option, Some, None, length, map, refl, sym, ap, subst, ◌∙◌, arith, append_assoc, length-append}
use Rattle.std.specs.Prelude.{slice_get, slice_index_or}
use Rattle.std.specs.List.{All, AllZip, filter_map, list_all, cons_option}
use Rattle.std.proofs.lemmas.Bool.{and_parts, and_from, false≢true}
use Rattle.std.proofs.lemmas.List.Elements.{All-map, filter_map-append}
use Rattle.std.proofs.lemmas.List.{length-map, append-nil}
use Rattle.pd_tree.specs.Program.{Program}
use Rattle.pd_plan.specs.declared.plan.Plan.{Plan}
use Rattle.pd_plan.specs.declared.plan.Script.{Script}
use Rattle.pd_board.specs.Standing.{Standing}
use Rattle.pd_core.specs.Tokens.{Hub}
use Rattle.pd_suspend.specs.declared.context.ContextRecord.{ContextRecord}
use Rattle.pd_run.specs.Hands.{ScriptHand, IsScript, readings_by}
use Rattle.pd_run.specs.Run.{IsScripted}
use Rattle.pd_run.specs.Done.{Ran as RanContext, IsDone}
use Rattle.pd_threads.proofs.Context.{context_is_done}
use Rattle.pd_session.specs.declared.record.ActionResult.{ActionResult}
use Rattle.pd_session.specs.Doing.{AreDone}
use Rattle.pd_session.specs.Results.{act_in, AreResults}
use Rattle.pd_session.proofs.Results.{results_are_told}
use Rattle.pd_shared.specs.Book.{reads_at}
use Rattle.pd_shared.specs.Sitting.{Sitting, standing_of}
use Rattle.pd_seats.specs.declared.pieces.Piece.{Piece}
use Rattle.pd_seats.specs.Shares.{HasHandedOn}
use Rattle.pd_seats.specs.Back.{own_of, token_of, DidFrom, HasGathered}
use Rattle.pd_seats.proofs.BackLaws.{are_back}
use Rattle.pd_threads.specs.declared.work.Outcome.{Outcome}
use Rattle.pd_threads.specs.declared.work.Outcome.TheVariants.{Waiting, Ran, Acted, Memory}
use Rattle.pd_threads.specs.declared.work.Task.{Task}
use Rattle.pd_threads.specs.declared.work.Work.{Work}
use Rattle.pd_threads.specs.declared.work.Work.TheVariants.{Context, Session}
use Rattle.pd_threads.specs.Tasks.{actions_of, IsContextRun, CameOf, DidDo, WasBegun}
use Rattle.pd_threads.specs.Returned.{IsBack, OutcomesAreBack, NoneWaits, has_come, AreContextTasks, AreSessionTasks, AreScriptsAt, ran_in, acted_in, HaveRan, HaveActed, ContextsReturn, SessionsReturn, WorkIsBack}

abbrev some_or : {A : Type 0} → A → Option A → A
some_or d None = d
some_or d (Some x) = x

at_end : (before : List Script) (x : Script) (xs : List Script) → slice_get (before ++ x ∷ xs) (length before) ≡ Some x
at_end [] x xs = refl
at_end (b ∷ bs) x xs = at_end bs x xs

-- the scripts of a plan are those from number 0 on
pub scripts_at : (before xs : List Script) (s : ℕ) → s ≡ length before → AreScriptsAt (before ++ xs) s xs
scripts_at before [] s is = tt
scripts_at before (x ∷ xs) s is = (
  ap (slice_get (before ++ x ∷ xs)) is ∙ at_end before x xs,
  subst (λ all. AreScriptsAt all (suc s) xs) (append_assoc before (x ∷ []) xs) (scripts_at (before ++ x ∷ []) xs (suc s) (omega (arith, is, length-append before (x ∷ [])))),
)

-- ---- contexts

came_ran : (plan : Plan) (p : Program) (w : Work) (c : ℕ) (old new : Standing) (o : Outcome) (r : ContextRecord) → w ≡ Context c → CameOf plan p w old new o → ran_in o ≡ Some r
    → IsContextRun plan p c old new r
came_ran plan p w c old new o r same came is = ran o (subst (λ x. CameOf plan p x old new o) same came) is
  where
    ran : (q : Outcome) → CameOf plan p (Context c) old new q → ran_in q ≡ Some r → IsContextRun plan p c old new r
    ran (Ran q) h e = subst (λ x. IsContextRun plan p c old new x) (ap (some_or q) e) h
    ran Waiting h e = absurd h
    ran (Acted v) h e = absurd h
    ran Memory h e = absurd (cc)

one_context : (plan : Plan) (p : Program) (first : Sitting) (c : ℕ) (b e : Piece Task) (r : ContextRecord) → b.own.work ≡ Context c → DidFrom (DidDo plan p) first b e → ran_in e.own.outcome ≡ Some r
    → IsDone (IsScripted plan) plan p (standing_of first).known c (record { start = standing_of b.seat; seat = e.seat; result = r })
one_context plan p first c b e r same d is =
    context_is_done plan p (standing_of first).known c (standing_of b.seat) e.seat r
    (came_ran plan p b.own.work c (standing_of b.seat) (standing_of e.seat) e.own.outcome r same d.work.came is)
    d.new.known d.new.replies d.new.numbers

pub contexts_return : ContextsReturn
contexts_return plan p first c [] [] [] tasks zip ran = record { contexts = []; run = tt; tokens = refl; results = refl }
contexts_return plan p first c [] [] (r ∷ rs) tasks zip ran = absurd ran
contexts_return plan p first c [] (e ∷ es) rs tasks zip ran = absurd zip
contexts_return plan p first c (b ∷ bs) [] rs tasks zip ran = absurd zip
contexts_return plan p first c (b ∷ bs) (e ∷ es) [] tasks zip ran = absurd ran
contexts_return plan p first c (b ∷ bs) (e ∷ es) (r ∷ rs) tasks zip ran =
    let rest = contexts_return plan p first (suc c) bs es rs tasks.1 zip.1 ran.1 in
    let here : RanContext = record { start = standing_of b.seat; seat = e.seat; result = r } in
    record {
      contexts = here ∷ rest.contexts;
      run = (one_context plan p first c b e r tasks.0 zip.0 ran.0, rest.run);
      tokens = ap (λ ts. e.seat.token ∷ ts) rest.tokens;
      results = ap (λ xs. r ∷ xs) rest.results;
    }

-- ---- sessions

came_acted : (plan : Plan) (p : Program) (w : Work) (s : ℕ) (x : Script) (old new : Standing) (o : Outcome) (rs : List ActionResult) → w ≡ Session s → slice_get plan.sessions s ≡ Some x → CameOf plan p w old new o → acted_in o ≡ Some rs
    → AreDone s x.actions rs old new
came_acted plan p w s x old new o rs same at came is = acted o (subst (λ y. CameOf plan p y old new o) same came) is
  where
    acted : (q : Outcome) → CameOf plan p (Session s) old new q → acted_in q ≡ Some rs → AreDone s x.actions rs old new
    acted (Acted v) h e =
        subst (λ xs. AreDone s x.actions xs old new) (ap (some_or v.items) e)
        (subst (λ todo. AreDone s todo v.items old new) (ap actions_of at) h)
    acted Waiting h e = absurd h
    acted (Ran r) h e = absurd h
    acted Memory h e = absurd (cc)

one_session : (plan : Plan) (p : Program) (first : Sitting) (s : ℕ) (x : Script) (b e : Piece Task) (rs : List ActionResult) → s < first.hub.layout.sessions → 0 < first.hub.layout.contexts → b.own.work ≡ Session s
    → slice_get plan.sessions s ≡ Some x → DidFrom (DidDo plan p) first b e → acted_in e.own.outcome ≡ Some rs
    → IsScript first.hub.layout.sessions first.hub.layout.contexts (record { session = s; token = e.seat.token; script = x.actions; results = rs })
one_session plan p first s x b e rs within some same at d is =
    let hub : b.seat.hub.layout.contexts ≡ first.hub.layout.contexts = ap (λ (h : Hub). h.layout.contexts) d.new.hub in
    let done = came_acted plan p b.own.work s x (standing_of b.seat) (standing_of e.seat) e.own.outcome rs same at d.work.came is in
    let told = results_are_told s x.actions rs (standing_of b.seat) (standing_of e.seat)
    (record { loads = (d.new.answer_reads s).0; end_loads = d.new.end_reads.0; last = (d.new.answer_reads s).1; last_ends = d.new.end_reads.1; some = omega (arith, some, hub) }) done in
    record {
      within = within;
      seen = told.sights ∙ d.new.sights.0;
      replies = told.replies ∙ ap (λ xs. xs ++ filter_map act_in rs) d.new.replies;
      numbers = λ t. told.numbers t ∙ d.new.numbers t;
      answered = subst (λ n. AreResults n (reads_at e.seat.token.sessions.items s).last (readings_by s e.seat.token) x.actions rs) hub told.results;
    }

pub sessions_return : SessionsReturn
sessions_return plan p first s [] [] [] [] at most some tasks zip acted = record { sessions = []; scripted = tt; tokens = refl; results = refl }
sessions_return plan p first s [] [] [] (rs ∷ more) at most some tasks zip acted = absurd acted
sessions_return plan p first s [] [] (e ∷ es) more at most some tasks zip acted = absurd zip
sessions_return plan p first s [] (b ∷ bs) es more at most some tasks zip acted = absurd tasks
sessions_return plan p first s (x ∷ xs) [] es more at most some tasks zip acted = absurd tasks
sessions_return plan p first s (x ∷ xs) (b ∷ bs) [] more at most some tasks zip acted = absurd zip
sessions_return plan p first s (x ∷ xs) (b ∷ bs) (e ∷ es) [] at most some tasks zip acted = absurd acted
sessions_return plan p first s (x ∷ xs) (b ∷ bs) (e ∷ es) (rs ∷ more) at most some tasks zip acted =
    let rest = sessions_return plan p first (suc s) xs bs es more at.1 (omega (arith, most)) some tasks.1 zip.1 acted.1 in
    let here : ScriptHand = record { session = s; token = e.seat.token; script = x.actions; results = rs } in
    record {
      sessions = here ∷ rest.sessions;
      scripted = (refl, refl, one_session plan p first s x b e rs (omega (arith, most)) some tasks.0 at.0 zip.0 acted.0, rest.scripted);
      tokens = ap (λ ts. e.seat.token ∷ ts) rest.tokens;
      results = ap (λ xs. rs ∷ xs) rest.results;
    }

-- ---- both

abbrev tail_of : {A : Type 0} → List A → List A
tail_of [] = []
tail_of (x ∷ xs) = xs

abbrev head_or : {A : Type 0} → A → List A → A
head_or d [] = d
head_or d (x ∷ xs) = x

-- two lists that are joined alike, the first ones of the same length, are the same two
same_parts : {A : Type 0} (a b c d : List A) → a ++ b ≡ c ++ d → length a ≡ length c → (a ≡ c) × (b ≡ d)
same_parts [] b [] d e n = (refl, e)
same_parts [] b (y ∷ c) d e n = absurd (omega (arith, n))
same_parts (x ∷ a) b [] d e n = absurd (omega (arith, n))
same_parts (x ∷ a) b (y ∷ c) d e n =
    let rest = same_parts a b c d (ap tail_of e) (omega (arith, n)) in
    (ap (λ z. z ∷ a) (ap (head_or x) e) ∙ ap (λ zs. y ∷ zs) rest.0, rest.1)

same_count : {A B : Type 0} (R : A → B → Type 0) (xs : List A) (ys : List B) → AllZip R xs ys → length ys ≡ length xs
same_count R [] [] z = refl
same_count R [] (y ∷ ys) z = absurd z
same_count R (x ∷ xs) [] z = absurd z
same_count R (x ∷ xs) (y ∷ ys) z = omega (arith, same_count R xs ys z.1)

ran_count : (ts : List Task) (rs : List ContextRecord) → HaveRan ts rs → length rs ≡ length ts
ran_count [] [] h = refl
ran_count [] (r ∷ rs) h = absurd h
ran_count (t ∷ ts) [] h = absurd h
ran_count (t ∷ ts) (r ∷ rs) h = omega (arith, ran_count ts rs h.1)

acted_count : (ts : List Task) (more : List (List ActionResult)) → HaveActed ts more → length more ≡ length ts
acted_count [] [] h = refl
acted_count [] (r ∷ rs) h = absurd h
acted_count (t ∷ ts) [] h = absurd h
acted_count (t ∷ ts) (r ∷ rs) h = omega (arith, acted_count ts rs h.1)

pub work_is_back : WorkIsBack
work_is_back plan p first last xs ys ran acted afters left records more d none contexts sessions enough some split count have_ran have_acted =
    let back = are_back (DidDo plan p) first last xs ys afters left d none in
    let n0 : length back.ended.0 ≡ length xs = same_count (DidFrom (DidDo plan p) first) back.begun.0 back.ended.0 back.ones ∙ (sym (length-map back.begun.0 (own_of {O = Task})) ∙ ap length back.owns_are.0) in
    let n1 : length back.ended.1 ≡ length ys = same_count (DidFrom (DidDo plan p) first) back.begun.1 back.ended.1 back.others ∙ (sym (length-map back.begun.1 (own_of {O = Task})) ∙ ap length back.owns_are.1) in
    let parts = same_parts ran acted (map own_of back.ended.0) (map own_of back.ended.1) (sym split ∙ back.afters_are) (omega (arith, count, n0, length-map back.ended.0 (own_of {O = Task}))) in
    let one = contexts_return plan p first 0 back.begun.0 back.ended.0 records (subst (AreContextTasks 0) (sym back.owns_are.0) contexts) back.ones (subst (λ ts. HaveRan ts records) parts.0 have_ran) in
    let other = sessions_return plan p first 0 plan.sessions back.begun.1 back.ended.1 more (scripts_at [] plan.sessions 0 refl) (omega (arith, enough)) some
    (subst (AreSessionTasks 0 plan.sessions) (sym back.owns_are.1) sessions) back.others (subst (λ ts. HaveActed ts more) parts.1 have_acted) in
    let total : length (xs ++ ys) ≡ length records + length more =
    omega (arith, length-append xs ys, ran_count ran records have_ran, acted_count acted more have_acted, count, ap length parts.1, length-map back.ended.1 (own_of {O = Task}), n1) in
    record {
      between = back.between;
      contexts = one.contexts;
      sessions = other.sessions;
      run = one.run;
      scripted = other.scripted;
      counted = omega (arith, ap length one.results, length-map one.contexts (λ (x : RanContext). x.result), ran_count ran records have_ran, count);
      records_are = one.results;
      results_are = other.results;
      handed = subst (λ k. HasHandedOn k first back.between) total back.handed;
      gathered = subst (λ ts. HasGathered back.between.token (ts ++ map (λ (h : ScriptHand). h.token) other.sessions) left last.token) one.tokens
          (subst (λ ts. HasGathered back.between.token (map token_of back.ended.0 ++ ts) left last.token) other.tokens back.gathered);
    }

-- ---- by outcomes

context_came : (plan : Plan) (p : Program) (c : ℕ) (old new : Standing) (o : Outcome) → CameOf plan p (Context c) old new o → has_come o ≡ true → (r : ContextRecord) × (ran_in o ≡ Some r) × (acted_in o ≡ None)
context_came plan p c old new (Ran r) came h = (r, refl, refl)
context_came plan p c old new (Acted v) came h = absurd came
context_came plan p c old new Waiting came h = absurd came
context_came plan p c old new Memory came h = absurd (false≢true h)

session_came : (plan : Plan) (p : Program) (s : ℕ) (old new : Standing) (o : Outcome) → CameOf plan p (Session s) old new o → has_come o ≡ true → (rs : List ActionResult) × (acted_in o ≡ Some rs) × (ran_in o ≡ None)
session_came plan p s old new (Ran r) came h = absurd came
session_came plan p s old new (Acted v) came h = (v.items, refl, refl)
session_came plan p s old new Waiting came h = absurd came
session_came plan p s old new Memory came h = absurd (false≢true h)

abbrev rans : List Task → List ContextRecord
rans ts = filter_map (λ (t : Task). ran_in t.outcome) ts

abbrev acteds : List Task → List (List ActionResult)
acteds ts = filter_map (λ (t : Task). acted_in t.outcome) ts

abbrev all_came : List Task → Bool
all_came ts = list_all (λ (t : Task). has_come t.outcome) ts

module _ (plan : Plan) (p : Program) (first : Sitting) where
  contexts_came : (c : ℕ) (bs es : List (Piece Task)) → AreContextTasks c (map own_of bs) → AllZip (DidFrom (DidDo plan p) first) bs es → all_came (map own_of es) ≡ true
      → HaveRan (map own_of es) (rans (map own_of es)) × (acteds (map own_of es) ≡ [])
  contexts_came c [] [] tasks zip come = (tt, refl)
  contexts_came c [] (e ∷ es) tasks zip come = absurd zip
  contexts_came c (b ∷ bs) [] tasks zip come = absurd zip
  contexts_came c (b ∷ bs) (e ∷ es) tasks zip come =
      let both = and_parts (has_come e.own.outcome) (all_came (map own_of es)) come in
      let rest = contexts_came (suc c) bs es tasks.1 zip.1 both.1 in
      let one = context_came plan p c (standing_of b.seat) (standing_of e.seat) e.own.outcome (subst (λ w. CameOf plan p w (standing_of b.seat) (standing_of e.seat) e.own.outcome) tasks.0 zip.0.work.came) both.0 in (
        subst (λ x. HaveRan (e.own ∷ map own_of es) (cons_option x (rans (map own_of es)))) (sym one.1) (one.1, rest.0),
        ap (λ x. cons_option x (acteds (map own_of es))) one.2 ∙ rest.1,
      )

  sessions_came : (s : ℕ) (scripts : List Script) (bs es : List (Piece Task)) → AreSessionTasks s scripts (map own_of bs) → AllZip (DidFrom (DidDo plan p) first) bs es → all_came (map own_of es) ≡ true
      → HaveActed (map own_of es) (acteds (map own_of es)) × (rans (map own_of es) ≡ [])
  sessions_came s [] [] [] tasks zip come = (tt, refl)
  sessions_came s [] [] (e ∷ es) tasks zip come = absurd zip
  sessions_came s [] (b ∷ bs) es tasks zip come = absurd tasks
  sessions_came s (x ∷ xs) [] es tasks zip come = absurd tasks
  sessions_came s (x ∷ xs) (b ∷ bs) [] tasks zip come = absurd zip
  sessions_came s (x ∷ xs) (b ∷ bs) (e ∷ es) tasks zip come =
      let both = and_parts (has_come e.own.outcome) (all_came (map own_of es)) come in
      let rest = sessions_came (suc s) xs bs es tasks.1 zip.1 both.1 in
      let one = session_came plan p s (standing_of b.seat) (standing_of e.seat) e.own.outcome (subst (λ w. CameOf plan p w (standing_of b.seat) (standing_of e.seat) e.own.outcome) tasks.0 zip.0.work.came) both.0 in (
        subst (λ y. HaveActed (e.own ∷ map own_of es) (cons_option y (acteds (map own_of es)))) (sym one.1) (one.1, rest.0),
        ap (λ y. cons_option y (rans (map own_of es))) one.2 ∙ rest.1,
      )

came_parts : (ds bs : List Task) → all_came (ds ++ bs) ≡ true → (all_came ds ≡ true) × (all_came bs ≡ true)
came_parts [] bs come = (refl, come)
came_parts (a ∷ rest) bs come =
    let both = and_parts (has_come a.outcome) (all_came (rest ++ bs)) come in
    let more = came_parts rest bs both.1 in
    (and_from (has_come a.outcome) (all_came rest) both.0 more.0, more.1)

pub outcomes_are_back : OutcomesAreBack
outcomes_are_back plan p first last xs ys afters left d none contexts sessions enough some come =
    let back = are_back (DidDo plan p) first last xs ys afters left d none in
    let a : List Task = map own_of back.ended.0 in
    let b : List Task = map own_of back.ended.1 in
    let came = came_parts a b (ap all_came (sym back.afters_are) ∙ come) in
    let one = contexts_came plan p first 0 back.begun.0 back.ended.0 (subst (AreContextTasks 0) (sym back.owns_are.0) contexts) back.ones came.0 in
    let other = sessions_came plan p first 0 plan.sessions back.begun.1 back.ended.1 (subst (AreSessionTasks 0 plan.sessions) (sym back.owns_are.1) sessions) back.others came.1 in
    let n0 : length back.ended.0 ≡ length xs = same_count (DidFrom (DidDo plan p) first) back.begun.0 back.ended.0 back.ones ∙ (sym (length-map back.begun.0 (own_of {O = Task})) ∙ ap length back.owns_are.0) in
    let records : rans afters ≡ rans a = ap rans back.afters_are ∙ filter_map-append (λ (t : Task). ran_in t.outcome) a b ∙ ap (λ zs. rans a ++ zs) other.1 ∙ append-nil (rans a) in
    let results : acteds afters ≡ acteds b = ap acteds back.afters_are ∙ filter_map-append (λ (t : Task). acted_in t.outcome) a b ∙ ap (λ zs. zs ++ acteds b) one.1 in
    subst (λ zs. IsBack plan p first last (length xs) left zs (acteds afters)) (sym records)
    (subst (λ zs. IsBack plan p first last (length xs) left (rans a) zs) (sym results)
    (work_is_back plan p first last xs ys a b afters left (rans a) (acteds b) d none contexts sessions enough some back.afters_are (length-map back.ended.0 (own_of {O = Task}) ∙ n0) one.0 other.0))

-- ---- none waits

begun : (plan : Plan) (p : Program) (w : Work) (old new : Standing) (o : Outcome) → CameOf plan p w old new o → WasBegun o
begun plan p w old new (Ran r) came = tt
begun plan p w old new (Acted v) came = tt
begun plan p w old new Memory came = tt
begun plan p (Context c) old new Waiting came = came
begun plan p (Session s) old new Waiting came = came

pub none_waits : NoneWaits
none_waits plan p first last tasks afters left d =
    subst (All (λ (t : Task). WasBegun t.outcome)) (sym d.afters_are)
    (All-map (λ (t : Task). WasBegun t.outcome) (own_of {O = Task}) d.ended
    (λ i x below.
    let b = slice_index_or d.begun i x in
    let e = slice_index_or d.ended i x in
    begun plan p b.own.work (standing_of b.seat) (standing_of e.seat) e.own.outcome (d.each i x (omega (arith, below, d.count))).came))
