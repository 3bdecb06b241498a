-- For proofs above: no public contract needs it.
-- What contexts and sessions are when their pieces of work are back, as the report of a run asks for it.
use Rattle.std.specs.Prelude.{◌≡◌, ℕ, suc, ◌+◌, ◌<◌, ◌≤◌, Bool, false, true, List, [], ◌∷◌, ◌++◌, length, map, slice_get, slice_index, Option, Some, None}
use Rattle.std.specs.List.{All, AllZip, filter_map, list_all}
use Rattle.pd_tree.specs.Program.{Program}
use Rattle.pd_plan.specs.declared.plan.Plan.{Plan}
use Rattle.pd_plan.specs.declared.plan.Script.{Script}
use Rattle.pd_plan.specs.declared.plan.Action.{Action}
use Rattle.pd_board.specs.Standing.{Standing}
use Rattle.pd_suspend.specs.declared.context.ContextRecord.{ContextRecord}
use Rattle.pd_session.specs.declared.record.ActionResult.{ActionResult}
use Rattle.pd_session.specs.Results.{act_in, AreResults}
use Rattle.pd_shared.specs.declared.token.Token.{Token}
use Rattle.pd_shared.specs.Book.{reads_at}
use Rattle.pd_shared.specs.Sitting.{Sitting, standing_of}
use Rattle.pd_seats.specs.declared.pieces.Piece.{Piece}
use Rattle.pd_shared.specs.declared.sights.Sights.{Sights}
use Rattle.pd_seats.specs.Shares.{HasHandedOn}
use Rattle.pd_seats.specs.Ran.{AreDone}
use Rattle.pd_seats.specs.Back.{numbers_for, own_of, DidFrom, HasGathered}
use Rattle.pd_run.specs.Run.{IsScripted}
use Rattle.pd_run.specs.Hands.{ScriptHand}
use Rattle.pd_run.specs.Done.{Ran as RanContext, AreDone as AreContextsRun, AreScripted}
use Rattle.pd_threads.specs.Tasks.{DidDo, WasBegun}
use Rattle.pd_threads.specs.declared.work.Outcome.{Outcome}
use Rattle.pd_threads.specs.declared.work.Outcome.TheVariants.{Ran, Acted}
use Rattle.pd_threads.specs.declared.work.Task.{Task}
use Rattle.pd_threads.specs.declared.work.Work.TheVariants.{Context, Session}

-- ---- the tasks

-- the contexts from number c on, so many; and the sessions from number s on
abbrev pub AreContextTasks : ℕ → List Task → Type 0
AreContextTasks c [] = Unit {0}
AreContextTasks c (t ∷ ts) = (t.work ≡ Context c) × AreContextTasks (suc c) ts

abbrev pub AreSessionTasks : ℕ → List Script → List Task → Type 0
AreSessionTasks s [] [] = Unit {0}
AreSessionTasks s (x ∷ xs) (t ∷ ts) = (t.work ≡ Session s) × AreSessionTasks (suc s) xs ts
AreSessionTasks s _ _ = ⊥

-- these are the scripts from number s on
abbrev pub AreScriptsAt : List Script → ℕ → List Script → Type 0
AreScriptsAt all s [] = Unit {0}
AreScriptsAt all s (x ∷ xs) = (slice_get all s ≡ Some x) × AreScriptsAt all (suc s) xs

-- what an outcome has, of a context and of a session
abbrev pub ran_in : Outcome → Option ContextRecord
ran_in (Ran r) = Some r
ran_in _ = None

abbrev pub acted_in : Outcome → Option (List ActionResult)
acted_in (Acted v) = Some v.items
acted_in _ = None

abbrev pub has_come : Outcome → Bool
has_come (Ran r) = true
has_come (Acted v) = true
has_come _ = false

-- the tasks ended with these records, or with these results
abbrev pub HaveRan : List Task → List ContextRecord → Type 0
HaveRan [] [] = Unit {0}
HaveRan (t ∷ ts) (r ∷ rs) = (ran_in t.outcome ≡ Some r) × HaveRan ts rs
HaveRan _ _ = ⊥

abbrev pub HaveActed : List Task → List (List ActionResult) → Type 0
HaveActed [] [] = Unit {0}
HaveActed (t ∷ ts) (rs ∷ more) = (acted_in t.outcome ≡ Some rs) × HaveActed ts more
HaveActed _ _ = ⊥

-- ---- the laws

-- no task that was done is left waiting
abbrev pub NoneWaits : Type 0
NoneWaits = (plan : Plan) (p : Program) (first last : Sitting) (tasks afters : List Task) (left : List Sights) → AreDone (DidDo plan p) first last tasks afters left
    → All (λ (t : Task). WasBegun t.outcome) afters

-- what becomes of pieces whose tasks are contexts from number c on
pub record RanSo (plan : Plan) (p : Program) (first : Sitting) (c : ℕ) (ended : List (Piece Task)) (rs : List ContextRecord) : Type 0 where
  pub contexts : List RanContext
  pub run : AreContextsRun (IsScripted plan) plan p (standing_of first).known c contexts
  pub tokens : map (λ (x : Piece Task). x.seat.token) ended ≡ map (λ (x : RanContext). x.seat.token) contexts
  pub results : rs ≡ map (λ (x : RanContext). x.result) contexts

abbrev pub ContextsReturn : Type 0
ContextsReturn = (plan : Plan) (p : Program) (first : Sitting) (c : ℕ) (begun ended : List (Piece Task)) (rs : List ContextRecord) → AreContextTasks c (map own_of begun) → AllZip (DidFrom (DidDo plan p) first) begun ended
    → HaveRan (map own_of ended) rs → RanSo plan p first c ended rs

-- and of pieces whose tasks are the actions of sessions from number s on
pub record ActedSo (plan : Plan) (first : Sitting) (s : ℕ) (scripts : List Script) (ended : List (Piece Task)) (more : List (List ActionResult)) : Type 0 where
  pub sessions : List ScriptHand
  pub scripted : AreScripted first.hub.layout s scripts sessions
  pub tokens : map (λ (x : Piece Task). x.seat.token) ended ≡ map (λ (h : ScriptHand). h.token) sessions
  pub results : more ≡ map (λ (h : ScriptHand). h.results) sessions

abbrev pub SessionsReturn : Type 0
SessionsReturn = (plan : Plan) (p : Program) (first : Sitting) (s : ℕ) (scripts : List Script) (begun ended : List (Piece Task)) (more : List (List ActionResult)) → AreScriptsAt plan.sessions s scripts
    → s + length scripts ≤ first.hub.layout.sessions → 0 < first.hub.layout.contexts → AreSessionTasks s scripts (map own_of begun) → AllZip (DidFrom (DidDo plan p) first) begun ended
    → HaveActed (map own_of ended) more → ActedSo plan first s scripts ended more

-- what is known of a plan's work when all of it is back, of which so many are contexts: tokens, records and results, contexts first, each by its own contract; and the
-- first seat, from where it stood when all seats had been split off, gathered them
pub record IsBack (plan : Plan) (p : Program) (first last : Sitting) (count : ℕ) (left : List Sights) (records : List ContextRecord) (more : List (List ActionResult)) : Type 0 where
  pub between : Sitting
  pub contexts : List RanContext
  pub sessions : List ScriptHand
  pub run : AreContextsRun (IsScripted plan) plan p (standing_of first).known 0 contexts
  pub scripted : AreScripted first.hub.layout 0 plan.sessions sessions
  pub counted : length contexts ≡ count
  pub records_are : records ≡ map (λ (x : RanContext). x.result) contexts
  pub results_are : more ≡ map (λ (h : ScriptHand). h.results) sessions
  pub handed : HasHandedOn (length records + length more) first between
  pub gathered : HasGathered between.token (map (λ (x : RanContext). x.seat.token) contexts ++ map (λ (h : ScriptHand). h.token) sessions) left last.token

-- the tasks `xs` are the plan's contexts and `ys` its sessions; they ended as `ran` and `acted`
abbrev pub WorkIsBack : Type 0
WorkIsBack = (plan : Plan) (p : Program) (first last : Sitting) (xs ys ran acted afters : List Task) (left : List Sights) (records : List ContextRecord) (more : List (List ActionResult)) → AreDone (DidDo plan p) first last (xs ++ ys) afters left
    → first.token.pass.view.taken ≡ [] → AreContextTasks 0 xs → AreSessionTasks 0 plan.sessions ys → length plan.sessions ≤ first.hub.layout.sessions → 0 < first.hub.layout.contexts
    → afters ≡ ran ++ acted → length ran ≡ length xs → HaveRan ran records → HaveActed acted more → IsBack plan p first last (length xs) left records more

-- and so with the outcomes taken apart, where none is for want of memory
abbrev pub OutcomesAreBack : Type 0
OutcomesAreBack = (plan : Plan) (p : Program) (first last : Sitting) (xs ys afters : List Task) (left : List Sights) → AreDone (DidDo plan p) first last (xs ++ ys) afters left
    → first.token.pass.view.taken ≡ [] → AreContextTasks 0 xs → AreSessionTasks 0 plan.sessions ys → length plan.sessions ≤ first.hub.layout.sessions → 0 < first.hub.layout.contexts
    → list_all (λ (t : Task). has_come t.outcome) afters ≡ true → IsBack plan p first last (length xs) left (filter_map (λ (t : Task). ran_in t.outcome) afters) (filter_map (λ (t : Task). acted_in t.outcome) afters)
