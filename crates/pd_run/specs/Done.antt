-- For proofs above: no public contract needs it.
-- What a run of a plan over a shared board has when all seats are back and the board is closed, and that its report is the plan's run.
use Rattle.std.specs.Prelude.{◌≡◌, ℕ, suc, List, [], ◌∷◌, ◌++◌, map, length, flat_map}
use Rattle.std.specs.List.{All}
use Rattle.pd_tree.specs.Program.{Program}
use Rattle.pd_plan.specs.declared.plan.Plan.{Plan}
use Rattle.pd_plan.specs.declared.plan.Script.{Script}
use Rattle.pd_board.specs.declared.answers.Known.{Known}
use Rattle.pd_board.specs.Standing.{Standing}
use Rattle.pd_core.specs.Layout.{Layout, bindings}
use Rattle.pd_suspend.specs.declared.suspension.Suspension.{Suspension}
use Rattle.pd_suspend.specs.Laws.{AreNumbered}
use Rattle.pd_suspend.specs.declared.context.ContextRecord.{ContextRecord}
use Rattle.pd_record.specs.Record.{IsRunOf, IsObserved, IsStopped, IsReplied}
use Rattle.pd_shared.specs.declared.token.Token.{Token}
use Rattle.pd_shared.specs.Sitting.{Sitting, standing_of}
use Rattle.pd_shared.specs.Closed.{IsWhole, IsClosed}
use Rattle.pd_run.specs.declared.report.Report.{Report}
use Rattle.pd_session.specs.declared.record.SessionRecord.{SessionRecord}
use Rattle.pd_session.specs.Before.{befores_behind}
use Rattle.pd_seats.specs.Back.{HasGathered}
use Rattle.pd_run.specs.Hands.{ScriptHand, IsScript}
use Rattle.pd_run.specs.Run.{ran_of, events_of, IsScripted, IsRun}
use Rattle.pd_run.specs.Laws.{IsBefore}

-- a context that ran: where its seat stood at first, the seat at last, and the record
pub record Ran : Type 0 where
  pub start : Standing
  pub seat : Sitting
  pub result : ContextRecord

-- context c ran on its seat, which knew `start` of the bindings at first and had done nothing; its suspensions have answers as `given` says
pub record IsDone (given : ℕ → Suspension → Type 0) (plan : Plan) (p : Program) (start : ℕ → Known) (c : ℕ) (x : Ran) : Type 0 where
  pub known : (b : ℕ) → x.start.known b ≡ start b
  pub no_replies : x.start.replies ≡ []
  pub no_numbers : (s : ℕ) → x.start.numbers s ≡ []
  pub run : IsRunOf (ran_of plan p c x.result) x.result
  pub observed : IsObserved plan p c x.start (standing_of x.seat) (events_of plan p c x.result) x.result
  pub stopped : IsStopped plan p c x.start (standing_of x.seat) (events_of plan p c x.result) x.result
  pub replied : IsReplied plan x.start (standing_of x.seat) (events_of plan p c x.result) x.result
  pub numbered : AreNumbered (events_of plan p c x.result)
  pub answered : All (given c) x.result.stops

-- the contexts from number c on
abbrev pub AreDone : (ℕ → Suspension → Type 0) → Plan → Program → (ℕ → Known) → ℕ → List Ran → Type 0
AreDone given plan p start c [] = Unit {0}
AreDone given plan p start c (x ∷ xs) = IsDone given plan p start c x × AreDone given plan p start (suc c) xs

-- these are the scripts of the sessions from number s on, and each was done on its seat
abbrev pub AreScripted : Layout → ℕ → List Script → List ScriptHand → Type 0
AreScripted l s [] [] = Unit {0}
AreScripted l s (x ∷ xs) (h ∷ hs) = (h.session ≡ s) × (h.script ≡ x.actions) × IsScript l.sessions l.contexts h × AreScripted l (suc s) xs hs
AreScripted l s _ _ = ⊥

-- the tokens of all seats, contexts first
abbrev pub tokens_in : List Ran → List ScriptHand → List Token
tokens_in xs hs = map (λ x. x.seat.token) xs ++ map (λ h. h.token) hs

-- the board had as many bindings, sessions and contexts as the plan
pub record IsLaidOut (plan : Plan) (l : Layout) : Type 0 where
  pub bindings_are : bindings l ≡ length plan.bindings
  pub sessions_are : l.sessions ≡ length plan.sessions
  pub contexts_are : l.contexts ≡ length plan.contexts

-- the report has what contexts and sessions gave, and what their seats left
pub record IsMadeOf (plan : Plan) (first : Token) (xs : List Ran) (hs : List ScriptHand) (r : Report) : Type 0 where
  pub contexts : r.contexts ≡ map (λ x. x.result) xs
  pub contexts_are : length xs ≡ length plan.contexts
  pub sights_are : length r.sights ≡ length xs
  pub actions : map (λ s. s.actions) r.sessions ≡ map (λ h. h.results) hs
  pub before : map (λ s. s.before) r.sessions ≡ befores_behind [] plan.sessions
  pub attached : first.journal.replies ≡ flat_map (λ s. s.before) r.sessions

-- a board was closed with the token `now`, into which the seats of all contexts and sessions had retired
pub record IsAllOver (given : ℕ → Suspension → Type 0) (plan : Plan) (p : Program) (l : Layout) (start : ℕ → Known) (first now : Token) (xs : List Ran) (hs : List ScriptHand) (r : Report) : Type 0 where
  pub laid_out : IsLaidOut plan l
  pub before : IsBefore start first
  pub contexts : AreDone given plan p start 0 xs
  pub scripts : AreScripted l 0 plan.sessions hs
  pub made : IsMadeOf plan first xs hs r
  pub gathered : HasGathered first (tokens_in xs hs) (r.sights ++ r.scripts) now
  pub whole : IsWhole now
  pub closed : IsClosed l now r.tally.bindings r.tally.answers

-- then its report is the plan's run, where each suspension has its script's answer; a lemma says it of any answers (`proofs.Runs.report_is`)
abbrev pub ReportsAreRuns : Type 0
ReportsAreRuns = (plan : Plan) (p : Program) (l : Layout) (start : ℕ → Known) (first now : Token) (xs : List Ran) (hs : List ScriptHand) (r : Report) → IsAllOver (IsScripted plan) plan p l start first now xs hs r → IsRun plan p r
