-- Definition: when a task may be done, and what it did.
use Rattle.std.specs.Prelude.{◌≡◌, ℕ, ◌+◌, ◌<◌, ◌≤◌, ◌^◌, List, [], false, length, slice_index, slice_get, Option, Some, None}
use Rattle.std.specs.List.{AllByRecursion}
use Rattle.pd_tree.specs.Program.{Program}
use Rattle.pd_plan.specs.declared.plan.Plan.{Plan}
use Rattle.pd_plan.specs.declared.plan.Script.{Script}
use Rattle.pd_plan.specs.declared.plan.Action.{Action}
use Rattle.pd_plan.specs.declared.plan.Answer.{Answer}
use Rattle.pd_board.specs.Standing.{Standing, bindings}
use Rattle.pd_suspend.specs.declared.suspension.Suspension.{Suspension}
use Rattle.pd_suspend.specs.declared.context.ContextRecord.{ContextRecord}
use Rattle.pd_suspend.specs.Answers.{scripted, IsLawful}
use Rattle.pd_record.specs.Record.{fuel_at, IsRecord, IsReplied}
use Rattle.pd_run.specs.Run.{events_of}
use Rattle.pd_guest.specs.Replying.{IsGiven}
use Rattle.pd_guest.specs.Beginning.{IsReadyFor, IsOver}
use Rattle.pd_session.specs.Doing.{MayDo, turns_in, AreDone}
use Rattle.pd_shared.specs.Sitting.{Sitting, standing_of}
use Rattle.pd_threads.specs.declared.work.Outcome.{Outcome}
use Rattle.pd_threads.specs.declared.work.Outcome.TheVariants.{Waiting, Ran, Acted, Memory}
use Rattle.pd_threads.specs.declared.work.Task.{Task}
use Rattle.pd_threads.specs.declared.work.Work.{Work}
use Rattle.pd_threads.specs.declared.work.Work.TheVariants.{Context, Session}

-- the context of this number may run on the board
pub record CanRun (plan : Plan) (p : Program) (context : ℕ) (s : Standing) : Type 0 where
  pub entry : context < length p.entries
  pub fuel : fuel_at plan context ≤ 2 ^ 24
  pub ready : IsReadyFor plan p s
  pub lawful : (session k : ℕ) → IsLawful plan (scripted plan session k)

-- the actions of a session; none of one that the plan doesn't have
abbrev pub actions_of : Option Script → List Action
actions_of None = []
actions_of (Some s) = s.actions

abbrev pub actions_at : Plan → ℕ → List Action
actions_at plan session = actions_of (slice_get plan.sessions session)

-- the plan has the session of this number, which may do its actions on the board
pub record CanAct (plan : Plan) (session : ℕ) (s : Standing) : Type 0 where
  pub planned : session < length plan.sessions
  pub within : session < s.sessions
  pub few : length (actions_at plan session) < 2 ^ 32
  pub may : AllByRecursion (MayDo (bindings s)) (actions_at plan session)
  pub draws : 1 ≤ s.draw_share
  pub answers : (t : ℕ) → t < s.sessions → 1 ≤ s.answer_share t
  pub loads : s.answer_loads session + turns_in (actions_at plan session) < 2 ^ 32
  pub ends : s.end_loads + turns_in (actions_at plan session) < 2 ^ 32

-- the work may be done on the board
abbrev pub CanWork : Plan → Program → Work → Standing → Type 0
CanWork plan p (Context c) s = CanRun plan p c s
CanWork plan p (Session n) s = CanAct plan n s

-- the task may be done on the seat
abbrev pub CanDo : Plan → Program → Task → Sitting → Type 0
CanDo plan p t seat = CanWork plan p t.work (standing_of seat)

-- the answer is the script's
abbrev pub is_scripted : Plan → Suspension → Answer → Type 0
is_scripted plan x a = a ≡ scripted plan x.session x.answer

-- the context of this number ran over a board that stood at `old` before and stands at `new`, and this is its record
pub record IsContextRun (plan : Plan) (p : Program) (number : ℕ) (old new : Standing) (r : ContextRecord) : Type 0 where
  pub is : IsRecord plan p (slice_index p.entries number) (fuel_at plan number) number old new r
  pub given : IsGiven (is_scripted plan) (λ _. false) [] [] r.stops
  pub replied : IsReplied plan old new (events_of plan p number r) r
  pub over : IsOver old new

-- the work was done, of which this came, or memory ran out
abbrev pub CameOf : Plan → Program → Work → Standing → Standing → Outcome → Type 0
CameOf plan p (Context c) old new (Ran r) = IsContextRun plan p c old new r
CameOf plan p (Session n) old new (Acted results) = AreDone n (actions_at plan n) results.items old new
CameOf plan p _ old new Memory = Unit {0}
CameOf plan p _ old new _ = ⊥

-- the task was done
pub record DidDo (plan : Plan) (p : Program) (t : Task) (seat : Sitting) (after : Task) (last : Sitting) : Type 0 where
  pub work : after.work ≡ t.work
  pub came : CameOf plan p t.work (standing_of seat) (standing_of last) after.outcome

-- the task isn't left waiting
abbrev pub WasBegun : Outcome → Type 0
WasBegun Waiting = ⊥
WasBegun _ = Unit {0}
