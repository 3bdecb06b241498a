-- Definition: the record of one context: its run is what the program means under the verdicts that were answered, each binding's log is what
-- was seen of it, and its suspensions stand where breakpoints, steps and halts put them.
use Rattle.std.specs.Prelude.{◌≡◌, ℕ, ◌<◌, true, List, [], ◌++◌, length, map, slice_get, slice_index_or, Option, None, Some}
use Rattle.pd_tree.specs.Program.{Program}
use Rattle.pd_machine.specs.Events.{Told}
use Rattle.pd_meaning.specs.Meaning.{Ran, meaning_of}
use Rattle.pd_plan.specs.declared.plan.ContextSpec.{ContextSpec}
use Rattle.pd_plan.specs.declared.plan.Plan.{Plan}
use Rattle.pd_board.specs.declared.answers.Sight.{Sight}
use Rattle.pd_board.specs.Standing.{Standing}
use Rattle.pd_suspend.specs.declared.suspension.Suspension.{Suspension}
use Rattle.pd_suspend.specs.Stops.{Setting, verdicts_of, stops_of, answered_to}
use Rattle.pd_suspend.specs.Answers.{acts_of, numbers_in}
use Rattle.pd_suspend.specs.declared.context.ContextRecord.{ContextRecord}
use Rattle.pd_record.specs.Logs.{answer_at}
use Rattle.pd_record.specs.Life.{rises}
use Rattle.pd_record.specs.Seen.{IsSeen}
use Rattle.pd_record.specs.Served.{IsServed}
use Rattle.pd_record.specs.Replies.{owed_of, HasGrownBy}

-- the fuel of a context; 0 where there is none
abbrev pub fuel_of : Option ContextSpec → ℕ
fuel_of None = 0
fuel_of (Some c) = c.fuel

-- the fuel of the plan's context with this number; 0 where there is none
abbrev pub fuel_at : Plan → ℕ → ℕ
fuel_at plan context = fuel_of (slice_get plan.contexts context)

-- the record's run is this one
pub record IsRunOf (ran : Ran) (r : ContextRecord) : Type 0 where
  pub output : r.output ≡ ran.output
  pub «end» : r.«end» ≡ ran.finish
  pub used : r.used ≡ ran.used
  pub events : r.events ≡ length ran.events

-- what was seen and given at these events, over a board that stood at `start` before and stands at `now`
pub record IsObserved (plan : Plan) (p : Program) (context : ℕ) (start now : Standing) (events : List Told) (r : ContextRecord) : Type 0 where
  pub seen : r.seen ≡ now.sights
  pub sights : IsSeen plan p events now.sights now.sight_loads now.passes now.loads
  pub count : length r.logs ≡ length plan.bindings
  pub served : (b : ℕ) → b < length plan.bindings → IsServed plan p context (start.known b) now (slice_index_or r.logs b []) events (acts_of r.stops) b

-- what the suspensions of a context follow from, where this was seen and these answers are those of its suspensions
abbrev pub setting_of : Plan → Program → ℕ → List Sight → List Suspension → Setting
setting_of plan p context seen stops = record { plan = plan; program = p; context = context; drawn = answer_at seen; answered = map answered_to stops }

-- the suspensions at these events, and the numbers of their answers: for each session those that the board took for it, rising
pub record IsStopped (plan : Plan) (p : Program) (context : ℕ) (start now : Standing) (events : List Told) (r : ContextRecord) : Type 0 where
  pub stops : r.stops ≡ stops_of (setting_of plan p context r.seen r.stops) events
  pub numbers : (s : ℕ) → now.numbers s ≡ start.numbers s ++ numbers_in s r.stops
  pub rising : (s : ℕ) → rises (numbers_in s r.stops) ≡ true

-- the record of a context that runs this item of the program with so much fuel
pub record IsRecord (plan : Plan) (p : Program) (entry fuel context : ℕ) (start now : Standing) (r : ContextRecord) : Type 0 where
  pub run : IsRunOf (meaning_of p entry fuel (verdicts_of r.stops)) r
  pub observed : IsObserved plan p context start now (meaning_of p entry fuel (verdicts_of r.stops)).events r
  pub stopped : IsStopped plan p context start now (meaning_of p entry fuel (verdicts_of r.stops)).events r

-- the board's answers grew by one for each act, and one for the disposal of each binding that was used up
abbrev pub IsReplied : Plan → Standing → Standing → List Told → ContextRecord → Type 0
IsReplied plan start now events r = HasGrownBy (owed_of plan now.sights r.stops events) start.replies now.replies
