-- Definition: what holds of steps and steppers, as facts that contracts promise.
use Rattle.std.specs.Prelude.{◌≡◌, ℕ, suc, ◌<◌, List, [], ◌∷◌, ◌++◌, map, length, drop, Option, Some, None}
use Rattle.std.specs.List.{range_with_len}
use Rattle.pd_plan.specs.declared.plan.Plan.{Plan}
use Rattle.pd_plan.specs.Sound.{IsSound}
use Rattle.pd_tree.specs.Program.{Program}
use Rattle.pd_machine.specs.Events.{Told}
use Rattle.pd_suspend.specs.declared.stepper.Stepper.{Stepper}
use Rattle.pd_suspend.specs.declared.suspension.Suspension.{Suspension}
use Rattle.pd_suspend.specs.Steps.{Armed, step_of, stands_before, stands_after, ends_at}
use Rattle.pd_suspend.specs.Stops.{is_over, step_left, step_in}
use Rattle.pd_suspend.specs.Answers.{scripted, IsLawful}
use Rattle.pd_suspend.specs.Counters.{armed, sees, moved_by, idle, armed_by, sees_any, moved_any, stepper_of}

-- the events have the numbers 0, 1, 2 ..
abbrev pub AreNumbered : List Told → Type 0
AreNumbered events = map (λ (t : Told). t.event.number) events ≡ range_with_len 0 (length events)

-- and so they have with one more, whose number is how many there were
abbrev pub OneMoreIsNumbered : Type 0
OneMoreIsNumbered = (events : List Told) (t : Told) → AreNumbered events → t.event.number ≡ length events → AreNumbered (events ++ t ∷ [])

-- where counters were armed at the event at which a step was left, and moved at each event since, they see exactly where it ends; `past` are
-- the events before t
abbrev pub CountersSee : Type 0
CountersSee = (p : Program) (past : List Told) (a : Armed) (t : Told)
    → AreNumbered past → a.event < length past → t.event.number ≡ length past
    → sees (moved_by p (armed a.step a.depth) (drop (suc a.event) past)) (stands_before p t.event) (stands_after p t.event) t.event.depth ≡ ends_at p past a t.event

-- ---- the stepper of a session

-- a stepper has been armed for this step, or for none, and has seen the events since; `past` are all events so far
abbrev pub IsStepping : Program → List Told → Option Armed → Stepper → Type 0
IsStepping p past None s = s.step ≡ None
IsStepping p past (Some a) s = (a.event < length past) × (s ≡ stepper_of (moved_by p (armed a.step a.depth) (drop (suc a.event) past)))

-- a new stepper has no step
abbrev pub NewIsIdle : Type 0
NewIsIdle = (p : Program) → IsStepping p [] None idle

-- what `see` answers at the next event is whether the step ends there
abbrev pub SeesTheEnd : Type 0
SeesTheEnd = (p : Program) (past : List Told) (o : Option Armed) (s : Stepper) (t : Told)
    → AreNumbered past → t.event.number ≡ length past → IsStepping p past o s
    → sees_any s (stands_before p t.event) (stands_after p t.event) t.event.depth ≡ is_over p past t.event o

-- after `see` the stepper has seen that event too
abbrev pub SeesOneMore : Type 0
SeesOneMore = (p : Program) (past : List Told) (o : Option Armed) (s : Stepper) (t : Told)
    → IsStepping p past o s
    → IsStepping p (past ++ t ∷ []) o (moved_any s (stands_before p t.event) (stands_after p t.event) t.event.depth)

-- after a suspension at the last of the events, `arm` with its way to go on and the number of its frames gives the step that it left
abbrev pub ArmsTheStep : Type 0
ArmsTheStep = (p : Program) (past : List Told) (t : Told) (x : Suspension)
    → x.event ≡ length past → IsStepping p (past ++ t ∷ []) (step_left x) (armed_by (step_of x.resume) (length x.frames))

-- after a suspension the step of its session is what it left, and that of any other session stays
pub record StepsFollowStops : Type 0 where
  pub own : (s : ℕ) (stops : List Suspension) (x : Suspension) → x.session ≡ s → step_in s (stops ++ x ∷ []) ≡ step_left x
  pub other : (s : ℕ) (stops : List Suspension) (x : Suspension) → (x.session ≡ s → ⊥) → step_in s (stops ++ x ∷ []) ≡ step_in s stops

-- ---- scripts

-- each answer of a sound plan's scripts is lawful, also past the script
abbrev pub ScriptsAreLawful : Type 0
ScriptsAreLawful = (plan : Plan) → IsSound plan → (session k : ℕ) → IsLawful plan (scripted plan session k)
