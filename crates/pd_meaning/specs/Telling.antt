-- Definition: a call that may tell an event does a step of the pure machine; and the verdict that is due on that event.
use Rattle.std.specs.Prelude.{◌≡◌, ℕ, zero, suc, ◌+◌, Bool, false, if◌then◌else◌, List, [], ◌∷◌, ◌++◌, length}
use Rattle.pd_values.specs.declared.value.Tag.{Tag}
use Rattle.pd_values.specs.declared.value.Tag.TheVariants.{Statement, Call}
use Rattle.pd_tree.specs.Program.{Program, node_at, has_tag}
use Rattle.pd_machine.specs.declared.run.Pending.{Pending}
use Rattle.pd_machine.specs.declared.run.Pending.TheVariants.{Leaving}
use Rattle.pd_machine.specs.declared.run.Mode.{Mode}
use Rattle.pd_machine.specs.declared.run.Mode.TheVariants.{Entering, Coming}
use Rattle.pd_machine.specs.declared.run.NodeResult.TheVariants.{Gives}
use Rattle.pd_machine.specs.declared.event.EventKind.{EventKind}
use Rattle.pd_machine.specs.declared.event.EventKind.TheVariants.{Enter, Return as Gave, Leave}
use Rattle.pd_machine.specs.declared.event.Verdict.{Verdict}
use Rattle.pd_machine.specs.declared.event.Verdict.TheVariants.{Go}
use Rattle.pd_machine.specs.declared.machine.Turn.{Turn}
use Rattle.pd_machine.specs.declared.machine.Turn.TheVariants.{Quiet, Tells}
use Rattle.pd_machine.specs.Events.{State, Told, standing}
use Rattle.pd_machine.specs.Held.{Held, scene_of}
use Rattle.pd_meaning.specs.Meaning.{Verdicts, verdict_at, verdict_on}
use Rattle.pd_meaning.specs.Machine.{Machine}
use Rattle.pd_meaning.specs.Steps.{state_of, with_events}

-- ---- the verdict that a run is given on the event which the next turn tells, where it is one at which verdicts count

-- the verdict that is due on the Enter of a node, which has the number e; a node without tags has none
abbrev pub due_on_tags : Program → Verdicts → ℕ → List Tag → ℕ → Verdict
due_on_tags p v n [] e = Go
due_on_tags p v n (t ∷ ts) e = verdict_on p v n Statement e

-- the same, where so much fuel is left
abbrev pub due_on_enter : Program → Verdicts → ℕ → ℕ → List Tag → ℕ → Verdict
due_on_enter p v zero n tags e = Go
due_on_enter p v (suc left) n tags e = due_on_tags p v n tags e

-- the verdict that is due on the Return of the activation that waits on top
abbrev pub due_on_value : Program → Verdicts → List Pending → ℕ → Verdict
due_on_value p v (Leaving n opened ∷ stack) e = verdict_on p v n Call e
due_on_value p v _ e = Go

-- the verdict that is due on the event that the next turn tells, if it tells one
abbrev pub due_at : Program → Verdicts → Mode → List Pending → ℕ → ℕ → Verdict
due_at p v (Entering n) stack left e = due_on_enter p v left n (node_at p n).tags e
due_at p v (Coming (Gives a)) stack left e = due_on_value p v stack e
due_at p v _ stack left e = Go

-- the same, of a machine
abbrev pub due : Program → Verdicts → Machine → Verdict
due p v m = due_at p v m.mode m.stack m.state.left (length m.state.events)

-- verdicts count on the Enter of a statement and on the Return of a call
abbrev pub is_heeded : Program → EventKind → ℕ → Bool
is_heeded p Enter n = has_tag (node_at p n).tags Statement
is_heeded p (Gave a) n = has_tag (node_at p n).tags Call
is_heeded p (Leave c) n = false

-- the verdict on an event that was told
abbrev pub verdict_told : Program → Verdicts → Turn → ℕ → Verdict
verdict_told p v Quiet e = Go
verdict_told p v (Tells x) e = if is_heeded p x.kind x.node then verdict_at v e else Go

-- ---- calls that may tell an event

-- the events after a turn: one more with its scene, or none
abbrev pub events_after : List Told → Turn → Held → List Told
events_after es Quiet m = es
events_after es (Tells e) m = es ++ record { event = e; scene = standing e.node (scene_of m) } ∷ []

-- the number of events after a turn
abbrev pub count_after : ℕ → Turn → ℕ
count_after n Quiet = n
count_after n (Tells e) = n + 1

-- an event has this number
abbrev pub IsNumbered : ℕ → Turn → Type 0
IsNumbered n Quiet = Unit {0}
IsNumbered n (Tells e) = e.number ≡ n

-- a call, of a machine that knows the number of its events, does what the step does, and the verdict due is that on its event
abbrev pub DoesTelling : Program → (Verdicts → ℕ → Verdict) → (List Pending → State → Machine) → Held → Held → Turn → Type 0
DoesTelling p due step old new t =
    ((es : List Told) → length es ≡ old.told → with_events new (events_after es t new) ≡ step old.stack (state_of old es))
    × ((v : Verdicts) (e : ℕ) → due v e ≡ verdict_told p v t e)
    × (new.told ≡ count_after old.told t) × (new.fuel ≡ old.fuel) × IsNumbered old.told t
