-- Definition: how the machine that runs stands for the pure one, and what it means that a call does a step of the pure
-- one.
use Rattle.std.specs.Prelude.{◌≡◌, List}
use Rattle.pd_machine.specs.declared.run.Pending.{Pending}
use Rattle.pd_machine.specs.Events.{State, Told}
use Rattle.pd_machine.specs.Held.{Held, scene_of}
use Rattle.pd_meaning.specs.Machine.{Machine, machine}

-- the state for which a machine stands that has told these events
abbrev pub state_of : Held → List Told → State
state_of m es = record { scene = scene_of m; output = m.output; events = es; left = m.left }

-- the machine that is kept, together with the events that it told
abbrev pub with_events : Held → List Told → Machine
with_events m es = machine m.mode m.stack (state_of m es)

-- a call that tells nothing does what the step does with the stack and the state that it finds
abbrev pub Does : (List Pending → State → Machine) → Held → Held → Type 0
Does step old new = ((es : List Told) → with_events new es ≡ step old.stack (state_of old es)) × (new.told ≡ old.told) × (new.fuel ≡ old.fuel)
