-- Definition, which public contracts cite.
-- A machine as its fields, without the events that it has told, which a watcher has.
use Rattle.std.specs.Prelude.{ℕ, List, []}
use Rattle.pd_values.specs.declared.value.Value.{Value}
use Rattle.pd_machine.specs.declared.run.Frame.{Frame}
use Rattle.pd_machine.specs.declared.run.Mode.{Mode}
use Rattle.pd_machine.specs.declared.run.Mode.TheVariants.{Coming}
use Rattle.pd_machine.specs.declared.run.Pending.{Pending}
use Rattle.pd_values.specs.declared.value.End.{End}
use Rattle.pd_values.specs.declared.value.End.TheVariants.{Killed}
use Rattle.pd_machine.specs.Events.{Scene, end_of}

-- a machine: what is done next, what waits, the frames, the variables, the output, the number of events, and the fuel
pub record Held : Type 0 where
  pub mode : Mode
  -- what waits, the innermost first
  pub stack : List Pending
  -- the frames, the outermost first, and the variables of the main block of each source
  pub frames : List Frame
  pub mains : List (List Value)
  -- the bytes written so far
  pub output : List ℕ
  -- the number of events so far
  pub told : ℕ
  -- the fuel that is left, and all of it
  pub left : ℕ
  pub fuel : ℕ

-- the frames of the machine and the variables of main blocks
abbrev pub scene_of : Held → Scene
scene_of m = record { frames = m.frames; mains = m.mains }

-- a result came to the end of the stack
abbrev pub IsOverAt : Mode → List Pending → Type 0
IsOverAt (Coming r) [] = Unit {0}
IsOverAt _ _ = ⊥

-- the run is over: a result has come, and nothing waits for it
abbrev pub IsOver : Held → Type 0
IsOver m = IsOverAt m.mode m.stack

-- the machine with another scene
abbrev pub with_scene : Held → Scene → Held
with_scene m c = record m { frames = c.frames; mains = c.mains }

-- the end of a run that is over
abbrev pub end_at : Mode → End
end_at (Coming r) = end_of r
end_at _ = Killed
