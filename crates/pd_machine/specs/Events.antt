-- Definition, which public contracts cite.
-- The state of a run, and the events that it tells, each with the frames at that moment.
use Rattle.pd_machine.specs.declared.run.Home.{Home}
use Rattle.pd_machine.specs.declared.run.Home.TheVariants.{InFrame, InMain}
use Rattle.pd_machine.specs.declared.run.Frame.{Frame}
use Rattle.std.specs.Prelude.{nat_lt, if◌then◌else◌, ℕ, zero, suc, ◌-◌, List, [], ◌∷◌, ◌++◌, length, take, slice_get, slice_set, slice_index_or, Option, None, Some}
use Rattle.pd_values.specs.declared.value.Value.{Value}
use Rattle.pd_values.specs.declared.value.Value.TheVariants.{Null}
use Rattle.pd_values.specs.declared.value.End.{End}
use Rattle.pd_values.specs.declared.value.End.TheVariants.{Done, Faulted, Exhausted, Killed}
use Rattle.pd_machine.specs.declared.run.Cutoff.TheVariants.{SpentFuel, WasKilled}
use Rattle.pd_machine.specs.declared.run.NodeResult.{NodeResult}
use Rattle.pd_machine.specs.declared.run.NodeResult.TheVariants.{Gives, Faults, Stops}
use Rattle.pd_machine.specs.declared.event.Event.{Event}
use Rattle.pd_machine.specs.declared.event.EventKind.{EventKind}

-- the frames, the outermost first, and the variables of the main block of each source
pub record Scene : Type 0 where
  pub frames : List Frame
  pub mains : List (List Value)

-- an event, and the frames at it, of which the innermost stands at the event's node
pub record Told : Type 0 where
  pub event : Event
  pub scene : Scene

-- a run so far: the frames and variables, the output, the events, and the fuel
pub record State : Type 0 where
  pub scene : Scene
  -- the bytes written so far
  pub output : List ℕ
  -- the events so far, in order
  pub events : List Told
  -- the fuel that is left
  pub left : ℕ

-- ---- frames and variables

-- xs with f done to the element at i
abbrev pub change_at : {X : Type 0} → List X → ℕ → (X → X) → List X
change_at [] i f = []
change_at (x ∷ xs) zero f = f x ∷ xs
change_at (x ∷ xs) (suc i) f = x ∷ change_at xs i f

-- frame i, where 0 is the innermost
abbrev pub frame_of : List Frame → ℕ → Option Frame
frame_of frames i = if nat_lt i (length frames) then slice_get frames (length frames - suc i) else None

-- frame k, where 0 is the innermost, counted from the outermost; a k past the outermost means the outermost
abbrev pub from_outermost : List Frame → ℕ → ℕ
from_outermost frames k = length frames - suc k

-- the function or procedure of a frame, if there is the frame
abbrev pub root_of : Option Frame → Option ℕ
root_of None = None
root_of (Some f) = Some f.root

-- the node where a frame stands, if there is the frame
abbrev pub at_of : Option Frame → Option ℕ
at_of None = None
at_of (Some f) = Some f.at

-- the variables of a frame; none where there is no frame
abbrev pub variables_of : Option Frame → List Value
variables_of None = []
variables_of (Some f) = f.variables

-- where the variables stand of the blocks that a frame sees, from its own outward; none where there is no frame
abbrev pub blocks_of : Option Frame → List Home
blocks_of None = []
blocks_of (Some f) = f.blocks

-- the variables of the block that stands there; none where there is none
abbrev pub variables_at : Scene → Option Home → List Value
variables_at c None = []
variables_at c (Some (InFrame k)) = variables_of (slice_get c.frames k)
variables_at c (Some (InMain m)) = slice_index_or c.mains m []

-- the variable in this slot of the block that stands `up` blocks outward of frame i
abbrev pub scene_value : Scene → ℕ → ℕ → ℕ → Option Value
scene_value c i up slot = slice_get (variables_at c (slice_get (blocks_of (frame_of c.frames i)) up)) slot

-- the same with another value, seen from the innermost frame
abbrev pub set_home : Scene → Option Home → ℕ → Value → Scene
set_home c None slot a = c
set_home c (Some (InFrame k)) slot a = record c { frames = change_at c.frames k (λ f. record f { variables = slice_set f.variables slot a }) }
set_home c (Some (InMain m)) slot a = record c { mains = change_at c.mains m (λ vs. slice_set vs slot a) }

-- the scene where the variable in this slot of the block `up` blocks outward of the innermost frame has the value a
abbrev pub set_variable : Scene → ℕ → ℕ → Value → Scene
set_variable c up slot a = set_home c (slice_get (blocks_of (frame_of c.frames 0)) up) slot a

-- the innermost frame stands at this node
abbrev pub standing : ℕ → Scene → Scene
standing n c = record c { frames = change_at c.frames (length c.frames - 1) (λ f. record f { at = n }) }

-- the scene with one more frame, the innermost
abbrev pub push_frame : Frame → Scene → Scene
push_frame f c = record c { frames = c.frames ++ f ∷ [] }

-- the scene without its innermost frame
abbrev pub pop_frame : Scene → Scene
pop_frame c = record c { frames = take (length c.frames - 1) c.frames }

-- ---- events

-- the state after an event: of this kind, of this node, whose Enter has the number `opened`
abbrev pub tell : ℕ → ℕ → EventKind → State → State
tell n opened kind s = record s { events = s.events ++ record { event = record { number = length s.events; kind = kind; node = n; opened = opened; depth = length s.scene.frames }; scene = standing n s.scene } ∷ [] }

-- ---- the end

-- a jump ends at a body and an unwinding at a frame, so neither comes out of the entry
abbrev pub end_of : NodeResult → End
end_of (Gives a) = Done a
end_of (Faults f n) = Faulted f n
end_of (Stops SpentFuel) = Exhausted
end_of (Stops WasKilled) = Killed
end_of _ = Done Null
