-- For the proofs alone: no public contract needs it.
-- What holds of a machine between its turns: what waits to be left is what is open, and the events so far are in order.
use Rattle.std.specs.Prelude.{◌≡◌, ℕ, ◌+◌, ◌*◌, ◌<◌, ◌≤◌, List, [], ◌∷◌, length, map, Some}
use Rattle.std.specs.List.{All}
use Rattle.pd_machine.specs.declared.event.Event.{Event}
use Rattle.pd_machine.specs.declared.run.Frame.{Frame}
use Rattle.pd_machine.specs.declared.run.Mode.{Mode}
use Rattle.pd_machine.specs.declared.run.Mode.TheVariants.{Coming}
use Rattle.pd_machine.specs.declared.run.NodeResult.TheVariants.{Stops}
use Rattle.pd_machine.specs.declared.run.Pending.{Pending}
use Rattle.pd_machine.specs.declared.run.Pending.TheVariants.{Leaving, InCall}
use Rattle.pd_machine.specs.Events.{Told, at_of, frame_of}
use Rattle.pd_meaning.specs.Machine.{Machine}
use Rattle.pd_order.specs.Order.{AreInOrder, open_after}

-- the activations that wait to be left, each by its node and the number of its Enter, the innermost first
abbrev pub leaving : List Pending → List (ℕ × ℕ)
leaving [] = []
leaving (Leaving n opened ∷ stack) = (n, opened) ∷ leaving stack
leaving (_ ∷ stack) = leaving stack

-- the frames of the calls that wait, as they began
abbrev pub called : List Pending → List Frame
called [] = []
called (InCall k f ∷ stack) = f ∷ called stack
called (_ ∷ stack) = called stack

-- something waits, and under all that waits a call does, the first of the run
abbrev pub IsInCall : List Pending → Type 0
IsInCall [] = ⊥
IsInCall (InCall k f ∷ []) = Unit {0}
IsInCall (InCall k f ∷ x ∷ stack) = IsInCall (x ∷ stack)
IsInCall (_ ∷ stack) = IsInCall stack

-- nothing waits, or all that waits is so in a call
abbrev pub RestsOnCall : List Pending → Type 0
RestsOnCall [] = Unit {0}
RestsOnCall (x ∷ stack) = IsInCall (x ∷ stack)

-- a node is entered, and does its work, in a call; a result may have left the first one
abbrev pub IsInCallAt : Mode → List Pending → Type 0
IsInCallAt (Coming r) stack = RestsOnCall stack
IsInCallAt _ stack = IsInCall stack

-- an open activation by its node and number
abbrev pub place_of : Event → ℕ × ℕ
place_of e = (e.node, e.number)

-- P holds of a frame's root and of the node where it stands
abbrev pub FrameIs : (ℕ → Type 0) → Frame → Type 0
FrameIs P f = P f.root × P f.at

-- an event is of one of so many nodes, its depth is the number of its frames, P holds of their nodes, and the innermost stands at the event's
abbrev pub IsToldAt : (ℕ → Type 0) → ℕ → Told → Type 0
IsToldAt P nodes t =
    (t.event.node < nodes) × (t.event.depth ≡ length t.scene.frames) × All (FrameIs P) t.scene.frames × (at_of (frame_of t.scene.frames 0) ≡ Some t.event.node)

-- what holds of the events of a run with so much fuel
pub record IsTold (P : ℕ → Type 0) (nodes fuel : ℕ) (events : List Told) : Type 0 where
  pub in_order : AreInOrder events
  pub placed : All (IsToldAt P nodes) events
  -- each unit of fuel gives two events at most
  pub bound : length events ≤ 2 * fuel

-- what holds where these activations wait to be left, these calls wait, and these frames are live
pub record IsOpen (P : ℕ → Type 0) (nodes fuel : ℕ) (waits : List (ℕ × ℕ)) (calls : List Frame) (events : List Told) (left : ℕ) (frames : List Frame) : Type 0 where
  pub told : IsTold P nodes fuel events
  pub opens : waits ≡ map place_of (open_after [] events)
  pub inside : All (λ w. w.0 < nodes) waits
  -- what waits to be left tells one more event, and each unit of fuel two
  pub few : length events + length waits + 2 * left ≤ 2 * fuel
  pub begun : All (FrameIs P) calls
  pub framed : All (FrameIs P) frames
  -- each live frame is that of a call that waits
  pub live : length frames ≡ length calls

-- once a stop comes, no event is told any more, and what waits to be left stays open
abbrev pub IsOpenAt : (ℕ → Type 0) → ℕ → ℕ → Mode → List (ℕ × ℕ) → List Frame → List Told → ℕ → List Frame → Type 0
IsOpenAt P nodes fuel (Coming (Stops x)) waits calls events left frames = IsTold P nodes fuel events
IsOpenAt P nodes fuel _ waits calls events left frames = IsOpen P nodes fuel waits calls events left frames

-- the same of a machine
abbrev pub IsOrderly : (ℕ → Type 0) → ℕ → ℕ → Machine → Type 0
IsOrderly P nodes fuel m = IsInCallAt m.mode m.stack × IsOpenAt P nodes fuel m.mode (leaving m.stack) (called m.stack) m.state.events m.state.left m.state.scene.frames
