-- Definition: in what order the events of a run come, and where they stand.
use Rattle.std.specs.Prelude.{◌≡◌, ℕ, suc, ◌*◌, ◌<◌, ◌≤◌, List, [], ◌∷◌, length, drop, Some}
use Rattle.std.specs.List.{All}
use Rattle.pd_tree.specs.Program.{Program}
use Rattle.pd_tree.specs.WellFormed.{IsWellFormed}
use Rattle.pd_machine.specs.declared.event.Event.{Event}
use Rattle.pd_machine.specs.declared.event.EventKind.{EventKind}
use Rattle.pd_machine.specs.declared.event.EventKind.TheVariants.{Enter}
use Rattle.pd_machine.specs.Events.{Scene, Told, at_of, frame_of}
use Rattle.pd_meaning.specs.Meaning.{Verdicts, meaning_of}

-- ---- open activations, each by its Enter, the innermost first

-- those that are open after an event: an Enter opens one more, and an end closes the innermost
abbrev pub open_with : EventKind → Event → List Event → List Event
open_with Enter e live = e ∷ live
open_with _ e live = drop 1 live

-- those that are open after these events
abbrev pub open_after : List Event → List Told → List Event
open_after live [] = live
open_after live (t ∷ ts) = open_after (open_with t.event.kind t.event live) ts

-- ---- events in order

-- an event is the end of the innermost of these activations, at the same node
abbrev pub IsEndOf : Event → List Event → Type 0
IsEndOf e [] = ⊥
IsEndOf e (o ∷ live) = (e.opened ≡ o.number) × (e.node ≡ o.node)

-- an Enter begins an activation, which has its number; an end is that of the innermost activation
abbrev pub Fits : EventKind → Event → List Event → Type 0
Fits Enter e live = e.opened ≡ e.number
Fits _ e live = IsEndOf e live

-- an event may be the next one where so many came before it and these activations are open
abbrev pub IsNextAt : ℕ → List Event → Event → Type 0
IsNextAt n live e = (e.number ≡ n) × Fits e.kind e live

-- an event may be the next one after these
abbrev pub IsNext : List Told → Event → Type 0
IsNext ts e = IsNextAt (length ts) (open_after [] ts) e

-- events from number n on are in order, where these activations are open
abbrev pub AreInOrderFrom : ℕ → List Event → List Told → Type 0
AreInOrderFrom n live [] = Unit {0}
AreInOrderFrom n live (t ∷ ts) = IsNextAt n live t.event × AreInOrderFrom (suc n) (open_with t.event.kind t.event live) ts

-- each of these events may be the next one after those before it
abbrev pub AreInOrder : List Told → Type 0
AreInOrder ts = AreInOrderFrom 0 [] ts

-- the events of each run are in order, under all verdicts
abbrev pub EventsAreInOrder : Type 0
EventsAreInOrder = (p : Program) (v : Verdicts) (fuel entry : ℕ) → AreInOrder (meaning_of p entry fuel v).events

-- each unit of fuel gives two events at most, an Enter and an end
abbrev pub EventsAreFew : Type 0
EventsAreFew = (p : Program) (v : Verdicts) (fuel entry : ℕ) → length (meaning_of p entry fuel v).events ≤ 2 * fuel

-- ---- where an event stands

-- in a program with so many nodes, an event is of one of them, and its depth is the number of frames, each of which is of a root among them
-- and stands at one of them; there is an innermost frame, and it stands at the event's node
pub record IsPlaced (nodes : ℕ) (e : Event) (c : Scene) : Type 0 where
  pub node : e.node < nodes
  pub depth : e.depth ≡ length c.frames
  pub frames : All (λ f. (f.root < nodes) × (f.at < nodes)) c.frames
  pub innermost : at_of (frame_of c.frames 0) ≡ Some e.node

-- the events of each run of a linked program are so placed
abbrev pub EventsArePlaced : Type 0
EventsArePlaced = (p : Program) (v : Verdicts) (fuel entry : ℕ) → IsWellFormed p → All (λ t. IsPlaced (length p.nodes) t.event t.scene) (meaning_of p entry fuel v).events
