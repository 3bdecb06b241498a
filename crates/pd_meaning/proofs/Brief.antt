-- A run in short, for the examples.
use Rattle.std.specs.Prelude.{ℕ, List, [], length, map, reverse, slice_get, Option, None, Some, option_map, option_and_then}
use Rattle.pd_values.specs.declared.value.End.{End}
use Rattle.pd_values.specs.declared.value.Value.{Value}
use Rattle.pd_machine.specs.declared.event.EventKind.{EventKind}
use Rattle.pd_machine.specs.Events.{Told, scene_value}
use Rattle.pd_meaning.specs.Meaning.{Ran}

-- its output, its end, the fuel that it used and the number of its events
abbrev pub brief : Ran → List ℕ × End × ℕ × ℕ
brief r = (r.output, r.finish, r.used, length r.events)

abbrev pub output_and_end : Ran → List ℕ × End
output_and_end r = (r.output, r.finish)

abbrev pub output_end_and_fuel : Ran → List ℕ × End × ℕ
output_end_and_fuel r = (r.output, r.finish, r.used)

-- the kind, the node, the number of the Enter and the depth of an event
abbrev pub event_at : ℕ → Ran → Option (EventKind × ℕ × ℕ × ℕ)
event_at e r = option_map (λ t. (t.event.kind, t.event.node, t.event.opened, t.event.depth)) (slice_get r.events e)

-- the frames at an event, the innermost first, each with its root and the node where it stands
abbrev pub roots_of : Option Told → List (ℕ × ℕ)
roots_of None = []
roots_of (Some t) = reverse (map (λ f. (f.root, f.at)) t.scene.frames)

abbrev pub frames_at : ℕ → Ran → List (ℕ × ℕ)
frames_at e r = roots_of (slice_get r.events e)

-- what frame i sees at an event in a slot of the block that stands `up` blocks outward
abbrev pub value_at : ℕ → ℕ → ℕ → ℕ → Ran → Option Value
value_at e i up slot r = option_and_then (λ t. scene_value t.scene i up slot) (slice_get r.events e)
