-- No contract of this version cites it.
-- What a frame sees at an event: the names and values by which conditions, stops and records read it.
use Rattle.std.specs.Prelude.{ℕ, List, [], map, Option, None, Some, unwrap_or}
use Rattle.pd_values.specs.declared.value.Value.{Value}
use Rattle.pd_values.specs.declared.value.Value.TheVariants.{Null}
use Rattle.pd_tree.specs.Program.{Program, node_at}
use Rattle.pd_machine.specs.declared.run.Frame.{Frame}
use Rattle.pd_machine.specs.Events.{Scene, frame_of, scene_value}

-- the variables that frame i sees, where 0 is the innermost, in the order of what its node sees: each name with its value, also those
-- of the main block around. Frame 0 stands at the event's node, each other frame at the call node where it waits
abbrev pub seen_from : Program → Scene → ℕ → Option Frame → List (List ℕ × Value)
seen_from p c i None = []
seen_from p c i (Some f) = map (λ x. (x.name, unwrap_or (scene_value c i x.up x.slot) Null)) (node_at p f.at).sees

-- the variables that frame i sees, each with its value
abbrev pub seen_by : Program → Scene → ℕ → List (List ℕ × Value)
seen_by p c i = seen_from p c i (frame_of c.frames i)
