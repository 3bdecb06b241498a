-- Definition, which public contracts cite.
-- The last write of a variable: which assignment before an event gave the value that a frame sees there.
use Rattle.std.specs.Prelude.{ℕ, ◌==◌, ◌&&◌, Bool, true, false, if◌then◌else◌, List, [], ◌∷◌, map, length, slice_get, Option, None, Some}
use Rattle.std.specs.List.{range_with_len}
use Rattle.pd_values.specs.declared.value.Tag.TheVariants.{WriteVariable}
use Rattle.pd_tree.specs.declared.kind.Visible.{Visible}
use Rattle.pd_tree.specs.declared.kind.Meaning.{Meaning}
use Rattle.pd_tree.specs.declared.kind.Meaning.TheVariants.{Local}
use Rattle.pd_tree.specs.Program.{Program, node_at, has_tag}
use Rattle.pd_machine.specs.declared.run.Home.{Home}
use Rattle.pd_machine.specs.declared.run.Home.TheVariants.{InFrame, InMain}
use Rattle.pd_machine.specs.declared.run.Frame.{Frame}
use Rattle.pd_machine.specs.declared.event.EventKind.{EventKind}
use Rattle.pd_machine.specs.declared.event.EventKind.TheVariants.{Return as Gave}
use Rattle.pd_machine.specs.Events.{Told, frame_of, blocks_of}
use Rattle.pd_running.specs.Running.{running_at, roots_in, moments}
use Rattle.pd_origins.specs.declared.Origin.{Origin}
use Rattle.pd_origins.specs.declared.Origin.TheVariants.{By, Start, Initial}

-- ---- whose a variable is

-- a variable is one of an activation of a function or procedure, which is told by the number of its Enter, or one of the main block of a
-- source, which is the context's
pub data Owner : Type 0 where
  of_activation : ℕ → Owner
  of_main : ℕ → Owner
  of_none : Owner

abbrev pub owner_among : Option Told → Owner
owner_among None = of_none
owner_among (Some x) = of_activation x.event.number

-- the owner of the variables of a block that stands there, at an event at which these activations run: frame k is that of the k-th
-- function or procedure, the outermost first
abbrev pub owner_by : Program → List Told → Option Home → Owner
owner_by p runs None = of_none
owner_by p runs (Some (InFrame k)) = owner_among (slice_get (roots_in p runs) k)
owner_by p runs (Some (InMain source)) = of_main source

-- a variable: its owner, and its slot there
pub record Place : Type 0 where
  pub owner : Owner
  pub slot : ℕ

-- the variable that frame i sees at event t in this slot of the block that is declared so many blocks outward
abbrev pub place_by : Program → List Told → Told → ℕ → ℕ → ℕ → Place
place_by p runs t i up slot = record { owner = owner_by p runs (slice_get (blocks_of (frame_of t.scene.frames i)) up); slot = slot }

-- the same, where t comes after these events
abbrev pub place_seen : Program → List Told → Told → ℕ → ℕ → ℕ → Place
place_seen p past t i up slot = place_by p (running_at past t) t i up slot

abbrev pub same_owner : Owner → Owner → Bool
same_owner (of_activation a) (of_activation b) = a == b
same_owner (of_main a) (of_main b) = a == b
same_owner _ _ = false

abbrev pub same_place : Place → Place → Bool
same_place x y = same_owner x.owner y.owner && (x.slot == y.slot)

-- ---- writes

-- whether an activation gave a value
abbrev pub is_return : EventKind → Bool
is_return (Gave a) = true
is_return _ = false

-- whether an assignment to this name, seen from the innermost frame, is one to the variable
abbrev pub assigns_to : Program → List Told → Told → Place → Meaning → Bool
assigns_to p runs t x (Local up slot) = same_place (place_by p runs t 0 up slot) x
assigns_to p runs t x _ = false

-- whether event t, at which these activations run, is the Return of an assignment to the variable
abbrev pub writes_to : Program → Place → List Told × Told → Bool
writes_to p x m = is_return m.1.event.kind && (has_tag (node_at p m.1.event.node).tags WriteVariable && assigns_to p m.0 m.1 x (node_at p m.1.event.node).meaning)

-- the first, where there is one, and else the second
abbrev pub or_else : Option ℕ → Option ℕ → Option ℕ
or_else (Some e) other = Some e
or_else None other = other

-- the last of these events that is the Return of an assignment to the variable, each event with the activations that run at it
abbrev pub last_among : Program → Place → List (List Told × Told) → Option ℕ
last_among p x [] = None
last_among p x (m ∷ ms) = or_else (last_among p x ms) (if writes_to p x m then Some m.1.event.number else None)

-- the greatest event among these that is
abbrev pub last_write : Program → Place → List Told → Option ℕ
last_write p x past = last_among p x (map (λ m. (running_at m.0 m.1, m.1)) (moments past))

-- where a variable's value comes from that no assignment gave
abbrev pub began : Owner → Origin
began (of_activation start) = Start start
began _ = Initial

abbrev pub origin_by : Owner → Option ℕ → Origin
origin_by owner (Some e) = By e
origin_by owner None = began owner

-- where the value of a variable comes from after these events
abbrev pub origin_of : Program → List Told → Place → Origin
origin_of p past x = origin_by x.owner (last_write p x past)

-- ---- what is shown at an event

-- the variables that a frame shows
abbrev pub shown : Program → Option Frame → List Visible
shown p None = []
shown p (Some f) = (node_at p f.at).sees

-- the origins of the variables that frame i shows at event t, which comes after these events
abbrev pub frame_origins : Program → List Told → Told → ℕ → List Origin
frame_origins p past t i = map (λ x. origin_of p past (place_seen p past t i x.up x.slot)) (shown p (frame_of t.scene.frames i))

-- those of all frames, the innermost first
abbrev pub origins_at : Program → List Told → Told → List (List Origin)
origins_at p past t = map (frame_origins p past t) (range_with_len 0 (length t.scene.frames))
