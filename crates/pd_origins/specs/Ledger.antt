-- Definition, which public contracts cite.
-- One walk over the log of all events of functions, procedures and assignments. It keeps the activations that run, the outermost first:
-- of each its Enter, where the blocks stand that it sees, and for each slot that was assigned the last event; and the same for the
-- main blocks of the context. No frame of an event is read.
use Rattle.std.specs.Prelude.{ℕ, zero, suc, ◌+◌, ◌==◌, ◌&&◌, ◌||◌, Bool, true, false, nat_lt, if◌then◌else◌, List, [], ◌∷◌, ◌++◌, map, slice_get, slice_index_or, Option, None, Some}
use Rattle.pd_values.specs.declared.value.Tag.TheVariants.{WriteVariable}
use Rattle.pd_tree.specs.declared.kind.Meaning.{Meaning}
use Rattle.pd_tree.specs.declared.kind.Meaning.TheVariants.{Local}
use Rattle.pd_tree.specs.declared.kind.Visible.{Visible}
use Rattle.pd_tree.specs.Program.{Program, node_at, has_tag}
use Rattle.pd_machine.specs.declared.run.Home.{Home}
use Rattle.pd_machine.specs.declared.run.Home.TheVariants.{InFrame, InMain}
use Rattle.pd_machine.specs.Events.{change_at}
use Rattle.pd_running.specs.Running.{is_enter, is_root_node, Mark}
use Rattle.pd_running.specs.Laws.{but_last}
use Rattle.pd_framing.specs.Framing.{blocks_seen, blocks_for}
use Rattle.pd_origins.specs.declared.ledger.Live.{Live}
use Rattle.pd_origins.specs.declared.Origin.{Origin}
use Rattle.pd_origins.specs.declared.Origin.TheVariants.{By, Start, Initial}
use Rattle.pd_origins.specs.Origins.{is_return}

-- the activations that run, and for the main block of each source the last event of each slot that was assigned
pub record Ledger : Type 0 where
  pub live : List Live
  pub mains : List (List (Option ℕ))

abbrev pub no_ledger : Ledger
no_ledger = record { live = []; mains = [] }

-- the blocks that each of them sees
abbrev pub seen_in : List Live → List (List Home)
seen_in live = map (λ x. x.blocks) live

abbrev pub seen_by : Ledger → List (List Home)
seen_by l = seen_in l.live

-- ---- the last event of each slot

abbrev pub latest : ℕ → List (Option ℕ) → Option ℕ
latest slot [] = None
latest zero (x ∷ xs) = x
latest (suc slot) (x ∷ xs) = latest slot xs

abbrev pub put : ℕ → ℕ → List (Option ℕ) → List (Option ℕ)
put zero event [] = Some event ∷ []
put zero event (x ∷ xs) = Some event ∷ xs
put (suc slot) event [] = None ∷ put slot event []
put (suc slot) event (x ∷ xs) = x ∷ put slot event xs

-- the same of each source
abbrev pub latest_in : ℕ → ℕ → List (List (Option ℕ)) → Option ℕ
latest_in source slot mains = latest slot (slice_index_or mains source [])

abbrev pub put_in : ℕ → ℕ → ℕ → List (List (Option ℕ)) → List (List (Option ℕ))
put_in zero slot event [] = put slot event [] ∷ []
put_in zero slot event (x ∷ xs) = put slot event x ∷ xs
put_in (suc source) slot event [] = [] ∷ put_in source slot event []
put_in (suc source) slot event (x ∷ xs) = x ∷ put_in source slot event xs

-- ---- entries

abbrev pub entered : Program → Ledger → Mark → Ledger
entered p l m = record l { live = l.live ++ record { start = m.number; blocks = blocks_for (node_at p m.node) (seen_by l); last = [] } ∷ [] }

abbrev pub left : Ledger → Ledger
left l = record l { live = but_last l.live }

-- an assignment to the variable in this slot of the block that stands there
abbrev pub noted : Ledger → Option Home → ℕ → ℕ → Ledger
noted l None slot event = l
noted l (Some (InFrame k)) slot event = record l { live = change_at l.live k (λ x. record x { last = put slot event x.last }) }
noted l (Some (InMain source)) slot event = record l { mains = put_in source slot event l.mains }

-- an assignment to what a name means to the innermost activation
abbrev pub assigned : Ledger → Meaning → ℕ → Ledger
assigned l (Local up slot) event = noted l (slice_get (blocks_seen (seen_by l) 0) up) slot event
assigned l _ event = l

-- an end: that of an assignment with a value is a write
abbrev pub written : Program → Ledger → Mark → Ledger
written p l m = if is_return m.kind && has_tag (node_at p m.node).tags WriteVariable then assigned l (node_at p m.node).meaning m.number else l

-- an entry, an Enter or an end, of a function or procedure or not
abbrev pub stepped_by : Bool → Bool → Program → Ledger → Mark → Ledger
stepped_by true true p l m = entered p l m
stepped_by true false p l m = l
stepped_by false true p l m = left (written p l m)
stepped_by false false p l m = written p l m

abbrev pub stepped : Program → Ledger → Mark → Ledger
stepped p l m = stepped_by (is_enter m.kind) (is_root_node p m.node) p l m

-- whether an entry has happened when event e is shown: an earlier one, or an Enter at e itself
abbrev pub is_before : ℕ → Mark → Bool
is_before e m = nat_lt m.number e || ((m.number == e) && is_enter m.kind)

-- the ledger when event e is shown, where these entries come after it
abbrev pub ledger_at : Program → ℕ → Ledger → List Mark → Ledger
ledger_at p e l [] = l
ledger_at p e l (m ∷ ms) = if is_before e m then ledger_at p e (stepped p l m) ms else l

-- ---- what is read from it

abbrev pub by_or : Origin → Option ℕ → Origin
by_or first None = first
by_or first (Some e) = By e

abbrev pub origin_in : Option Live → ℕ → Origin
origin_in None slot = Initial
origin_in (Some x) slot = by_or (Start x.start) (latest slot x.last)

abbrev pub origin_there : Ledger → Option Home → ℕ → Origin
origin_there l None slot = Initial
origin_there l (Some (InFrame k)) slot = origin_in (slice_get l.live k) slot
origin_there l (Some (InMain source)) slot = by_or Initial (latest_in source slot l.mains)

-- of the variables that the i-th frame of an event shows, where 0 is the innermost
abbrev pub origins_read : Ledger → ℕ → List Visible → List Origin
origins_read l i sees = map (λ x. origin_there l (slice_get (blocks_seen (seen_by l) i) x.up) x.slot) sees

-- from frame i on; `sees` are the lists of shown variables, frame by frame
abbrev pub frames_read : Ledger → ℕ → List (List Visible) → List (List Origin)
frames_read l i [] = []
frames_read l i (x ∷ xs) = origins_read l i x ∷ frames_read l (i + 1) xs
