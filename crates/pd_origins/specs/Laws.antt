-- Definition: laws on last writes, as facts that a contract can promise.
use Rattle.std.specs.Prelude.{◌≡◌, ℕ, suc, ◌||◌, ◌&&◌, Bool, true, false, Some, List, [], ◌∷◌, map, length, take, slice_get}
use Rattle.std.specs.List.{All, range_with_len}
use Rattle.pd_values.specs.declared.value.Value.{Value}
use Rattle.pd_values.specs.declared.value.Tag.TheVariants.{WriteVariable}
use Rattle.pd_tree.specs.declared.kind.Visible.{Visible}
use Rattle.pd_tree.specs.Program.{Program, node_at, has_tag}
use Rattle.pd_machine.specs.declared.event.EventKind.TheVariants.{Return as Gave}
use Rattle.pd_machine.specs.Events.{Told, frame_of, scene_value}
use Rattle.pd_meaning.specs.Meaning.{Verdicts, meaning_of}
use Rattle.pd_running.specs.Running.{is_root_node, marks_where, moments}
use Rattle.pd_running.specs.Nested.{IsNested}
use Rattle.pd_nesting.specs.Nesting.{AreRooted}
use Rattle.pd_framing.specs.Framing.{IsFramed, is_assignment, RunsParts}
use Rattle.pd_origins.specs.declared.Origin.TheVariants.{By}
use Rattle.pd_origins.specs.Origins.{is_return, place_seen, origin_of, shown, origins_at}
use Rattle.pd_origins.specs.Ledger.{no_ledger, ledger_at, frames_read}

-- whether a node is a function, a procedure or an assignment: the nodes that the log is about
abbrev pub is_noted : Program → ℕ → Bool
is_noted p n = is_root_node p n || has_tag (node_at p n).tags WriteVariable

-- the variables that each frame of an event shows, the innermost first
abbrev pub shown_at : Program → Told → List (List Visible)
shown_at p t = map (λ i. shown p (frame_of t.scene.frames i)) (range_with_len 0 (length t.scene.frames))

-- of nested events, each with the frames of what runs at it, the ledger over the log of all events of functions, procedures and
-- assignments has at each event the origins of the variables that are shown there
abbrev pub LedgersTell : Type 0
LedgersTell = (p : Program) (events : List Told) → IsNested [] 0 events → All (λ (m : List Told × Told). IsFramed p m.0 m.1) (moments events)
    → (e : ℕ) (t : Told) → slice_get events e ≡ Some t
    → frames_read (ledger_at p e no_ledger (marks_where (is_noted p) events)) 0 (shown_at p t) ≡ origins_at p (take e events) t

-- each assignment has its tag, as no other node, and its right side tells its value
pub record IsTold (p : Program) (n : ℕ) : Type 0 where
  pub tag : has_tag (node_at p n).tags WriteVariable ≡ is_assignment (node_at p n).kind
  pub right : is_assignment (node_at p n).kind ≡ true → (m : ℕ) → (node_at p n).children ≡ m ∷ [] → (node_at p m).tags ≡ [] → ⊥

-- whether an event is the Return of an assignment
abbrev pub is_write : Program → Told → Bool
is_write p t = is_return t.event.kind && has_tag (node_at p t.event.node).tags WriteVariable

-- the event before w gave this value, at the right side of the assignment that ended at w
pub record IsGivenBefore (p : Program) (events : List Told) (w : ℕ) (a : Value) : Type 0 where
  pub before : ℕ
  pub next : w ≡ suc before
  pub right : Told
  pub at : slice_get events before ≡ Some right
  pub gave : right.event.kind ≡ Gave a
  pub write : Told
  pub write_at : slice_get events w ≡ Some write
  pub side : (node_at p write.event.node).children ≡ right.event.node ∷ []

-- where a write at w is the last one of a variable that a frame sees at an event, the event before w gave the value that is seen. An
-- assignment changes its variable before its Return is told, so at that event the value is a later one
abbrev pub WritesAreShown : Type 0
WritesAreShown = (p : Program) (v : Verdicts) (fuel entry : ℕ) → AreRooted p → RunsParts p → ((n : ℕ) → IsTold p n) → IsNested [] 0 (meaning_of p entry fuel v).events
    → (e : ℕ) (t : Told) → slice_get (meaning_of p entry fuel v).events e ≡ Some t → is_write p t ≡ false
    → (i up slot w : ℕ) → origin_of p (take e (meaning_of p entry fuel v).events) (place_seen p (take e (meaning_of p entry fuel v).events) t i up slot) ≡ By w
    → (a : Value) → scene_value t.scene i up slot ≡ Some a → IsGivenBefore p (meaning_of p entry fuel v).events w a
