-- Definition: the JSON transcript of a report, as a JSON value.
use Rattle.std.specs.Prelude.{ℕ, suc, Bool, List, [], ◌∷◌, ◌++◌, map, flat_map, codes, slice_get, slice_index, slice_index_or, Option, None, Some}
use Rattle.serde_json.specs.Data.{unsigned, Data, null, number, string, array, object, Members, no_members, member}
use Rattle.serde_json.specs.View.{items_of}
use Rattle.serde_json.specs.Written.{compact_text}
use Rattle.pd_values.specs.Operators.{show}
use Rattle.pd_tree.specs.Kinds.{root_name_of}
use Rattle.pd_tree.specs.Program.{Program, node_at, item_names}
use Rattle.pd_machine.specs.declared.event.EventKind.{EventKind}
use Rattle.pd_machine.specs.declared.event.EventKind.TheVariants.{Enter, Return as Gave, Leave}
use Rattle.pd_plan.specs.declared.plan.ContextSpec.{ContextSpec}
use Rattle.pd_plan.specs.declared.plan.BindingSpec.{BindingSpec}
use Rattle.pd_plan.specs.declared.plan.BindingSpec.TheVariants.{Observe, Break, Pause}
use Rattle.pd_plan.specs.declared.plan.Plan.{Plan}
use Rattle.pd_break.specs.declared.resolving.Resolved.{Resolved}
use Rattle.pd_break.specs.declared.resolving.Resolved.TheVariants.{Line, Unresolved}
use Rattle.pd_break.specs.Resolving.{resolved}
use Rattle.pd_log.specs.declared.Entry.{Entry}
use Rattle.pd_board.specs.declared.answers.ActResult.{ActResult}
use Rattle.pd_board.specs.declared.answers.ActResult.TheVariants as acts
use Rattle.pd_board.specs.Tally.{no_tally}
use Rattle.pd_suspend.specs.declared.suspension.Reason.{Reason}
use Rattle.pd_suspend.specs.declared.suspension.Variable.{Variable}
use Rattle.pd_suspend.specs.declared.suspension.FrameView.{FrameView}
use Rattle.pd_suspend.specs.declared.suspension.Suspension.{Suspension}
use Rattle.pd_suspend.specs.declared.context.ContextRecord.{ContextRecord}
use Rattle.pd_session.specs.declared.record.ActionResult.{ActionResult}
use Rattle.pd_session.specs.declared.record.SessionRecord.{SessionRecord}
use Rattle.pd_run.specs.declared.report.Report.{Report}
use Rattle.pd_report.specs.Lines.{line_end}
use Rattle.pd_report.specs.Words.{kind_text, cause_text, end_text, position_text}
use Rattle.pd_report.specs.Stops.{attach_name, act_text, action_text, anchor_name, reason_text, resume_text}
use Rattle.pd_report.specs.Logs.{log_of}
use Rattle.pd_report.specs.Transcript.{source_name, state_name}

-- ---- JSON values

-- a number
abbrev pub count_json : ℕ → Data
count_json n = number (unsigned n)

-- the values of a list
abbrev pub list_json : List Data → Data
list_json values = array (items_of values)

-- an object's members, in the byte order of their names
abbrev pub members : List (List ℕ × Data) → Members
members [] = no_members
members (m ∷ ms) = member m.0 m.1 (members ms)

abbrev pub object_json : List (List ℕ × Data) → Data
object_json ms = object (members ms)

-- the values of these, in order, each with its number, from this one on
abbrev pub numbered_json : {A : Type 0} → (ℕ → A → Data) → ℕ → List A → List Data
numbered_json value n [] = []
numbered_json value n (x ∷ xs) = value n x ∷ numbered_json value (suc n) xs

-- ---- bindings

-- what a Return gave, and why a Leave came
abbrev pub detail_json : List (List ℕ) → EventKind → Data
detail_json names Enter = null
detail_json names (Gave value) = string (show names value)
detail_json names (Leave cause) = string (cause_text cause)

-- an event in the log: its context, its number, its place, its kind, its node and its detail
abbrev pub entry_json : List (List ℕ) → Entry → Data
entry_json names e = list_json (
    count_json e.context ∷ count_json e.event ∷ count_json e.place ∷ string (kind_text e.kind) ∷ count_json e.node ∷ detail_json names e.kind ∷ [])

-- the word of what a binding is
abbrev pub kind_word : BindingSpec → List ℕ
kind_word (Observe filter) = codes "observe"
kind_word (Break spec) = codes "break"
kind_word (Pause session) = codes "pause"

-- the line that was found; null where there is none
abbrev pub line_in : Resolved → Data
line_in Unresolved = null
line_in (Line line) = count_json line

-- the line on which a breakpoint stops
abbrev pub line_json : Program → BindingSpec → Data
line_json p (Break spec) = line_in (resolved p spec.source spec.line)
line_json p spec = null

-- the binding of this number, with its log, merged or context by context
abbrev pub binding_json : Program → Report → Bool → ℕ → BindingSpec → Data
binding_json p r merged n spec = object_json (
    (codes "count", count_json (slice_index_or r.tally.bindings n no_tally).count)
    ∷ (codes "kind", string (kind_word spec))
    ∷ (codes "line", line_json p spec)
    ∷ (codes "log", list_json (map (entry_json (item_names p)) (log_of merged n r.contexts)))
    ∷ (codes "state", string (state_name (slice_index_or r.tally.bindings n no_tally).state)) ∷ [])

-- ---- suspensions

-- an act with what it was answered, as the text has it
abbrev pub act_json : ActResult → Data
act_json act = string (act_text act)

abbrev pub reason_json : Reason → Data
reason_json reason = string (reason_text reason)

-- a variable: its name and its value
abbrev pub variable_json : List (List ℕ) → Variable → Data
variable_json names v = list_json (string v.name ∷ string (show names v.value) ∷ [])

-- a frame: the name of its function, where it stands, and its variables
abbrev pub frame_json : Program → FrameView → Data
frame_json p f = list_json (string (root_name_of (node_at p f.root).kind) ∷ string (position_text p f.at) ∷ list_json (map (variable_json (item_names p)) f.variables) ∷ [])

-- a suspension with these acts, frames, reasons and way to go on
abbrev pub stop_object : Suspension → Data → Data → Data → Data → Data
stop_object x acts frames reasons resume = object_json (
    (codes "acts", acts)
    ∷ (codes "anchor", string (anchor_name x.anchor))
    ∷ (codes "answer", count_json x.answer)
    ∷ (codes "event", count_json x.event)
    ∷ (codes "frames", frames)
    ∷ (codes "node", count_json x.node)
    ∷ (codes "reasons", reasons)
    ∷ (codes "session", count_json x.session)
    ∷ (codes "then", resume) ∷ [])

-- a suspension
abbrev pub stop_json : Program → Suspension → Data
stop_json p x =
    stop_object x (list_json (map act_json x.acts)) (list_json (map (frame_json p) x.frames)) (list_json (map reason_json x.reasons))
    (string (resume_text (item_names p) x.resume))

-- ---- contexts

abbrev pub entry_of : Option ContextSpec → List ℕ
entry_of None = []
entry_of (Some spec) = spec.entry

abbrev pub source_of : Plan → Option ContextSpec → List ℕ
source_of plan None = []
source_of plan (Some spec) = source_name (slice_get plan.sources spec.source)

abbrev pub context_json : Plan → Program → ℕ → ContextRecord → Data
context_json plan p n c = object_json (
    (codes "end", string (end_text (item_names p) c.«end»))
    ∷ (codes "entry", string (entry_of (slice_get plan.contexts n)))
    ∷ (codes "events", count_json c.events)
    ∷ (codes "fuel", count_json c.used)
    ∷ (codes "output", string c.output)
    ∷ (codes "source", string (source_of plan (slice_get plan.contexts n)))
    ∷ (codes "stops", list_json (map (stop_json p) c.stops)) ∷ [])

-- ---- sessions

-- the answer to an attach of a `before` list; such a list has no other acts
abbrev pub before_json : ActResult → List Data
before_json (acts.Attached binding answer) = string (attach_name answer) ∷ []
before_json _ = []

-- an action with what came of it, as the text has it
abbrev pub action_json : ActionResult → Data
action_json action = string (action_text action)

abbrev pub session_json : List ℕ → ℕ → SessionRecord → Data
session_json answers n s = object_json (
    (codes "actions", list_json (map action_json s.actions))
    ∷ (codes "answers", count_json (slice_index answers n))
    ∷ (codes "before", list_json (flat_map before_json s.before)) ∷ [])

-- ---- the whole

abbrev pub report_json : Plan → Program → Report → Bool → Data
report_json plan p r merged = object_json (
    (codes "bindings", list_json (numbered_json (binding_json p r merged) 0 plan.bindings))
    ∷ (codes "contexts", list_json (numbered_json (context_json plan p) 0 r.contexts))
    ∷ (codes "sessions", list_json (numbered_json (session_json r.tally.answers) 0 r.sessions)) ∷ [])

-- the text: compact JSON, and a line end
abbrev pub json_of : Plan → Program → Report → Bool → List ℕ
json_of plan p r merged = compact_text (report_json plan p r merged) ++ line_end
