-- Definition: the texts of ends, places and events.
use Rattle.std.specs.Prelude.{ℕ, List, [], ◌∷◌, codes}
use Rattle.std.specs.Fmt.{decimal}
use Rattle.pd_values.specs.declared.value.Fault.{Fault}
use Rattle.pd_values.specs.declared.value.Fault.TheVariants.{Overflow, DivZero, WrongKind, Undefined, Depth, TextLong, OutputLong, CrossType, CrossArity}
use Rattle.pd_values.specs.declared.value.End.{End}
use Rattle.pd_values.specs.declared.value.End.TheVariants.{Done, Faulted, Exhausted, Killed}
use Rattle.pd_values.specs.Operators.{show}
use Rattle.pd_tree.specs.Program.{Program, node_at, item_names}
use Rattle.pd_machine.specs.declared.event.Cause.{Cause}
use Rattle.pd_machine.specs.declared.event.Cause.TheVariants.{Returning, Breaking, Continuing, Faulting, Unwinding}
use Rattle.pd_machine.specs.declared.event.EventKind.{EventKind}
use Rattle.pd_machine.specs.declared.event.EventKind.TheVariants.{Enter, Return as Gave, Leave}
use Rattle.pd_log.specs.declared.Entry.{Entry}
use Rattle.pd_report.specs.Lines.{joined, line_end}

-- ---- ends

-- the word of a fault
abbrev pub fault_name : Fault → List ℕ
fault_name Overflow = codes "Overflow"
fault_name DivZero = codes "DivZero"
fault_name WrongKind = codes "WrongKind"
fault_name Undefined = codes "Undefined"
fault_name Depth = codes "Depth"
fault_name TextLong = codes "TextLong"
fault_name OutputLong = codes "OutputLong"
fault_name CrossType = codes "CrossType"
fault_name CrossArity = codes "CrossArity"

-- how a run ended; `names` are those of the items
abbrev pub end_text : List (List ℕ) → End → List ℕ
end_text names (Done value) = joined (codes "done " ∷ show names value ∷ [])
end_text names (Faulted fault node) = joined (codes "fault " ∷ fault_name fault ∷ codes " " ∷ decimal node ∷ [])
end_text names Exhausted = codes "exhausted"
end_text names Killed = codes "killed"

-- ---- places and events

-- where a node starts: its source, line and column
abbrev pub position_text : Program → ℕ → List ℕ
position_text p n = joined (decimal (node_at p n).source ∷ codes ":" ∷ decimal (node_at p n).line ∷ codes ":" ∷ decimal (node_at p n).column ∷ [])

-- the word of an event
abbrev pub kind_text : EventKind → List ℕ
kind_text Enter = codes "enter"
kind_text (Gave value) = codes "return"
kind_text (Leave cause) = codes "leave"

-- why an activation ended without a value
abbrev pub cause_text : Cause → List ℕ
cause_text Returning = codes "returning"
cause_text Breaking = codes "breaking"
cause_text Continuing = codes "continuing"
cause_text (Faulting fault) = joined (codes "fault " ∷ fault_name fault ∷ [])
cause_text Unwinding = codes "unwinding"

-- what a Return gave, and why a Leave came
abbrev pub detail_text : List (List ℕ) → EventKind → List ℕ
detail_text names Enter = []
detail_text names (Gave value) = joined (codes " " ∷ show names value ∷ [])
detail_text names (Leave cause) = joined (codes " " ∷ cause_text cause ∷ [])

-- an event in the log: its context, its number, its place, its kind, its node with the position, and its detail
abbrev pub entry_text : Program → Entry → List ℕ
entry_text p e = joined (
    codes "  " ∷ decimal e.context ∷ codes " " ∷ decimal e.event ∷ codes " " ∷ decimal e.place ∷ codes " " ∷ kind_text e.kind
    ∷ codes " " ∷ decimal e.node ∷ codes " " ∷ position_text p e.node ∷ detail_text (item_names p) e.kind ∷ line_end ∷ [])
