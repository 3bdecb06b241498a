-- Definition: the tables of a plan: the members of each object, in order, and the names that the object may have. A
-- list has at least the first and at most the second number of entries.
use Rattle.std.specs.Prelude.{ℕ, ◌==◌, if◌then◌else◌, List, [], ◌∷◌, length, Option, None, Some, Ok, codes, nat_lt, false}
use Rattle.serde_json.specs.Data.{Data, null, boolean, number, string, array, object, Items, no_items, item}
use Rattle.pd_values.specs.declared.value.Value.{Value}
use Rattle.pd_values.specs.declared.value.Value.TheVariants as values
use Rattle.pd_plan.specs.declared.refusal.PlanRule.TheVariants.{WrongShape, OutOfRange, BadCondition}
use Rattle.pd_plan.specs.declared.condition.Condition.{Condition}
use Rattle.pd_plan.specs.declared.plan.Language.{Language}
use Rattle.pd_plan.specs.declared.plan.Language.TheVariants.{Sl, Pl0}
use Rattle.pd_values.specs.declared.value.Tag.{Tag}
use Rattle.pd_values.specs.declared.value.Tag.TheVariants.{Statement, Call, Root, RootBody, Expression, ReadVariable, WriteVariable, AlwaysHalt}
use Rattle.pd_plan.specs.declared.plan.SourceSpec.{SourceSpec}
use Rattle.pd_plan.specs.declared.plan.ExportSpec.{ExportSpec}
use Rattle.pd_plan.specs.declared.plan.ContextSpec.{ContextSpec}
use Rattle.pd_plan.specs.declared.plan.LineRange.{LineRange}
use Rattle.pd_plan.specs.declared.plan.Filter.{Filter}
use Rattle.pd_plan.specs.declared.plan.BindingSpec.{BindingSpec}
use Rattle.pd_plan.specs.declared.plan.BindingSpec.TheVariants as bindings
use Rattle.pd_plan.specs.declared.plan.Act.{Act}
use Rattle.pd_plan.specs.declared.plan.Act.TheVariants.{Attach, Dispose, Enable, Disable}
use Rattle.pd_plan.specs.declared.plan.Action.{Action}
use Rattle.pd_plan.specs.declared.plan.Action.TheVariants as actions
use Rattle.pd_plan.specs.declared.plan.Resume.{Resume}
use Rattle.pd_plan.specs.declared.plan.Resume.TheVariants.{Continue, Into, Over, Out, Reenter, Return, Kill}
use Rattle.pd_plan.specs.declared.plan.Answer.{Answer}
use Rattle.pd_plan.specs.declared.plan.Script.{Script}
use Rattle.pd_plan.specs.declared.plan.Plan.{Plan}
use Rattle.pd_condition.specs.Found.{condition_in}
use Rattle.pd_plan_json.specs.declared.bindings.Kind.{Kind}
use Rattle.pd_plan_json.specs.declared.bindings.Kind.TheVariants as kinds
use Rattle.pd_plan_json.specs.Reading.{Read, ◌>>=◌, ◌>>◌, refuse, refuse_if, under, entry_step}
use Rattle.pd_plan_json.specs.Shapes.{outside, whole, signed, truth, chars, items, an_object, number_in, reference, text_in, meaning, list_in, required, optional, with_default, table_of, one_of, optional_as, or_else}

-- a name: a text of 1 to 255 bytes
abbrev pub name : Data → Read (List ℕ)
name = text_in 1 255

-- the language of a word
abbrev pub language_of : List ℕ → Read Language
language_of = meaning ((codes "sl", Ok Sl) ∷ (codes "pl0", Ok Pl0) ∷ [])

-- a language
unfoldable pub language : Data → Read Language
language d = chars d >>= language_of

-- the members of a source
unfoldable pub source_members : Data → Read SourceSpec
source_members d = do
  called ← required (codes "name") name d
  language ← required (codes "language") language d
  Ok (record { name = called; language = language })

-- a source
abbrev pub source : Data → Read SourceSpec
source = table_of (codes "name" ∷ codes "language" ∷ []) source_members

-- the members of an export
unfoldable pub export_members : Data → Read ExportSpec
export_members d = do
  called ← required (codes "name") name d
  source ← required (codes "source") reference d
  procedure ← required (codes "item") name d
  Ok (record { name = called; source = source; item = procedure })

-- an export
abbrev pub export : Data → Read ExportSpec
export = table_of (codes "name" ∷ codes "source" ∷ codes "item" ∷ []) export_members

-- the members of a context
unfoldable pub context_members : Data → Read ContextSpec
context_members d = do
  source ← required (codes "source") reference d
  entry ← with_default (codes "entry") (codes "main") name d
  fuel ← with_default (codes "fuel") 1000000 (number_in 1 16777216) d
  Ok (record { source = source; entry = entry; fuel = fuel })

-- a context
abbrev pub context : Data → Read ContextSpec
context = table_of (codes "source" ∷ codes "entry" ∷ codes "fuel" ∷ []) context_members

-- the tag of a word
abbrev pub tag_of : List ℕ → Read Tag
tag_of = meaning ((codes "Statement", Ok Statement) ∷ (codes "Call", Ok Call) ∷ (codes "Root", Ok Root) ∷ (codes "RootBody", Ok RootBody) ∷ (codes "Expression", Ok Expression) ∷ (codes "ReadVariable", Ok ReadVariable) ∷ (codes "WriteVariable", Ok WriteVariable) ∷ (codes "AlwaysHalt", Ok AlwaysHalt) ∷ [])

-- a tag
unfoldable pub tag : Data → Read Tag
tag d = chars d >>= tag_of

-- just two whole numbers
abbrev pub pair : Items → Read (ℕ × ℕ)
pair (item d (item e no_items)) = do
  a ← whole d
  b ← whole e
  Ok (a, b)
pair _ = refuse WrongShape

-- a range of lines: a pair in order, then each line in its range
unfoldable pub lines : Data → Read LineRange
lines d = do
  ds ← items d
  p ← pair ds
  refuse_if (nat_lt p.1 p.0) OutOfRange
  under (entry_step 0) (refuse_if (outside 1 1048577 p.0) OutOfRange)
  under (entry_step 1) (refuse_if (outside 1 1048577 p.1) OutOfRange)
  Ok (record { from = p.0; to = p.1 })

-- the members of a filter
unfoldable pub filter_members : Data → Read Filter
filter_members d = do
  tags ← with_default (codes "tags") [] (list_in 1 64 tag) d
  not_tags ← with_default (codes "not_tags") [] (list_in 1 64 tag) d
  sources ← with_default (codes "sources") [] (list_in 1 64 reference) d
  ranges ← with_default (codes "lines") [] (list_in 1 64 lines) d
  roots ← with_default (codes "roots") [] (list_in 1 64 name) d
  Ok (record { tags = tags; not_tags = not_tags; sources = sources; lines = ranges; roots = roots })

-- a filter
abbrev pub filter : Data → Read Filter
filter = table_of (codes "tags" ∷ codes "not_tags" ∷ codes "sources" ∷ codes "lines" ∷ codes "roots" ∷ []) filter_members

-- the condition, if the text is one
abbrev pub or_bad : Option Condition → Read Condition
or_bad None = refuse BadCondition
or_bad (Some c) = Ok c

-- the condition of a breakpoint: a text of 1 to 1000 bytes that is one
unfoldable pub condition : Data → Read Condition
condition d = do
  s ← chars d
  refuse_if (outside 1 1000 (length s)) OutOfRange
  or_bad (condition_in s)

-- the members of an observer
unfoldable pub observer_members : Data → Read BindingSpec
observer_members d = do
  f ← required (codes "filter") filter d
  Ok (bindings.Observe f)

-- an observer
abbrev pub observer : Data → Read BindingSpec
observer = table_of (codes "kind" ∷ codes "filter" ∷ []) observer_members

-- the members of a breakpoint
unfoldable pub breakpoint_members : Data → Read BindingSpec
breakpoint_members d = do
  session ← required (codes "session") reference d
  source ← required (codes "source") reference d
  line ← required (codes "line") (number_in 1 1048577) d
  test ← optional (codes "condition") condition d
  ignore ← with_default (codes "ignore") 0 (number_in 0 1000000) d
  one_shot ← with_default (codes "one_shot") false truth d
  Ok (bindings.Break (record { session = session; source = source; line = line; condition = test; ignore = ignore; one_shot = one_shot }))

-- a breakpoint
abbrev pub breakpoint : Data → Read BindingSpec
breakpoint = table_of (codes "kind" ∷ codes "session" ∷ codes "source" ∷ codes "line" ∷ codes "condition" ∷ codes "ignore" ∷ codes "one_shot" ∷ []) breakpoint_members

-- the members of a pause
unfoldable pub pause_members : Data → Read BindingSpec
pause_members d = do
  session ← required (codes "session") reference d
  Ok (bindings.Pause session)

-- a pause
abbrev pub pause : Data → Read BindingSpec
pause = table_of (codes "kind" ∷ codes "session" ∷ []) pause_members

-- the kind of a word
abbrev pub kind_of : List ℕ → Read Kind
kind_of = meaning ((codes "observe", Ok kinds.Observe) ∷ (codes "break", Ok kinds.Break) ∷ (codes "pause", Ok kinds.Pause) ∷ [])

-- the kind of a binding
unfoldable pub kind : Data → Read Kind
kind d = chars d >>= kind_of

-- a binding of this kind
abbrev pub binding_of : Kind → Data → Read BindingSpec
binding_of kinds.Observe = observer
binding_of kinds.Break = breakpoint
binding_of kinds.Pause = pause

-- a binding, its kind first
unfoldable pub binding : Data → Read BindingSpec
binding d = do
  an_object d
  k ← required (codes "kind") kind d
  binding_of k d

-- what is done to a binding
unfoldable pub first_act : Data → Read Act
first_act d =
    or_else (optional_as Attach (codes "attach") reference d)
    (or_else (optional_as Dispose (codes "dispose") reference d)
    (or_else (optional_as Enable (codes "enable") reference d)
    (or_else (optional_as Disable (codes "disable") reference d)
    (refuse WrongShape))))

-- an act of a plan of the version
unfoldable pub act : ℕ → Data → Read Act
act version = if version == 1 then one_of (codes "attach" ∷ codes "dispose" ∷ []) first_act else one_of (codes "attach" ∷ codes "dispose" ∷ codes "enable" ∷ codes "disable" ∷ []) first_act

-- the members of a wait for answers
unfoldable pub wait_members : Data → Read Action
wait_members d = do
  n ← required (codes "count") (number_in 1 1000000) d
  turns ← required (codes "turns") (number_in 1 1000000) d
  Ok (actions.Await n turns)

-- a wait for answers
abbrev pub wait : Data → Read Action
wait = table_of (codes "count" ∷ codes "turns" ∷ []) wait_members

-- what a session does: a wait, or else an act
unfoldable pub first_action : Data → Read Action
first_action d = or_else (optional (codes "await") wait d) (first_act d >>= λ a. Ok (actions.Act a))

-- an action of a plan of the version
unfoldable pub action : ℕ → Data → Read Action
action version = if version == 1 then one_of (codes "attach" ∷ codes "dispose" ∷ codes "await" ∷ []) first_action else one_of (codes "attach" ∷ codes "dispose" ∷ codes "await" ∷ codes "enable" ∷ codes "disable" ∷ []) first_action

-- the way to go on that is a word
abbrev pub resume_of : List ℕ → Read Resume
resume_of = meaning ((codes "continue", Ok Continue) ∷ (codes "kill", Ok Kill) ∷ [])

-- the value that a call is told to give
unfoldable pub given : Data → Read Value
given null = Ok values.Null
given (boolean b) = Ok (values.Bool b)
given (number n) = do
  z ← signed (number n)
  Ok (values.Number z)
given (string s) = do
  t ← name (string s)
  Ok (values.Text t)
given (array ds) = refuse WrongShape
given (object ms) = refuse WrongShape

-- just two entries: a frame, and the value that its call gives
abbrev pub frame_and_value : Items → Read Resume
frame_and_value (item d (item e no_items)) = do
  k ← under (entry_step 0) (number_in 0 2000 d)
  v ← under (entry_step 1) (given e)
  Ok (Return k v)
frame_and_value _ = refuse WrongShape

-- an early return: a pair of a frame and the value that its call gives
unfoldable pub returning : Data → Read Resume
returning d = do
  ds ← items d
  frame_and_value ds

-- a number of steps
abbrev pub steps : Data → Read ℕ
steps = number_in 1 1000000

-- the way to go on that is an object: the first of its members that is there
unfoldable pub first_step : Data → Read Resume
first_step d =
    or_else (optional_as Into (codes "into") steps d)
    (or_else (optional_as Over (codes "over") steps d)
    (or_else (optional_as Out (codes "out") steps d)
    (or_else (optional_as Reenter (codes "reenter") (number_in 0 2000) d)
    (or_else (optional (codes "return") returning d)
    (refuse WrongShape)))))

-- how a context goes on, as an object of a plan of the version
unfoldable pub stepping : ℕ → Data → Read Resume
stepping version = if version == 1 then one_of (codes "into" ∷ codes "over" ∷ codes "out" ∷ codes "reenter" ∷ []) first_step else one_of (codes "into" ∷ codes "over" ∷ codes "out" ∷ codes "reenter" ∷ codes "return" ∷ []) first_step

-- a way to go on: a word, or an object of a plan of this version
unfoldable pub resume : ℕ → Data → Read Resume
resume version (string s) = resume_of s
resume version d = stepping version d

-- the members of an answer
unfoldable pub answer_members : ℕ → Data → Read Answer
answer_members version d = do
  first ← with_default (codes "first") [] (list_in 0 64 (act version)) d
  next ← required (codes "then") (resume version) d
  Ok (record { first = first; resume = next })

-- an answer
abbrev pub answer : ℕ → Data → Read Answer
answer version = table_of (codes "first" ∷ codes "then" ∷ []) (answer_members version)

-- the members of a session
unfoldable pub session_members : ℕ → Data → Read Script
session_members version d = do
  before ← with_default (codes "before") [] (list_in 0 4096 reference) d
  acts ← with_default (codes "actions") [] (list_in 0 1000 (action version)) d
  answers ← with_default (codes "answers") [] (list_in 0 10000 (answer version)) d
  Ok (record { before = before; actions = acts; answers = answers })

-- a session
abbrev pub session : ℕ → Data → Read Script
session version = table_of (codes "before" ∷ codes "actions" ∷ codes "answers" ∷ []) (session_members version)

-- the members of a plan
unfoldable pub plan_members : Data → Read Plan
plan_members d = do
  version ← required (codes "version") (number_in 1 2) d
  sources ← required (codes "sources") (list_in 1 16 source) d
  exports ← with_default (codes "exports") [] (list_in 0 256 export) d
  contexts ← required (codes "contexts") (list_in 1 16 context) d
  observed ← with_default (codes "bindings") [] (list_in 0 4096 binding) d
  sessions ← with_default (codes "sessions") [] (list_in 0 16 (session version)) d
  Ok (record { sources = sources; exports = exports; contexts = contexts; bindings = observed; sessions = sessions })

-- a plan
unfoldable pub plan : Data → Read Plan
plan d = table_of (codes "version" ∷ codes "sources" ∷ codes "exports" ∷ codes "contexts" ∷ codes "bindings" ∷ codes "sessions" ∷ []) plan_members d
