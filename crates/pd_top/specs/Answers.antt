-- Definition: what the answers of the top call say.
use Rattle.std.specs.Prelude.{◌≡◌, ◌<◌, ◌≤◌, ◌⊎◌, ℕ, List, [], ◌∷◌, ◌++◌, length, take, Option, Some, Bool, true, false, if◌then◌else◌, codes, Ok, Err}
use Rattle.std.specs.Io.KnownBytes.{append_known}
use Rattle.std.specs.List.{list_all}
use Rattle.std.specs.Fmt.{decimal}
use Rattle.pd_outside.specs.Files.{Given}
use Rattle.pd_values.specs.declared.value.End.{End}
use Rattle.pd_values.specs.declared.value.End.TheVariants.{Done}
use Rattle.pd_sections.specs.declared.Rule.{Rule}
use Rattle.pd_sections.specs.declared.Rule.TheVariants.{BadByte, OpenText, OpenComment, Unexpected, LiteralTooLarge, Undeclared, NotAssignable, NotAProcedure, NotAValue, Doubled, TooDeep, TooManyNodes}
use Rattle.pd_plan.specs.declared.plan.Plan.{Plan}
use Rattle.pd_plan.specs.declared.refusal.PlanRule.{PlanRule}
use Rattle.pd_plan.specs.declared.refusal.PlanRule.TheVariants as plans
use Rattle.pd_plan.specs.declared.refusal.PlanRefusal.{PlanRefusal}
use Rattle.pd_tree.specs.Program.{Program}
use Rattle.pd_load.specs.declared.refusal.LoadRefusal.{LoadRefusal}
use Rattle.pd_load.specs.declared.refusal.LoadCause.{LoadCause}
use Rattle.pd_load.specs.declared.refusal.LoadCause.TheVariants.{Spelling, NoSuchItem, DoubledExport, NoSuchEntry, NotUtf8}
use Rattle.pd_run.specs.declared.report.Report.{Report}
use Rattle.pd_run.specs.Run.{IsRun}
use Rattle.pd_report.specs.Lines.{joined}
use Rattle.pd_report.specs.Transcript.{text_of, check_line}
use Rattle.pd_report.specs.Json.{json_of}
use Rattle.pd_gen.specs.Summing.{summary_of, summary_text}
use Rattle.pd_coverage.specs.Report.{IsCoverage}
use Rattle.pd_coverage.specs.Text.{coverage_text}
use Rattle.pd_calltree.specs.Results.{AreTrees, AreSummedIn}
use Rattle.pd_calltree.specs.Text.{calltree_text}
use Rattle.pd_words.specs.declared.asked.Command.{Command}
use Rattle.pd_words.specs.declared.asked.Command.TheVariants.{Trace, Run, Check, Gen, Coverage, CallTree}
use Rattle.pd_words.specs.declared.asked.WordFault.{WordFault}
use Rattle.pd_words.specs.declared.asked.WordFault.TheVariants.{NoCommand, UnknownCommand, Refused as WordsRefused}
use Rattle.pd_words.specs.Words.{command_of}
use Rattle.pd_top.specs.declared.outcome.Unwritten.{Unwritten}
use Rattle.pd_top.specs.declared.outcome.Unwritten.TheVariants as unwritten
use Rattle.pd_top.specs.declared.outcome.Outcome.{Outcome}
use Rattle.pd_top.specs.declared.outcome.Outcome.TheVariants.{Ran, Checked, Generated, Covered, Treed, Usage, Unreadable, TooLong, PlanRefused, NoObserver, SourceRefused, SinkFailed, Memory}
use Rattle.pd_top.specs.Files.{Files, Held, IsContent, IsRead, IsFault}
use Rattle.pd_top.specs.Causes.{Cause, too_long, plan_refused, no_observer, source_refused, accepted, IsReached, IsCause}

-- ---- what was read and written

-- the words; what the library holds, where it tells that; its answers and its faults before and after, and the name of the last fault
pub record Reading : Type 0 where
  pub words : List (List ℕ)
  pub held : Held
  pub given : List Given
  pub gives : List Given
  pub before : ℕ
  pub after : ℕ
  pub last : Option (List ℕ)

-- what is read of these words and of a library with these meanings, from one moment to another
abbrev pub reading_of : {Library : Type 0} → (Library → Held) → (Library → List Given) → (Library → ℕ) → (Library → Option (List ℕ))
    → List (List ℕ) → Library → Library → Reading
reading_of held given faults last_fault words old new = record {
  words = words;
  held = held old;
  given = given old;
  gives = given new;
  before = faults old;
  after = faults new;
  last = last_fault new;
}

-- the files as they were read
abbrev pub files_read : Reading → Files
files_read reading = IsRead reading.held reading.given reading.gives

-- the bytes that the sink had taken and has taken, where it tells that; those of the pieces that it had accepted and has accepted; and
-- its faults before and after
pub record Writing : Type 0 where
  pub taken : Option (List ℕ)
  pub now : Option (List ℕ)
  pub accepted : List ℕ
  pub accepts : List ℕ
  pub before : ℕ
  pub after : ℕ

-- what is written to a sink with these meanings, from one moment to another
abbrev pub writing_of : {Sink : Type 0} → (Sink → Option (List ℕ)) → (Sink → List ℕ) → (Sink → ℕ) → Sink → Sink → Writing
writing_of taken pieces faults old new = record {
  taken = taken old;
  now = taken new;
  accepted = pieces old;
  accepts = pieces new;
  before = faults old;
  after = faults new;
}

-- these bytes were added, in pieces that were all accepted
pub record IsWritten (writing : Writing) (bytes : List ℕ) : Type 0 where
  pub taken : writing.now ≡ append_known writing.taken bytes
  pub accepted : writing.accepts ≡ writing.accepted ++ bytes

-- some first bytes were added; the accepted pieces are no more than these, and not all
pub record IsWrittenInPart (writing : Writing) (bytes : List ℕ) : Type 0 where
  pub first : ℕ
  pub pieces : ℕ
  pub within : pieces ≤ first
  pub short : pieces < length bytes
  pub taken : writing.now ≡ append_known writing.taken (take first bytes)
  pub accepted : writing.accepts ≡ writing.accepted ++ take pieces bytes

-- ---- texts

-- the transcript of a report, as text or as JSON, with each log merged into the order of places or context by context
abbrev pub transcript : Bool → Bool → Plan → Program → Report → List ℕ
transcript json merged plan program report = if json then json_of plan program report merged else text_of plan program report merged

-- a report of the plan's run, with its transcript as text or as JSON, with each log merged or context by context
abbrev pub IsTranscript : Bool → Bool → Plan → Program → Unwritten → List ℕ → Type 0
IsTranscript json merged plan program (unwritten.Ran report) text =
    IsRun plan program report × (text ≡ transcript json merged plan program report)
IsTranscript json merged plan program _ text = ⊥

-- a report of the plan's run, with the summary of the workload of this number, which takes its numbers from the report, and the text
-- of the summary
abbrev pub IsSummed : ℕ → Plan → Program → Unwritten → List ℕ → Type 0
IsSummed number plan program (unwritten.Generated report summary) text =
    IsRun plan program report × (summary ≡ summary_of number report) × (text ≡ summary_text summary)
IsSummed number plan program _ text = ⊥

-- a report of the plan's run, with what the binding covers in it, and the text of that: of a binding that stays attached and enabled
-- all along just the nodes are hit that the program's meaning enters
abbrev pub IsCovered : ℕ → Plan → Program → Unwritten → List ℕ → Type 0
IsCovered binding plan program (unwritten.Covered report coverage) text =
    IsRun plan program report × IsCoverage plan program report binding coverage × (text ≡ coverage_text plan program coverage)
IsCovered binding plan program _ text = ⊥

-- a report of the plan's run, with its paths of calls, and the text of these: they are counted over the events of each context's
-- meaning, and their sums are the numbers of its events and of the functions and procedures that it enters
abbrev pub IsTreed : Plan → Program → Unwritten → List ℕ → Type 0
IsTreed plan program (unwritten.Treed report tree) text =
    IsRun plan program report × AreTrees plan program 0 report.contexts tree.contexts
    × AreSummedIn plan program 0 report.contexts tree.contexts × (text ≡ calltree_text program report tree)
IsTreed plan program _ text = ⊥

-- what the command answers for this plan and program, with its whole text: `check` the line that counts, all others a report of the
-- plan's run and what they make of it
abbrev pub IsTextOf : Command → Plan → Program → Unwritten → List ℕ → Type 0
IsTextOf (Trace file) plan program answer text = IsTranscript false false plan program answer text
IsTextOf (Run words) plan program answer text = IsTranscript words.json words.merged plan program answer text
IsTextOf (Check file) plan program unwritten.Checked text = text ≡ check_line plan program
IsTextOf (Check file) plan program _ text = ⊥
IsTextOf (Gen number) plan program answer text = IsSummed number plan program answer text
IsTextOf (Coverage words) plan program answer text = IsCovered words.binding plan program answer text
IsTextOf (CallTree words) plan program answer text = IsTreed plan program answer text

-- the words are a command whose plan and sources are accepted, and this is its answer with its whole text
pub record IsWhole (reading : Reading) (answer : Unwritten) (text : List ℕ) : Type 0 where
  pub command : Command
  pub plan : Plan
  pub program : Program
  pub asked : command_of reading.words ≡ Ok command
  pub accepts : IsCause (files_read reading) command (accepted plan program)
  pub text_is : IsTextOf command plan program answer text

-- ---- what each answer says

-- the words are a command, and the files that were read have this cause
abbrev pub IsDueTo : Reading → Cause → Type 0
IsDueTo reading cause = (command : Command) × (command_of reading.words ≡ Ok command) × IsCause (files_read reading) command cause

-- the answers with which nothing is written
abbrev pub IsReason : Reading → Outcome → Type 0
IsReason reading (Usage fault) = command_of reading.words ≡ Err fault
IsReason reading (Unreadable name) =
    (command : Command) × (command_of reading.words ≡ Ok command) × IsReached (files_read reading) command name
    × IsFault reading.before reading.after reading.last name
IsReason reading (TooLong name) = IsDueTo reading (too_long name)
IsReason reading (PlanRefused refusal) = IsDueTo reading (plan_refused refusal)
IsReason reading (NoObserver binding) = IsDueTo reading (no_observer binding)
IsReason reading (SourceRefused refusal) = IsDueTo reading (source_refused refusal)
IsReason reading Memory = Unit {0}
IsReason reading _ = ⊥

-- what the answer says of what was read and written
abbrev pub Tells : Reading → Writing → Outcome → Type 0
Tells reading writing (Ran report) = (text : List ℕ) × IsWhole reading (unwritten.Ran report) text × IsWritten writing text
Tells reading writing Checked = (line : List ℕ) × IsWhole reading unwritten.Checked line × IsWritten writing line
Tells reading writing (Generated report summary) =
    (text : List ℕ) × IsWhole reading (unwritten.Generated report summary) text × IsWritten writing text
Tells reading writing (Covered report coverage) =
    (text : List ℕ) × IsWhole reading (unwritten.Covered report coverage) text × IsWritten writing text
Tells reading writing (Treed report tree) = (text : List ℕ) × IsWhole reading (unwritten.Treed report tree) text × IsWritten writing text
Tells reading writing (SinkFailed answer) =
    (text : List ℕ) × IsWhole reading answer text × (writing.before < writing.after) × IsWrittenInPart writing text
Tells reading writing outcome = IsReason reading outcome

-- whether the answer is one with which nothing was asked of the sink
abbrev pub is_unwritten : Outcome → Bool
is_unwritten (Ran report) = false
is_unwritten Checked = false
is_unwritten (Generated report summary) = false
is_unwritten (Covered report coverage) = false
is_unwritten (Treed report tree) = false
is_unwritten (SinkFailed answer) = false
is_unwritten _ = true

-- ---- which answer is given

-- whether the answer is the command's own, with what it makes of a plan and its program
abbrev pub is_own : Command → Outcome → Bool
is_own (Trace file) (Ran report) = true
is_own (Run words) (Ran report) = true
is_own (Check file) Checked = true
is_own (Gen number) (Generated report summary) = true
is_own (Coverage words) (Covered report coverage) = true
is_own (CallTree words) (Treed report tree) = true
is_own _ _ = false

-- what a command answers for the cause that its files have
abbrev pub IsAnswer : Command → Cause → Outcome → Type 0
IsAnswer command (too_long file) outcome = outcome ≡ TooLong file
IsAnswer command (plan_refused refusal) outcome = outcome ≡ PlanRefused refusal
IsAnswer command (no_observer binding) outcome = outcome ≡ NoObserver binding
IsAnswer command (source_refused refusal) outcome = outcome ≡ SourceRefused refusal
IsAnswer command (accepted plan program) outcome = is_own command outcome ≡ true

-- where the library tells what it holds and no call fails, the answer is that of the files' cause, or `Memory`
abbrev pub IsDecided : Reading → Writing → Outcome → Type 0
IsDecided reading writing outcome =
    (content : List ℕ → Option (List ℕ)) (command : Command) (cause : Cause)
    → reading.held ≡ Some content → command_of reading.words ≡ Ok command → IsCause (IsContent reading.held) command cause
    → reading.after ≡ reading.before → writing.after ≡ writing.before
    → (outcome ≡ Memory) ⊎ IsAnswer command cause outcome

-- ---- the status of the process

-- whether a run ended with a value
abbrev pub is_done : End → Bool
is_done (Done value) = true
is_done _ = false

-- the status of a report: 0 where each context is done, and else 7
abbrev pub report_status : Report → ℕ
report_status report = if list_all (λ context. is_done context.«end») report.contexts then 0 else 7

-- the status with which the process ends
abbrev pub status_of : Outcome → ℕ
status_of (Ran report) = report_status report
status_of Checked = 0
status_of (Generated report summary) = 0
status_of (Covered report coverage) = 0
status_of (Treed report tree) = 0
status_of (Usage fault) = 1
status_of (Unreadable name) = 2
status_of (TooLong name) = 2
status_of (PlanRefused refusal) = 3
status_of (SourceRefused refusal) = 4
status_of (SinkFailed answer) = 5
status_of Memory = 6
status_of (NoObserver binding) = 8

-- ---- the line for standard error, without its end; none where the text was written

-- the message for words that are no command
abbrev pub usage_message : WordFault → List ℕ
usage_message NoCommand = codes "polydbg: no command"
usage_message UnknownCommand = codes "polydbg: unknown command"
usage_message WordsRefused = codes "polydbg: words refused"

-- the word of a rule on plans
abbrev pub plan_rule_name : PlanRule → List ℕ
plan_rule_name plans.NotJson = codes "NotJson"
plan_rule_name plans.Missing = codes "Missing"
plan_rule_name plans.WrongShape = codes "WrongShape"
plan_rule_name plans.OutOfRange = codes "OutOfRange"
plan_rule_name plans.UnknownWord = codes "UnknownWord"
plan_rule_name plans.UnknownMember = codes "UnknownMember"
plan_rule_name plans.NoSuch = codes "NoSuch"
plan_rule_name plans.BadCondition = codes "BadCondition"
plan_rule_name plans.NotAnObserver = codes "NotAnObserver"
plan_rule_name plans.NotBuilt = codes "NotBuilt"

-- the message for a refused plan: its rule, and the path to the value
abbrev pub plan_message : PlanRefusal → List ℕ
plan_message refusal = joined (codes "polydbg: plan " ∷ plan_rule_name refusal.rule ∷ codes " at " ∷ refusal.path ∷ [])

-- the word of a rule on a source
abbrev pub rule_name : Rule → List ℕ
rule_name BadByte = codes "BadByte"
rule_name OpenText = codes "OpenText"
rule_name OpenComment = codes "OpenComment"
rule_name Unexpected = codes "Unexpected"
rule_name LiteralTooLarge = codes "LiteralTooLarge"
rule_name Undeclared = codes "Undeclared"
rule_name NotAssignable = codes "NotAssignable"
rule_name NotAProcedure = codes "NotAProcedure"
rule_name NotAValue = codes "NotAValue"
rule_name Doubled = codes "Doubled"
rule_name TooDeep = codes "TooDeep"
rule_name TooManyNodes = codes "TooManyNodes"

-- the word of what a source is refused for
abbrev pub cause_name : LoadCause → List ℕ
cause_name (Spelling refusal) = rule_name refusal.rule
cause_name (NoSuchItem number) = codes "NoSuchItem"
cause_name (DoubledExport number) = codes "DoubledExport"
cause_name (NoSuchEntry number) = codes "NoSuchEntry"
cause_name (NotUtf8 at) = codes "NotUtf8"

-- the number in a refusal's message: a byte, or the number of the export or the context
abbrev pub cause_place : LoadCause → ℕ
cause_place (Spelling refusal) = refusal.at
cause_place (NoSuchItem number) = number
cause_place (DoubledExport number) = number
cause_place (NoSuchEntry number) = number
cause_place (NotUtf8 at) = at

-- the message for a refused source: its number, the word of the cause, and the place
abbrev pub refusal_message : LoadRefusal → List ℕ
refusal_message refusal = joined (
    codes "polydbg: source " ∷ decimal refusal.source ∷ codes " " ∷ cause_name refusal.cause ∷ codes " at " ∷ decimal (cause_place refusal.cause) ∷ [])

-- what is told on standard error; nothing where a text was written whole
abbrev pub message_of : Outcome → List ℕ
message_of (Ran report) = []
message_of Checked = []
message_of (Generated report summary) = []
message_of (Covered report coverage) = []
message_of (Treed report tree) = []
message_of (Usage fault) = usage_message fault
message_of (Unreadable name) = joined (codes "polydbg: cannot read " ∷ name ∷ [])
message_of (TooLong name) = joined (codes "polydbg: too long " ∷ name ∷ [])
message_of (PlanRefused refusal) = plan_message refusal
message_of (NoObserver binding) = joined (codes "polydbg: no observer " ∷ decimal binding ∷ [])
message_of (SourceRefused refusal) = refusal_message refusal
message_of (SinkFailed answer) = codes "polydbg: cannot write"
message_of Memory = codes "polydbg: out of memory"
