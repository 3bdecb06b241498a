-- What an answer says, and which one is given.
use Rattle.std.proofs.Common.{◌≡◌, ◌∙◌, ℕ, List, refl, ap, sym, subst, arith, inl, inr, Option, Some, Ok, Err, Result}
use Rattle.std.specs.Prelude.{◌⊎◌}
use Rattle.pd_plan.specs.declared.plan.Plan.{Plan}
use Rattle.pd_tree.specs.Program.{Program}
use Rattle.pd_words.specs.declared.asked.Command.{Command}
use Rattle.pd_words.specs.declared.asked.Command.TheVariants.{Trace, Run, Check, Gen, Coverage, CallTree}
use Rattle.pd_words.specs.declared.asked.WordFault.{WordFault}
use Rattle.pd_top.specs.declared.outcome.Unwritten.{Unwritten}
use Rattle.pd_top.specs.declared.outcome.Unwritten.TheVariants as unwritten
use Rattle.pd_top.specs.declared.outcome.Outcome.{Outcome}
use Rattle.pd_top.specs.declared.outcome.Outcome.TheVariants.{Ran, Checked, Generated, Covered, Treed, Usage, Unreadable, TooLong, PlanRefused, NoObserver, SourceRefused, SinkFailed, Memory}
use Rattle.pd_words.specs.Words.{command_of}
use Rattle.pd_top.specs.Files.{IsContent}
use Rattle.pd_top.specs.Causes.{Cause, too_long, plan_refused, no_observer, source_refused, accepted, IsCause}
use Rattle.pd_top.specs.Answers.{Reading, files_read, Writing, IsTextOf, IsWhole, IsReason, Tells, IsAnswer, IsDecided}
use Rattle.pd_top.specs.Stops.{StopsWords, StopsAccepting}
use Rattle.pd_top.proofs.GivenLemmas.{cause_within}
use Rattle.pd_top.proofs.CauseLemmas.{Agrees, one_cause}

-- ---- why nothing is written

pub words_reason : (reading : Reading) (outcome : Outcome) → StopsWords reading.words outcome → IsReason reading outcome
words_reason reading (Usage fault) stops = stops
words_reason reading Memory stops = tt
words_reason reading outcome stops = absurd stops

-- words that are no command are told so, where memory doesn't run out
pub words_usage : (words : List (List ℕ)) (outcome : Outcome) (fault : WordFault) → StopsWords words outcome → command_of words ≡ Err fault
    → (outcome ≡ Usage fault) ⊎ (outcome ≡ Memory)
words_usage words (Usage other) fault stops is = let both : ◌≡◌ {A = Result Command WordFault} (Err other) (Err fault) = sym stops ∙ is in inl (cc)
words_usage words Memory fault stops is = inr refl
words_usage words outcome fault stops is = absurd stops

pub accepting_reason : (reading : Reading) (command : Command) (outcome : Outcome) → command_of reading.words ≡ Ok command
    → StopsAccepting (files_read reading) command reading.before reading.after reading.last outcome → IsReason reading outcome
accepting_reason reading command (Unreadable name) asked stops = (command, asked, stops.0, stops.1)
accepting_reason reading command (TooLong name) asked stops = (command, asked, stops)
accepting_reason reading command (PlanRefused refusal) asked stops = (command, asked, stops)
accepting_reason reading command (NoObserver binding) asked stops = (command, asked, stops)
accepting_reason reading command (SourceRefused refusal) asked stops = (command, asked, stops)
accepting_reason reading command Memory asked stops = tt
accepting_reason reading command outcome asked stops = absurd stops

pub tells_reason : (reading : Reading) (writing : Writing) (outcome : Outcome) → IsReason reading outcome → Tells reading writing outcome
tells_reason reading writing (Ran report) reason = absurd reason
tells_reason reading writing Checked reason = absurd reason
tells_reason reading writing (Generated report summary) reason = absurd reason
tells_reason reading writing (Covered report coverage) reason = absurd reason
tells_reason reading writing (Treed report tree) reason = absurd reason
tells_reason reading writing (SinkFailed answer) reason = absurd reason
tells_reason reading writing outcome reason = reason

-- ---- which answer is given

-- causes that agree have one answer
agreed : (command : Command) (x y : Cause) (outcome : Outcome) → Agrees x y → IsAnswer command x outcome → IsAnswer command y outcome
agreed command (too_long a) (too_long b) outcome agree answer = answer ∙ ap TooLong agree
agreed command (plan_refused a) (plan_refused b) outcome agree answer = answer ∙ ap PlanRefused agree
agreed command (source_refused a) (source_refused b) outcome agree answer = answer ∙ ap SourceRefused agree
agreed command (no_observer a) (no_observer b) outcome agree answer = answer ∙ ap (λ n. NoObserver n) agree
agreed command (accepted p a) (accepted q b) outcome agree answer = answer
agreed command x y outcome agree answer = absurd agree

-- the answer of one cause is that of the other
decided_by : (reading : Reading) (outcome : Outcome) (command other : Command) (x y : Cause) (content : List ℕ → Option (List ℕ))
    → command_of reading.words ≡ Ok command → IsCause (files_read reading) command x → IsAnswer command x outcome
    → reading.held ≡ Some content → command_of reading.words ≡ Ok other → IsCause (IsContent reading.held) other y → IsAnswer other y outcome
decided_by reading outcome command other x y content asked cause answer tells also_asked also =
    let same : command ≡ other = cc in
    let first = cause_within (files_read reading) (IsContent reading.held) (λ file bytes read. read.content) other x
    (subst (λ c. IsCause (files_read reading) c x) same cause) in
    let agree : Agrees x y = one_cause content other x y (subst (λ h. IsCause (IsContent h) other x) tells first) (subst (λ h. IsCause (IsContent h) other y) tells also) in
    agreed other x y outcome agree (subst (λ c. IsAnswer c x outcome) same answer)

-- the answer that a text was made for, where the text is written
abbrev written : Unwritten → Outcome
written (unwritten.Ran report) = Ran report
written unwritten.Checked = Checked
written (unwritten.Generated report summary) = Generated report summary
written (unwritten.Covered report coverage) = Covered report coverage
written (unwritten.Treed report tree) = Treed report tree

-- a command's text is made for the command's own answer
own_answer : (command : Command) (plan : Plan) (program : Program) (answer : Unwritten) (text : List ℕ)
    → IsTextOf command plan program answer text → IsAnswer command (accepted plan program) (written answer)
own_answer (Trace file) plan program (unwritten.Ran report) text is = refl
own_answer (Run words) plan program (unwritten.Ran report) text is = refl
own_answer (Check file) plan program unwritten.Checked text is = refl
own_answer (Gen number) plan program (unwritten.Generated report summary) text is = refl
own_answer (Coverage words) plan program (unwritten.Covered report coverage) text is = refl
own_answer (CallTree words) plan program (unwritten.Treed report tree) text is = refl
own_answer command plan program answer text is = absurd is

-- the answer whose text was written is that of the files' cause
whole_decided : (reading : Reading) (writing : Writing) (answer : Unwritten) (text : List ℕ) → IsWhole reading answer text → IsDecided reading writing (written answer)
whole_decided reading writing answer text whole = λ content command cause tells asked also read_well wrote_well.
    inr (decided_by reading (written answer) whole.command command (accepted whole.plan whole.program) cause content whole.asked whole.accepts
    (own_answer whole.command whole.plan whole.program answer text whole.text_is) tells asked also)

pub decided : (reading : Reading) (writing : Writing) (outcome : Outcome) → Tells reading writing outcome → IsDecided reading writing outcome
decided reading writing (Ran report) (text, whole, is) = whole_decided reading writing (unwritten.Ran report) text whole
decided reading writing Checked (text, whole, is) = whole_decided reading writing unwritten.Checked text whole
decided reading writing (Generated report summary) (text, whole, is) = whole_decided reading writing (unwritten.Generated report summary) text whole
decided reading writing (Covered report coverage) (text, whole, is) = whole_decided reading writing (unwritten.Covered report coverage) text whole
decided reading writing (Treed report tree) (text, whole, is) = whole_decided reading writing (unwritten.Treed report tree) text whole
decided reading writing (Usage fault) none = λ content command cause tells asked also read_well wrote_well.
    let both : ◌≡◌ {A = Result Command WordFault} (Err fault) (Ok command) = sym none ∙ asked in cc
decided reading writing (Unreadable name) (first, asked_first, reached, fault) = λ content command cause tells asked also read_well wrote_well.
    absurd (omega (arith, fault.risen, read_well))
decided reading writing (TooLong name) (first, asked_first, due) = λ content command cause tells asked also read_well wrote_well.
    inr (decided_by reading (TooLong name) first command (too_long name) cause content asked_first due refl tells asked also)
decided reading writing (PlanRefused refusal) (first, asked_first, due) = λ content command cause tells asked also read_well wrote_well.
    inr (decided_by reading (PlanRefused refusal) first command (plan_refused refusal) cause content asked_first due refl tells asked also)
decided reading writing (NoObserver binding) (first, asked_first, due) = λ content command cause tells asked also read_well wrote_well.
    inr (decided_by reading (NoObserver binding) first command (no_observer binding) cause content asked_first due refl tells asked also)
decided reading writing (SourceRefused refusal) (first, asked_first, due) = λ content command cause tells asked also read_well wrote_well.
    inr (decided_by reading (SourceRefused refusal) first command (source_refused refusal) cause content asked_first due refl tells asked also)
decided reading writing (SinkFailed answer) (text, whole, risen, written) = λ content command cause tells asked also read_well wrote_well.
    absurd (omega (arith, risen, wrote_well))
decided reading writing Memory none = λ content command cause tells asked also read_well wrote_well. inl refl
