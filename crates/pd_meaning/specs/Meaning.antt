-- Definition: what a program does: its output, its events, the fuel that it uses and its end.
-- A node's meaning is made of the meanings of its parts. Each entry of a node takes one unit of fuel. So the fuel bounds how deep
-- entries stand in one another, how often a loop turns and how often a call is made again, and each recursion goes down such a bound.
-- Where a bound is at least the fuel that is left, its size makes no difference.
-- A linked program has for each kind of node the parts of its grammar, a meaning for each name, and the block of each variable. What is
-- said here for other nodes is never read.
-- The parts of this file: results; entry; verdicts; what a node does inside; its exit; calls; each kind of node; the whole run.
use Rattle.pd_machine.specs.declared.run.Home.{Home}
use Rattle.pd_machine.specs.declared.run.Home.TheVariants.{InFrame, InMain}
use Rattle.pd_machine.specs.declared.run.Frame.{Frame}
use Rattle.pd_machine.specs.declared.run.NodeResult.{NodeResult}
use Rattle.pd_machine.specs.declared.run.NodeResult.TheVariants.{Gives, Returns, Breaks, Continues, Faults, Unwinds, Stops}
use Rattle.pd_machine.specs.declared.run.Cutoff.TheVariants.{SpentFuel, WasKilled}
use Rattle.std.specs.Prelude.{ℕ, zero, suc, ◌+◌, ◌-◌, ◌^◌, Bool, true, false, if◌then◌else◌, nat_lt, nat_le, ◌==◌, List, [], ◌∷◌, ◌++◌, length, drop, replicate, position, bytes_eq, slice_set, slice_get, map, Option, None, Some, Result, Ok, Err, unwrap_or, pos}
use Rattle.std.specs.Result.{result_unwrap_or}
use Rattle.pd_values.specs.declared.value.Value.{Value}
use Rattle.pd_values.specs.declared.value.Value.TheVariants.{Number, Bool as Truth, Text as Chars, Null, Func}
use Rattle.pd_values.specs.declared.value.Fault.{Fault}
use Rattle.pd_values.specs.declared.value.Fault.TheVariants.{WrongKind, Undefined, Depth, OutputLong, CrossType, CrossArity}
use Rattle.pd_values.specs.declared.value.End.{End}
use Rattle.pd_values.specs.declared.value.Tag.{Tag}
use Rattle.pd_values.specs.declared.value.Tag.TheVariants.{Statement, Call}
use Rattle.pd_tree.specs.declared.kind.Kind.{Kind}
use Rattle.pd_tree.specs.declared.kind.Kind.TheVariants.{SlFunction, SlBody, SlIf, SlWhile, SlReturn, SlBreak, SlContinue, SlOr, SlAnd, SlBinary, SlCall, SlAssign, SlName, SlNumber, SlText, PlProcedure, PlBody, PlIf, PlWhile, PlAssign, PlCall, PlWrite, PlOdd, PlBinary, PlPlus, PlMinus, PlName, PlNumber}
use Rattle.pd_tree.specs.declared.kind.Meaning.{Meaning}
use Rattle.pd_tree.specs.declared.kind.Meaning.TheVariants.{Local, Item as Means, Nothing}
use Rattle.pd_machine.specs.declared.event.EventKind.TheVariants.{Enter, Return as Gave, Leave}
use Rattle.pd_machine.specs.declared.event.Cause.TheVariants.{Returning, Breaking, Continuing, Faulting, Unwinding}
use Rattle.pd_machine.specs.declared.event.Verdict.{Verdict}
use Rattle.pd_machine.specs.declared.event.Verdict.TheVariants.{Go, Reenter, Return, Kill}
use Rattle.pd_values.specs.Operators.{ValueOrFault, show, plus, minus, odd}
use Rattle.pd_tree.specs.Binary.{binary}
use Rattle.pd_tree.specs.Program.{Program, Node, node_at, item_at, item_names, has_tag}
use Rattle.pd_machine.specs.Events.{Scene, Told, State, frame_of, from_outermost, variables_at, blocks_of, scene_value, set_variable, standing, push_frame, pop_frame, tell, end_of}

-- the verdicts that a run is given, each with the number of its event
abbrev pub Verdicts : Type 0
Verdicts = List (ℕ × Verdict)

-- ---- results: what a node comes to, with the state that it leaves

-- what a node comes to, and the run then
pub data Outcome : Type 0 where
  ends : NodeResult → State → Outcome

-- what a node does from a state
abbrev pub Run : Type 0
Run = ℕ → State → Outcome

-- goes on with a value; any other result stands
abbrev pub with_value : Outcome → (Value → State → Outcome) → Outcome
with_value (ends (Gives a) s) go = go a s
with_value (ends r s) go = ends r s

-- an operator's answer at a node
abbrev pub answered : ℕ → ValueOrFault → State → Outcome
answered n (Ok a) s = ends (Gives a) s
answered n (Err f) s = ends (Faults f n) s

-- ---- entry: with no fuel left the run stops; otherwise one unit is taken

-- what is done where a unit of fuel is there to be taken; else the run stops
abbrev pub with_fuel : ℕ → (State → Outcome) → State → Outcome
with_fuel zero go s = ends (Stops SpentFuel) s
with_fuel (suc left) go s = go (record s { left = left })

-- ---- verdicts: one on the Enter of a statement stands in place of what the node does, and one on the Return of a call in place of its value

-- where two verdicts have the number of one event, the first counts
abbrev pub verdict_at : Verdicts → ℕ → Verdict
verdict_at [] e = Go
verdict_at (x ∷ xs) e = if x.0 == e then x.1 else verdict_at xs e

-- the verdict on an event of a node with this tag; elsewhere verdicts have no effect
abbrev pub verdict_on : Program → Verdicts → ℕ → Tag → ℕ → Verdict
verdict_on p v n tag e = if has_tag (node_at p n).tags tag then verdict_at v e else Go

-- the verdict is the result, and with none the run goes on
abbrev pub heed : Verdict → (State → Outcome) → State → Outcome
heed Go go s = go s
heed (Reenter k) go s = ends (Unwinds (from_outermost s.scene.frames k) None) s
heed (Return k a) go s = ends (Unwinds (from_outermost s.scene.frames k) (Some a)) s
heed Kill go s = ends (Stops WasKilled) s

-- ---- inside: a part's result that is no value is the node's own, but for the jumps that a loop and a body take

-- the parts from left to right, and then the rule on their values; `values` are those of the parts before
abbrev pub parts : Run → List ℕ → List Value → (List Value → State → Outcome) → State → Outcome
parts run [] values rule s = rule values s
parts run (m ∷ ms) values rule s = with_value (run m s) (λ a t. parts run ms (values ++ a ∷ []) rule t)

-- a rule on the value of one part; a node with another number of parts is never read
abbrev pub on_one : ℕ → List Value → (Value → State → Outcome) → State → Outcome
on_one n (a ∷ []) rule s = rule a s
on_one n _ rule s = ends (Faults WrongKind n) s

-- a rule on the values of two parts; a node with another number of parts is never read
abbrev pub on_two : ℕ → List Value → (Value → Value → State → Outcome) → State → Outcome
on_two n (a ∷ b ∷ []) rule s = rule a b s
on_two n _ rule s = ends (Faults WrongKind n) s

-- a condition or an operand that must be a truth value
abbrev pub on_truth : ℕ → Value → (State → Outcome) → (State → Outcome) → State → Outcome
on_truth n (Truth true) if_true if_false s = if_true s
on_truth n (Truth false) if_true if_false s = if_false s
on_truth n _ if_true if_false s = ends (Faults WrongKind n) s

-- the last part alone: the body of a function or procedure
abbrev pub last_part : Run → List ℕ → State → Outcome
last_part run [] s = ends (Gives Null) s
last_part run (m ∷ []) s = run m s
last_part run (m ∷ k ∷ ms) s = last_part run (k ∷ ms) s

-- a body takes a return
abbrev pub caught : Outcome → Outcome
caught (ends (Returns a) s) = ends (Gives a) s
caught (ends r s) = ends r s

-- `if`: the condition, and then one block, or nothing
abbrev pub choice : Run → ℕ → List ℕ → State → Outcome
choice run n (c ∷ block ∷ []) s = with_value (run c s) (λ a t. on_truth n a (run block) (ends (Gives Null)) t)
choice run n (c ∷ block ∷ other ∷ []) s = with_value (run c s) (λ a t. on_truth n a (run block) (run other) t)
choice run n _ s = ends (Faults WrongKind n) s

-- a turn's block is over: a value or a continue leads to the next turn, a break ends the loop
abbrev pub after_turn : Outcome → (State → Outcome) → Outcome
after_turn (ends (Gives a) s) again = again s
after_turn (ends Continues s) again = again s
after_turn (ends Breaks s) again = ends (Gives Null) s
after_turn (ends r s) again = ends r s

-- `while`: turns of a condition and a block
abbrev pub turns : ℕ → Run → ℕ → ℕ → ℕ → State → Outcome
turns zero run n c block s = ends (Stops SpentFuel) s
turns (suc bound) run n c block s =
    with_value (run c s) (λ a t. on_truth n a (λ u. after_turn (run block u) (turns bound run n c block)) (ends (Gives Null)) t)

-- a `while`: its condition and its block in turns
abbrev pub loop : ℕ → Run → ℕ → List ℕ → State → Outcome
loop bound run n (c ∷ block ∷ []) s = turns bound run n c block s
loop bound run n _ s = ends (Faults WrongKind n) s

-- the right side of an `||` or an `&&`, which must be a truth value
abbrev pub right_truth : Run → ℕ → ℕ → State → Outcome
right_truth run n r s = with_value (run r s) (λ b t. on_truth n b (ends (Gives (Truth true))) (ends (Gives (Truth false))) t)

-- an `||` (true) or an `&&` (false): the right side is evaluated where the left one doesn't decide
abbrev pub either_side : Bool → Run → ℕ → List ℕ → State → Outcome
either_side true run n (l ∷ r ∷ []) s = with_value (run l s) (λ a t. on_truth n a (ends (Gives (Truth true))) (right_truth run n r) t)
either_side false run n (l ∷ r ∷ []) s = with_value (run l s) (λ a t. on_truth n a (right_truth run n r) (ends (Gives (Truth false))) t)
either_side _ run n _ s = ends (Faults WrongKind n) s

-- ---- names and output

-- what a name's node gives
abbrev pub named : ℕ → Meaning → State → Outcome
named n (Local up slot) s = ends (Gives (unwrap_or (scene_value s.scene 0 up slot) Null)) s
named n (Means i) s = ends (Gives (Func i)) s
named n Nothing s = ends (Faults Undefined n) s

-- a value is assigned to what a name means; a name of no variable changes nothing
abbrev pub assigned : Meaning → Value → State → State
assigned (Local up slot) a s = record s { scene = set_variable s.scene up slot a }
assigned (Means i) a s = s
assigned Nothing a s = s

-- the most bytes of output
abbrev pub longest_output : ℕ
longest_output = 2 ^ 24

-- the bytes and a line end, where the output has room for them
abbrev pub written : ℕ → List ℕ → Value → State → Outcome
written n bytes a s =
    if nat_le (length s.output + length bytes + 1) longest_output
    then ends (Gives a) (record s { output = s.output ++ (bytes ++ 10 ∷ []) })
    else ends (Faults OutputLong n) s

-- ---- exit: a value gives Return, on which a call's verdict may stand; a jump, fault or unwinding gives Leave; a stop gives no event

-- the end of an activation: its Return or Leave is told, and the verdict on a call's Return is heeded
abbrev pub exit : Program → Verdicts → ℕ → ℕ → Outcome → Outcome
exit p v n opened (ends (Gives a) s) = heed (verdict_on p v n Call (length s.events)) (λ t. ends (Gives a) t) (tell n opened (Gave a) s)
exit p v n opened (ends (Returns a) s) = ends (Returns a) (tell n opened (Leave Returning) s)
exit p v n opened (ends Breaks s) = ends Breaks (tell n opened (Leave Breaking) s)
exit p v n opened (ends Continues s) = ends Continues (tell n opened (Leave Continuing) s)
exit p v n opened (ends (Faults f m) s) = ends (Faults f m) (tell n opened (Leave (Faulting f)) s)
exit p v n opened (ends (Unwinds k a) s) = ends (Unwinds k a) (tell n opened (Leave Unwinding) s)
exit p v n opened (ends (Stops x) s) = ends (Stops x) s

-- an activation: a node without tags gives no events; one with tags gives Enter, on which a statement's verdict may stand, and its exit
abbrev pub activation : Program → Verdicts → ℕ → List Tag → (State → Outcome) → State → Outcome
activation p v n [] rule s = rule s
activation p v n (_ ∷ _) rule s =
    exit p v n (length s.events) (heed (verdict_on p v n Statement (length s.events)) rule (tell n (length s.events) Enter s))

-- ---- calls

-- the innermost frame is removed
abbrev pub popped : State → State
popped s = record s { scene = pop_frame s.scene }

-- the end of a call, whose frame k is removed; an unwinding to this very frame makes the call again, or gives its value
abbrev pub returned : ℕ → Outcome → (State → Outcome) → Outcome
returned k (ends (Unwinds m None) s) again = elim (m == k) [ true ↦ again (popped s) | false ↦ ends (Unwinds m None) (popped s) ]
returned k (ends (Unwinds m (Some a)) s) again = ends (if m == k then Gives a else Unwinds m (Some a)) (popped s)
returned k (ends r s) again = ends r (popped s)

-- a call: the frame is added, its root evaluated, and the frame removed. A call that is made again has the same frame, and so the
-- same arguments
abbrev pub invoked : ℕ → Run → Frame → State → Outcome
invoked zero run f s = ends (Stops SpentFuel) s
invoked (suc bound) run f s =
    returned (length s.scene.frames) (run f.root (record s { scene = push_frame f s.scene })) (invoked bound run f)

-- the first argument, or NULL where there is none
abbrev pub first_or_null : List Value → Value
first_or_null [] = Null
first_or_null (a ∷ _) = a

-- the values of an SL function's parameters: a missing argument is NULL, one too many is dropped, and a parameter that is named
-- twice is one variable, set by the later argument. `names` and `values` are those of the parameters before
abbrev pub parameter_values : List (List ℕ) → List Value → List (List ℕ) → List Value → List Value
parameter_values names values [] arguments = values
parameter_values names values (x ∷ xs) arguments =
    elim (position (bytes_eq x) names) [
      | Some i ↦ parameter_values names (slice_set values i (first_or_null arguments)) xs (drop 1 arguments)
      | None ↦ parameter_values (names ++ x ∷ []) (values ++ first_or_null arguments ∷ []) xs (drop 1 arguments)
    ]

-- the first values, filled up to so many
abbrev pub filled : ℕ → Value → List Value → List Value
filled size a values = values ++ replicate (size - length values) a

-- whether each value is a number
abbrev pub all_numbers : List Value → Bool
all_numbers [] = true
all_numbers (Number z ∷ xs) = all_numbers xs
all_numbers (_ ∷ xs) = false

-- the variables with which a callee begins, or what is wrong with the arguments
abbrev pub first_variables : Node → List Value → Result (List Value) Fault
first_variables node arguments = elim node.kind [
  | SlFunction name parameters ↦ Ok (filled node.slots Null (parameter_values [] [] parameters arguments))
  | _ ↦ if nat_lt node.slots (length arguments) then Err CrossArity
      else (if all_numbers arguments then Ok (filled node.slots (Number (pos 0)) arguments) else Err CrossType)
]

-- the blocks around a callee's own: none around an SL function or a main block, the main block of its source around a procedure
-- that is declared directly in it, and around a procedure of a greater level l the last l blocks that its caller sees
abbrev pub around : ℕ → ℕ → List Home → List Home
around zero source seen = []
around (suc zero) source seen = InMain source ∷ []
around (suc (suc l)) source seen = drop (length seen - suc (suc l)) seen

-- the new frame of a call
abbrev pub frame_for : ℕ → Node → List Value → Scene → Frame
frame_for root node variables c = record { root = root; at = root; variables = variables; blocks = InFrame (length c.frames) ∷ around node.level node.source (blocks_of (frame_of c.frames 0)) }

-- the most live frames
abbrev pub most_frames : ℕ
most_frames = 2000

-- the arguments are tested first, and then whether one more frame may be live; the caller's frame stands at the call node
abbrev pub called_with : ℕ → Run → ℕ → ℕ → Node → Result (List Value) Fault → State → Outcome
called_with bound run n root node (Err f) s = ends (Faults f n) s
called_with bound run n root node (Ok variables) s =
    elim (nat_lt (length s.scene.frames) most_frames) [
      | true ↦ invoked bound run (frame_for root node variables s.scene) (record s { scene = standing n s.scene })
      | false ↦ ends (Faults Depth n) s
    ]

-- a call of an item: `println` writes and gives its first argument
abbrev pub called : Program → ℕ → Run → ℕ → Option ℕ → List Value → State → Outcome
called p bound run n None arguments s = written n (show (item_names p) (first_or_null arguments)) (first_or_null arguments) s
called p bound run n (Some root) arguments s = called_with bound run n root (node_at p root) (first_variables (node_at p root) arguments) s

-- an SL call: the callee's value, and the arguments
abbrev pub sl_call : Program → ℕ → Run → ℕ → List Value → State → Outcome
sl_call p bound run n (Func i ∷ arguments) s = called p bound run n (item_at p i).root arguments s
sl_call p bound run n _ s = ends (Faults WrongKind n) s

-- a PL/0 call passes no arguments and drops the result
abbrev pub pl_call : Program → ℕ → Run → ℕ → Meaning → State → Outcome
pl_call p bound run n (Means i) s = with_value (called p bound run n (item_at p i).root [] s) (λ a t. ends (Gives Null) t)
pl_call p bound run n _ s = ends (Faults Undefined n) s

-- ---- each kind of node

-- what a node makes of the values of its parts
abbrev pub combined : Program → ℕ → Run → ℕ → Kind → List Value → State → Outcome
combined p bound run n SlReturn values s = ends (Returns (first_or_null values)) s
combined p bound run n SlBreak values s = ends Breaks s
combined p bound run n SlContinue values s = ends Continues s
combined p bound run n (SlBinary op) values s = on_two n values (λ a b. answered n (binary (item_names p) op a b)) s
combined p bound run n SlCall values s = sl_call p bound run n values s
combined p bound run n (SlAssign x) values s = on_one n values (λ a t. ends (Gives a) (assigned (node_at p n).meaning a t)) s
combined p bound run n (SlName x) values s = named n (node_at p n).meaning s
combined p bound run n (SlNumber z) values s = ends (Gives (Number z)) s
combined p bound run n (SlText t) values s = ends (Gives (Chars t)) s
combined p bound run n PlBody values s = ends (Gives (first_or_null (variables_at s.scene (slice_get (blocks_of (frame_of s.scene.frames 0)) 0)))) s
combined p bound run n (PlAssign x) values s = on_one n values (λ a t. ends (Gives Null) (assigned (node_at p n).meaning a t)) s
combined p bound run n (PlCall x) values s = pl_call p bound run n (node_at p n).meaning s
combined p bound run n PlWrite values s = on_one n values (λ a. written n (show (item_names p) a) Null) s
combined p bound run n PlOdd values s = on_one n values (λ a. answered n (odd a)) s
combined p bound run n (PlBinary op) values s = on_two n values (λ a b. answered n (binary (item_names p) op a b)) s
combined p bound run n PlPlus values s = on_one n values (λ a. answered n (plus a)) s
combined p bound run n PlMinus values s = on_one n values (λ a. answered n (minus a)) s
combined p bound run n (PlName x) values s = named n (node_at p n).meaning s
combined p bound run n (PlNumber z) values s = ends (Gives (Number z)) s
-- blocks, bodies of SL, `debugger`, `begin` and the empty statement; the kinds that are left have rules of their own
combined p bound run n _ values s = ends (Gives Null) s

-- what a node does between its entry and its exit
abbrev pub inside : Program → ℕ → Run → ℕ → Kind → List ℕ → State → Outcome
inside p bound run n (SlFunction name parameters) ms s = last_part run ms s
inside p bound run n (PlProcedure name variables) ms s = last_part run ms s
inside p bound run n SlBody ms s = caught (parts run ms [] (combined p bound run n SlBody) s)
inside p bound run n SlIf ms s = choice run n ms s
inside p bound run n PlIf ms s = choice run n ms s
inside p bound run n SlWhile ms s = loop bound run n ms s
inside p bound run n PlWhile ms s = loop bound run n ms s
inside p bound run n SlOr ms s = either_side true run n ms s
inside p bound run n SlAnd ms s = either_side false run n ms s
inside p bound run n kind ms s = parts run ms [] (combined p bound run n kind) s

-- a node from a state, where the bound is at least the fuel that is left
unfoldable pub evaluated : Program → Verdicts → ℕ → Run
evaluated p v zero n s = ends (Stops SpentFuel) s
evaluated p v (suc bound) n s =
    with_fuel s.left (activation p v n (node_at p n).tags (λ t. inside p bound (evaluated p v bound) n (node_at p n).kind (node_at p n).children t)) s

-- ---- the whole run

-- what a run leaves: its output, its events, the fuel that it used, and its end
pub record Ran : Type 0 where
  pub output : List ℕ
  pub events : List Told
  pub used : ℕ
  pub finish : End

-- what a run with this fuel leaves that came to this outcome
abbrev pub ran : ℕ → Outcome → Ran
ran fuel (ends r s) = record { output = s.output; events = s.events; used = fuel - s.left; finish = end_of r }

-- the variables of the main blocks as a context begins
abbrev pub main_variables : Program → Option ℕ → List Value
main_variables p None = []
main_variables p (Some root) = replicate (node_at p root).slots (Number (pos 0))

-- the run before its first node: no frames, and the variables of the main blocks at 0
abbrev pub opening : Program → ℕ → State
opening p fuel = record { scene = record { frames = []; mains = map (main_variables p) p.mains }; output = []; events = []; left = fuel }

-- whether a root is a main block: a PL/0 block around which no procedure stands
abbrev pub is_main_block : Kind → ℕ → Bool
is_main_block (PlProcedure name variables) zero = true
is_main_block _ _ = false

-- the frame of the entry, which is called without arguments; a main block's variables stand in the context
abbrev pub entry_frame : ℕ → Node → State → Frame
entry_frame root node s =
    if is_main_block node.kind node.level
    then record { root = root; at = root; variables = []; blocks = InMain node.source ∷ [] }
    else frame_for root node (result_unwrap_or (first_variables node []) []) s.scene

-- the entry is a call without arguments
abbrev pub from_root : Program → Verdicts → ℕ → Option ℕ → Outcome
from_root p v fuel None = ends (Gives Null) (opening p fuel)
from_root p v fuel (Some root) = invoked fuel (evaluated p v fuel) (entry_frame root (node_at p root) (opening p fuel)) (opening p fuel)

-- the meaning of a program from an item, with this much fuel and under these verdicts
unfoldable pub meaning_of : Program → ℕ → ℕ → Verdicts → Ran
meaning_of p entry fuel v = ran fuel (from_root p v fuel (item_at p entry).root)
