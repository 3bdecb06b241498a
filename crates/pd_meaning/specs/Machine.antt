-- Definition, of a second form: src/reader.rt promises that it does what Meaning says, which decides.
-- A machine with a stack of what waits, which does what a program means one turn at a time; and the outcome to which each of its states leads.
-- A turn enters a node, or begins its work, or hands a result to what waits on top of the stack.
use Rattle.pd_machine.specs.declared.run.Frame.{Frame}
use Rattle.pd_machine.specs.declared.run.Cutoff.TheVariants.{SpentFuel, WasKilled}
use Rattle.pd_machine.specs.declared.run.NodeResult.{NodeResult}
use Rattle.pd_machine.specs.declared.run.NodeResult.TheVariants.{Gives, Breaks, Continues, Faults, Unwinds, Stops}
use Rattle.pd_machine.specs.declared.run.Pending.{Pending}
use Rattle.pd_machine.specs.declared.run.Mode.{Mode}
use Rattle.pd_machine.specs.declared.run.Pending.TheVariants.{Leaving, Operand, Catching, Choosing, ChoosingBetween, Testing, Turning, LeftSide, RightSide, InCall, Dropping}
use Rattle.pd_machine.specs.declared.run.Mode.TheVariants.{Entering, Starting, Coming}
use Rattle.std.specs.Prelude.{ℕ, zero, suc, ◌+◌, Bool, true, false, nat_lt, ◌==◌, List, [], ◌∷◌, ◌++◌, length, drop, slice_get, Option, None, Some, Result, Ok, Err}
use Rattle.pd_values.specs.declared.value.Value.{Value}
use Rattle.pd_values.specs.declared.value.Value.TheVariants.{Bool as Truth, Null, Func}
use Rattle.pd_values.specs.declared.value.Fault.{Fault}
use Rattle.pd_values.specs.declared.value.Fault.TheVariants.{WrongKind, Undefined, Depth}
use Rattle.pd_values.specs.declared.value.Tag.{Tag}
use Rattle.pd_values.specs.declared.value.Tag.TheVariants.{Statement, Call}
use Rattle.pd_tree.specs.declared.kind.Kind.{Kind}
use Rattle.pd_tree.specs.declared.kind.Kind.TheVariants.{SlFunction, SlBody, SlIf, SlWhile, SlOr, SlAnd, SlCall, PlProcedure, PlIf, PlWhile, PlCall}
use Rattle.pd_tree.specs.declared.kind.Meaning.{Meaning}
use Rattle.pd_tree.specs.declared.kind.Meaning.TheVariants.{Item as Means}
use Rattle.pd_machine.specs.declared.event.EventKind.TheVariants.{Enter, Return as Gave}
use Rattle.pd_machine.specs.declared.event.Verdict.{Verdict}
use Rattle.pd_machine.specs.declared.event.Verdict.TheVariants.{Go, Reenter, Return, Kill}
use Rattle.pd_values.specs.Operators.{show}
use Rattle.pd_tree.specs.Program.{Program, Node, node_at, item_at, item_names}
use Rattle.pd_machine.specs.Events.{State, from_outermost, push_frame, standing, tell}
use Rattle.pd_meaning.specs.Meaning.{Verdicts, Outcome, ends, Run, with_value, verdict_on, exit, parts, on_truth, caught, after_turn, turns, written, popped, returned, invoked, first_or_null, first_variables, frame_for, most_frames, combined, right_truth, inside, evaluated, opening, entry_frame}

-- ---- the states of the machine

-- what is done next, what waits, and the run so far
pub record Machine : Type 0 where
  pub mode : Mode
  -- the innermost first
  pub stack : List Pending
  pub state : State

-- the machine with these parts
abbrev pub machine : Mode → List Pending → State → Machine
machine mode stack s = record { mode = mode; stack = stack; state = s }

-- the machine whose node has come to this outcome
abbrev pub settled : List Pending → Outcome → Machine
settled stack (ends r s) = machine (Coming r) stack s

-- ---- one turn

-- a verdict on the event that was just told
abbrev pub obeyed : Verdict → Machine → Machine
obeyed Go m = m
obeyed (Reenter k) m = record m { mode = Coming (Unwinds (from_outermost m.state.scene.frames k) None) }
obeyed (Return k a) m = record m { mode = Coming (Unwinds (from_outermost m.state.scene.frames k) (Some a)) }
obeyed Kill m = record m { mode = Coming (Stops WasKilled) }

-- a node took its fuel: one with tags tells its Enter, whose verdict is obeyed
abbrev pub entered : Program → Verdicts → ℕ → List Tag → List Pending → State → Machine
entered p v n [] stack s = machine (Starting n) stack s
entered p v n (_ ∷ _) stack s =
    obeyed (verdict_on p v n Statement (length s.events)) (machine (Starting n) (Leaving n (length s.events) ∷ stack) (tell n (length s.events) Enter s))

-- a node is entered: with no fuel left the run stops, else one unit is taken
abbrev pub entering_turn : Program → Verdicts → ℕ → ℕ → List Pending → State → Machine
entering_turn p v zero n stack s = machine (Coming (Stops SpentFuel)) stack s
entering_turn p v (suc left) n stack s = entered p v n (node_at p n).tags stack (record s { left = left })

-- a call begins with this frame: its root is entered
abbrev pub call_begun : Frame → List Pending → State → Machine
call_begun f stack s = machine (Entering f.root) (InCall (length s.scene.frames) f ∷ stack) (record s { scene = push_frame f s.scene })

-- a call begins where there is room for its frame, and is the fault `Depth` where there isn't
abbrev pub depth_checked : Bool → ℕ → Frame → List Pending → State → Machine
depth_checked true n f stack s = call_begun f stack (record s { scene = standing n s.scene })
depth_checked false n f stack s = machine (Coming (Faults Depth n)) stack s

-- a call begins with these variables, or is the fault that its arguments are
abbrev pub arguments_checked : ℕ → ℕ → Node → Result (List Value) Fault → List Pending → State → Machine
arguments_checked n root node (Err f) stack s = machine (Coming (Faults f n)) stack s
arguments_checked n root node (Ok variables) stack s =
    depth_checked (nat_lt (length s.scene.frames) most_frames) n (frame_for root node variables s.scene) stack s

-- an item is called: `println` writes its first argument, a function or procedure begins with its variables
abbrev pub item_called : Program → ℕ → Option ℕ → List Value → List Pending → State → Machine
item_called p n None arguments stack s = settled stack (written n (show (item_names p) (first_or_null arguments)) (first_or_null arguments) s)
item_called p n (Some root) arguments stack s = arguments_checked n root (node_at p root) (first_variables (node_at p root) arguments) stack s

-- a call of SL: the first value is the callee, and must be a function
abbrev pub value_called : Program → ℕ → List Value → List Pending → State → Machine
value_called p n (Func i ∷ arguments) stack s = item_called p n (item_at p i).root arguments stack s
value_called p n _ stack s = machine (Coming (Faults WrongKind n)) stack s

-- a `call` of PL/0, whose name must mean an item; its value is dropped
abbrev pub name_called : Program → ℕ → Meaning → List Pending → State → Machine
name_called p n (Means i) stack s = item_called p n (item_at p i).root [] (Dropping ∷ stack) s
name_called p n _ stack s = machine (Coming (Faults Undefined n)) stack s

-- a node whose parts have their values; but for calls it is over at once
abbrev pub combining : Program → ℕ → Kind → List Value → List Pending → State → Machine
combining p n SlCall values stack s = value_called p n values stack s
combining p n (PlCall x) values stack s = name_called p n (node_at p n).meaning stack s
combining p n kind values stack s = settled stack (combined p 0 (λ m u. ends (Stops SpentFuel) u) n kind values s)

-- the part at place i is next, or there is none left
abbrev pub part_begun : Program → ℕ → ℕ → Option ℕ → List Value → List Pending → State → Machine
part_begun p n i None values stack s = combining p n (node_at p n).kind values stack s
part_begun p n i (Some m) values stack s = machine (Entering m) (Operand n values (i + 1) ∷ stack) s

-- the parts from place i on are entered one after another, and then the node does its work
abbrev pub parts_begun : Program → ℕ → List ℕ → ℕ → List Value → List Pending → State → Machine
parts_begun p n ms i values stack s = part_begun p n i (slice_get ms i) values stack s

-- the last part alone is entered
abbrev pub last_begun : List ℕ → List Pending → State → Machine
last_begun [] stack s = machine (Coming (Gives Null)) stack s
last_begun (m ∷ []) stack s = machine (Entering m) stack s
last_begun (m ∷ k ∷ ms) stack s = last_begun (k ∷ ms) stack s

-- an `if` begins with its condition
abbrev pub choice_begun : ℕ → List ℕ → List Pending → State → Machine
choice_begun n (c ∷ block ∷ []) stack s = machine (Entering c) (Choosing n block ∷ stack) s
choice_begun n (c ∷ block ∷ other ∷ []) stack s = machine (Entering c) (ChoosingBetween n block other ∷ stack) s
choice_begun n _ stack s = machine (Coming (Faults WrongKind n)) stack s

-- a `while` begins with its condition
abbrev pub loop_begun : ℕ → List ℕ → List Pending → State → Machine
loop_begun n (test ∷ block ∷ []) stack s = machine (Entering test) (Testing n test block ∷ stack) s
loop_begun n _ stack s = machine (Coming (Faults WrongKind n)) stack s

-- an `||` (true) or an `&&` (false) begins with its left side
abbrev pub either_begun : Bool → ℕ → List ℕ → List Pending → State → Machine
either_begun x n (l ∷ r ∷ []) stack s = machine (Entering l) (LeftSide x n r ∷ stack) s
either_begun x n _ stack s = machine (Coming (Faults WrongKind n)) stack s

-- a node that was entered begins its work
abbrev pub starting_turn : Program → ℕ → Kind → List ℕ → List Pending → State → Machine
starting_turn p n (SlFunction name parameters) ms stack s = last_begun ms stack s
starting_turn p n (PlProcedure name variables) ms stack s = last_begun ms stack s
starting_turn p n SlBody ms stack s = parts_begun p n ms 0 [] (Catching ∷ stack) s
starting_turn p n SlIf ms stack s = choice_begun n ms stack s
starting_turn p n PlIf ms stack s = choice_begun n ms stack s
starting_turn p n SlWhile ms stack s = loop_begun n ms stack s
starting_turn p n PlWhile ms stack s = loop_begun n ms stack s
starting_turn p n SlOr ms stack s = either_begun true n ms stack s
starting_turn p n SlAnd ms stack s = either_begun false n ms stack s
starting_turn p n kind ms stack s = parts_begun p n ms 0 [] stack s

-- one of two machines by a truth value
abbrev pub by_truth : ℕ → Value → Machine → Machine → List Pending → State → Machine
by_truth n (Truth true) if_true if_false stack s = if_true
by_truth n (Truth false) if_true if_false stack s = if_false
by_truth n _ if_true if_false stack s = machine (Coming (Faults WrongKind n)) stack s

-- an unwinding that has come to this frame makes the call again, and else goes on outward
abbrev pub call_again : Bool → ℕ → Frame → List Pending → State → Machine
call_again true m f stack s = call_begun f stack s
call_again false m f stack s = machine (Coming (Unwinds m None)) stack s

-- a value comes to what waits
abbrev pub value_came : Program → Verdicts → Pending → Value → List Pending → State → Machine
value_came p v (Leaving n opened) a stack s = obeyed (verdict_on p v n Call (length s.events)) (machine (Coming (Gives a)) stack (tell n opened (Gave a) s))
value_came p v (Operand n values i) a stack s = parts_begun p n (node_at p n).children i (values ++ a ∷ []) stack s
value_came p v Catching a stack s = machine (Coming (Gives a)) stack s
value_came p v (Choosing n block) a stack s = by_truth n a (machine (Entering block) stack s) (machine (Coming (Gives Null)) stack s) stack s
value_came p v (ChoosingBetween n block other) a stack s = by_truth n a (machine (Entering block) stack s) (machine (Entering other) stack s) stack s
value_came p v (Testing n test block) a stack s = by_truth n a (machine (Entering block) (Turning n test block ∷ stack) s) (machine (Coming (Gives Null)) stack s) stack s
value_came p v (Turning n test block) a stack s = machine (Entering test) (Testing n test block ∷ stack) s
value_came p v (LeftSide true n r) a stack s = by_truth n a (machine (Coming (Gives (Truth true))) stack s) (machine (Entering r) (RightSide n ∷ stack) s) stack s
value_came p v (LeftSide false n r) a stack s = by_truth n a (machine (Entering r) (RightSide n ∷ stack) s) (machine (Coming (Gives (Truth false))) stack s) stack s
value_came p v (RightSide n) a stack s = by_truth n a (machine (Coming (Gives (Truth true))) stack s) (machine (Coming (Gives (Truth false))) stack s) stack s
value_came p v (InCall k f) a stack s = machine (Coming (Gives a)) stack (popped s)
value_came p v Dropping a stack s = machine (Coming (Gives Null)) stack s

-- a result other than a value comes to what waits
abbrev pub other_came : Program → Verdicts → Pending → NodeResult → List Pending → State → Machine
other_came p v (Leaving n opened) r stack s = settled stack (exit p v n opened (ends r s))
other_came p v Catching r stack s = settled stack (caught (ends r s))
other_came p v (Turning n test block) Continues stack s = machine (Entering test) (Testing n test block ∷ stack) s
other_came p v (Turning n test block) Breaks stack s = machine (Coming (Gives Null)) stack s
other_came p v (InCall k f) (Unwinds m None) stack s = call_again (m == k) m f stack (popped s)
other_came p v (InCall k f) r stack s = settled stack (returned k (ends r s) (λ t. ends r t))
other_came p v _ r stack s = machine (Coming r) stack s

-- a result goes to what waits on top
abbrev pub coming_turn : Program → Verdicts → NodeResult → List Pending → State → Machine
coming_turn p v r [] s = machine (Coming r) [] s
coming_turn p v (Gives a) (x ∷ stack) s = value_came p v x a stack s
coming_turn p v r (x ∷ stack) s = other_came p v x r stack s

-- one turn, by what is done next
abbrev pub mode_turn : Program → Verdicts → Mode → List Pending → State → Machine
mode_turn p v (Entering n) stack s = entering_turn p v s.left n stack s
mode_turn p v (Starting n) stack s = starting_turn p n (node_at p n).kind (node_at p n).children stack s
mode_turn p v (Coming r) stack s = coming_turn p v r stack s

-- one turn of the machine
unfoldable pub turn : Program → Verdicts → Machine → Machine
turn p v m = mode_turn p v m.mode m.stack m.state

-- ---- whole runs

-- the machine as it begins with a root
abbrev pub start : Program → ℕ → ℕ → Machine
start p fuel root = call_begun (entry_frame root (node_at p root) (opening p fuel)) [] (opening p fuel)

-- so many turns
abbrev pub after_turns : Program → Verdicts → ℕ → Machine → Machine
after_turns p v zero m = m
after_turns p v (suc k) m = after_turns p v k (turn p v m)

-- ---- where a state leads

-- a node's meaning, whatever the bound
abbrev pub whole : Program → Verdicts → Run
whole p v n s = evaluated p v s.left n s

-- the outcome of the right side of an `||` or an `&&`: a truth value
abbrev pub right_outcome : Program → Verdicts → ℕ → ℕ → State → Outcome
right_outcome p v n r u = right_truth (whole p v) n r u

-- what is made of an outcome by what waits for it
abbrev pub resumed : Program → Verdicts → Pending → Outcome → Outcome
resumed p v (Leaving n opened) o = exit p v n opened o
resumed p v (Operand n values i) o =
    with_value o (λ a t. parts (whole p v) (drop i (node_at p n).children) (values ++ a ∷ []) (λ vs u. combined p u.left (whole p v) n (node_at p n).kind vs u) t)
resumed p v Catching o = caught o
resumed p v (Choosing n block) o = with_value o (λ a t. on_truth n a (whole p v block) (ends (Gives Null)) t)
resumed p v (ChoosingBetween n block other) o = with_value o (λ a t. on_truth n a (whole p v block) (whole p v other) t)
resumed p v (Testing n test block) o =
    with_value o (λ a t. on_truth n a (λ u. after_turn (whole p v block u) (λ w. turns w.left (whole p v) n test block w)) (ends (Gives Null)) t)
resumed p v (Turning n test block) o = after_turn o (λ w. turns w.left (whole p v) n test block w)
resumed p v (LeftSide true n r) o = with_value o (λ a t. on_truth n a (ends (Gives (Truth true))) (right_outcome p v n r) t)
resumed p v (LeftSide false n r) o = with_value o (λ a t. on_truth n a (right_outcome p v n r) (ends (Gives (Truth false))) t)
resumed p v (RightSide n) o = with_value o (λ b w. on_truth n b (ends (Gives (Truth true))) (ends (Gives (Truth false))) w)
resumed p v (InCall k f) o = returned k o (λ t. invoked t.left (whole p v) f t)
resumed p v Dropping o = with_value o (λ a t. ends (Gives Null) t)

-- the outcome of the whole stack, where what is on top comes to this outcome
abbrev pub completion : Program → Verdicts → List Pending → Outcome → Outcome
completion p v [] o = o
completion p v (x ∷ stack) o = completion p v stack (resumed p v x o)

-- the outcome of what is done next alone
abbrev pub mode_outcome : Program → Verdicts → Mode → State → Outcome
mode_outcome p v (Entering n) s = whole p v n s
mode_outcome p v (Starting n) s = inside p s.left (whole p v) n (node_at p n).kind (node_at p n).children s
mode_outcome p v (Coming r) s = ends r s

-- the outcome to which the machine leads
unfoldable pub point : Program → Verdicts → Machine → Outcome
point p v m = completion p v m.stack (mode_outcome p v m.mode m.state)
