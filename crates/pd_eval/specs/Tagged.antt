-- Twin of the code, for its proofs: no public contract needs it.
-- What the evaluator asks of tags, kinds, values and results.
use Rattle.std.specs.Prelude.{ℕ, Bool, true, false, if◌then◌else◌, ◌==◌, List, [], ◌∷◌, Option, None, Some, Result, Ok, Err}
use Rattle.pd_values.specs.declared.value.Tag.{Tag}
use Rattle.pd_values.specs.declared.value.Value.{Value}
use Rattle.pd_values.specs.declared.value.Value.TheVariants.{Bool as Truth, Null}
use Rattle.pd_machine.specs.declared.event.Cause.{Cause}
use Rattle.pd_machine.specs.declared.event.Cause.TheVariants.{Returning, Breaking, Continuing, Faulting, Unwinding}
use Rattle.pd_machine.specs.declared.run.Frame.{Frame}
use Rattle.pd_machine.specs.declared.run.Mode.{Mode}
use Rattle.pd_machine.specs.declared.run.Mode.TheVariants.{Coming, Entering}
use Rattle.pd_machine.specs.declared.run.Pending.TheVariants.{RightSide, Testing}
use Rattle.pd_meaning.specs.Meaning.{popped}
use Rattle.pd_machine.specs.declared.run.Pending.{Pending}
use Rattle.pd_machine.specs.Events.{State}
use Rattle.pd_meaning.specs.Machine.{Machine, machine, by_truth, call_begun}
use Rattle.pd_machine.specs.declared.run.NodeResult.{NodeResult}
use Rattle.pd_machine.specs.declared.run.NodeResult.TheVariants.{Gives, Returns, Breaks, Continues, Faults, Unwinds}

-- whether a node with these tags gives events
abbrev pub is_tagged : List Tag → Bool
is_tagged [] = false
is_tagged (t ∷ ts) = true

-- a result as a value, or as another result
abbrev pub value_of : NodeResult → Result Value NodeResult
value_of (Gives a) = Ok a
value_of r = Err r

-- a result is to go to what waits
abbrev pub IsComing : Mode → Type 0
IsComing (Coming r) = Unit {0}
IsComing _ = ⊥

-- a result other than a value
abbrev pub IsOther : NodeResult → Type 0
IsOther (Gives a) = ⊥
IsOther _ = Unit {0}

-- the block of a `while` comes to a jump: a continue leads to the next turn, and a break ends the loop
abbrev pub jump_came : ℕ → ℕ → ℕ → NodeResult → List Pending → State → Machine
jump_came n test block Continues stack s = machine (Entering test) (Testing n test block ∷ stack) s
jump_came n test block Breaks stack s = machine (Coming (Gives Null)) stack s
jump_came n test block r stack s = machine (Coming r) stack s

-- a call is over without a value: an unwinding to this very frame makes the call again, or gives it a value
abbrev pub call_ended : ℕ → Frame → NodeResult → List Pending → State → Machine
call_ended k f (Unwinds m None) stack s = if m == k then call_begun f stack (popped s) else machine (Coming (Unwinds m None)) stack (popped s)
call_ended k f (Unwinds m (Some a)) stack s = machine (Coming (if m == k then Gives a else Unwinds m (Some a))) stack (popped s)
call_ended k f r stack s = machine (Coming r) stack (popped s)

-- the left side of an `||` (at true) or an `&&` (at false) has its value
abbrev pub side_came : Bool → ℕ → ℕ → Value → List Pending → State → Machine
side_came true n right a stack s = by_truth n a (machine (Coming (Gives (Truth true))) stack s) (machine (Entering right) (RightSide n ∷ stack) s) stack s
side_came false n right a stack s = by_truth n a (machine (Entering right) (RightSide n ∷ stack) s) (machine (Coming (Gives (Truth false))) stack s) stack s

-- with what cause an activation leaves; none for a value or a stop
abbrev pub cause_of : NodeResult → Option Cause
cause_of (Returns a) = Some Returning
cause_of Breaks = Some Breaking
cause_of Continues = Some Continuing
cause_of (Faults f n) = Some (Faulting f)
cause_of (Unwinds k a) = Some Unwinding
cause_of _ = None
