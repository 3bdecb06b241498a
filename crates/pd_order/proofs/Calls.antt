-- Each turn of a machine keeps a call under all that waits.
use Rattle.std.proofs.Common.{ℕ, zero, suc, ◌<◌, Bool, true, false, List, [], ◌∷◌, ◌++◌, length, Option, Some, None, Result, Ok, Err, arith}
use Rattle.std.specs.Prelude.{nat_lt, slice_get, ◌==◌}
use Rattle.pd_values.specs.declared.value.Value.{Value}
use Rattle.pd_values.specs.declared.value.Value.TheVariants.{Bool as Truth, Null, Func}
use Rattle.pd_values.specs.declared.value.Fault.{Fault}
use Rattle.pd_values.specs.declared.value.Tag.{Tag}
use Rattle.pd_values.specs.declared.value.Tag.TheVariants.{Statement, Call}
use Rattle.pd_tree.specs.declared.kind.Kind.{Kind}
use Rattle.pd_tree.specs.declared.kind.Kind.TheVariants.{SlFunction, SlBody, SlIf, SlWhile, SlOr, SlAnd, SlCall, PlProcedure, PlIf, PlWhile, PlCall}
use Rattle.pd_tree.specs.declared.kind.Meaning.{Meaning}
use Rattle.pd_tree.specs.declared.kind.Meaning.TheVariants.{Item as Means}
use Rattle.pd_tree.specs.Program.{Program, Node, node_at, item_at}
use Rattle.pd_machine.specs.declared.event.EventKind.TheVariants.{Enter, Return as Gave}
use Rattle.pd_machine.specs.declared.event.Verdict.{Verdict}
use Rattle.pd_machine.specs.declared.event.Verdict.TheVariants.{Go, Reenter, Return, Kill}
use Rattle.pd_machine.specs.declared.run.Cutoff.TheVariants.{SpentFuel}
use Rattle.pd_machine.specs.declared.run.Frame.{Frame}
use Rattle.pd_machine.specs.declared.run.NodeResult.{NodeResult}
use Rattle.pd_machine.specs.declared.run.NodeResult.TheVariants.{Gives, Breaks, Continues, Unwinds, Stops}
use Rattle.pd_machine.specs.declared.run.Pending.{Pending}
use Rattle.pd_machine.specs.declared.run.Pending.TheVariants.{Leaving, Operand, Catching, Choosing, ChoosingBetween, Testing, Turning, LeftSide, RightSide, InCall, Dropping}
use Rattle.pd_machine.specs.declared.run.Mode.{Mode}
use Rattle.pd_machine.specs.declared.run.Mode.TheVariants.{Entering, Starting, Coming}
use Rattle.pd_machine.specs.Events.{State, tell}
use Rattle.pd_meaning.specs.Meaning.{Verdicts, Outcome, ends, combined, popped, returned, verdict_on, first_variables, frame_for, most_frames}
use Rattle.pd_meaning.specs.Machine.{Machine, machine, settled, obeyed, entered, entering_turn, depth_checked, arguments_checked, item_called, value_called, name_called, combining, part_begun, parts_begun, last_begun, choice_begun, loop_begun, either_begun, starting_turn, by_truth, call_again, value_came, other_came, coming_turn, mode_turn, turn}
use Rattle.pd_order.specs.Standing.{IsInCall, IsInCallAt, RestsOnCall, called}

-- some call waits
pub some_called : (stack : List Pending) → IsInCall stack → 0 < length (called stack)
some_called [] h = absurd h
some_called (InCall k f ∷ stack) h = omega arith
some_called (Leaving n opened ∷ stack) h = some_called stack h
some_called (Operand n values i ∷ stack) h = some_called stack h
some_called (Catching ∷ stack) h = some_called stack h
some_called (Choosing n block ∷ stack) h = some_called stack h
some_called (ChoosingBetween n block other ∷ stack) h = some_called stack h
some_called (Testing n test block ∷ stack) h = some_called stack h
some_called (Turning n test block ∷ stack) h = some_called stack h
some_called (LeftSide x n r ∷ stack) h = some_called stack h
some_called (RightSide n ∷ stack) h = some_called stack h
some_called (Dropping ∷ stack) h = some_called stack h

-- where something waits, it rests on a call
pub rests : (stack : List Pending) → IsInCall stack → RestsOnCall stack
rests [] h = tt
rests (x ∷ stack) h = h

-- one more call
pub in_one_more : (k : ℕ) (f : Frame) (stack : List Pending) → RestsOnCall stack → IsInCall (InCall k f ∷ stack)
in_one_more k f [] h = tt
in_one_more k f (x ∷ stack) h = h

-- what the innermost call rests on
under_call : (k : ℕ) (f : Frame) (stack : List Pending) → IsInCall (InCall k f ∷ stack) → RestsOnCall stack
under_call k f [] h = tt
under_call k f (x ∷ stack) h = h

module _ (p : Program) (v : Verdicts) where
  abbrev Good : Machine → Type 0
  Good m = IsInCallAt m.mode m.stack

  settled_good : (stack : List Pending) (o : Outcome) → RestsOnCall stack → Good (settled stack o)
  settled_good stack (ends r s) h = h

  obeyed_good : (w : Verdict) (mode : Mode) (stack : List Pending) (s : State) → IsInCallAt mode stack → RestsOnCall stack → Good (obeyed w (machine mode stack s))
  obeyed_good Go mode stack s g h = g
  obeyed_good (Reenter k) mode stack s g h = h
  obeyed_good (Return k a) mode stack s g h = h
  obeyed_good Kill mode stack s g h = h

  depth_good : (x : Bool) (n : ℕ) (f : Frame) (stack : List Pending) (s : State) → RestsOnCall stack → Good (depth_checked x n f stack s)
  depth_good true n f stack s h = in_one_more (length s.scene.frames) f stack h
  depth_good false n f stack s h = h

  arguments_good : (n root : ℕ) (node : Node) (x : Result (List Value) Fault) (stack : List Pending) (s : State) → RestsOnCall stack → Good (arguments_checked n root node x stack s)
  arguments_good n root node (Err f) stack s h = h
  arguments_good n root node (Ok vs) stack s h = depth_good (nat_lt (length s.scene.frames) most_frames) n (frame_for root node vs s.scene) stack s h

  item_good : (n : ℕ) (root : Option ℕ) (arguments : List Value) (stack : List Pending) (s : State) → RestsOnCall stack → Good (item_called p n root arguments stack s)
  item_good n None arguments stack s h = settled_good stack _ h
  item_good n (Some root) arguments stack s h = arguments_good n root (node_at p root) (first_variables (node_at p root) arguments) stack s h

  value_called_good : (n : ℕ) (values : List Value) (stack : List Pending) (s : State) → RestsOnCall stack → Good (value_called p n values stack s)
  value_called_good n (Func i ∷ arguments) stack s h = item_good n (item_at p i).root arguments stack s h
  value_called_good n _ stack s h = h

  name_called_good : (n : ℕ) (x : Meaning) (stack : List Pending) (s : State) → IsInCall stack → Good (name_called p n x stack s)
  name_called_good n (Means i) stack s h = item_good n (item_at p i).root [] (Dropping ∷ stack) s h
  name_called_good n _ stack s h = rests stack h

  combining_good : (n : ℕ) (kind : Kind) (values : List Value) (stack : List Pending) (s : State) → IsInCall stack → Good (combining p n kind values stack s)
  combining_good n SlCall values stack s h = value_called_good n values stack s (rests stack h)
  combining_good n (PlCall x) values stack s h = name_called_good n (node_at p n).meaning stack s h
  combining_good n kind values stack s h = settled_good stack (combined p 0 (λ m u. ends (Stops SpentFuel) u) n kind values s) (rests stack h)

  part_good : (n i : ℕ) (x : Option ℕ) (values : List Value) (stack : List Pending) (s : State) → IsInCall stack → Good (part_begun p n i x values stack s)
  part_good n i None values stack s h = combining_good n (node_at p n).kind values stack s h
  part_good n i (Some m) values stack s h = h

  parts_good : (n : ℕ) (ms : List ℕ) (i : ℕ) (values : List Value) (stack : List Pending) (s : State) → IsInCall stack → Good (parts_begun p n ms i values stack s)
  parts_good n ms i values stack s h = part_good n i (slice_get ms i) values stack s h

  last_good : (ms : List ℕ) (stack : List Pending) (s : State) → IsInCall stack → Good (last_begun ms stack s)
  last_good [] stack s h = rests stack h
  last_good (m ∷ []) stack s h = h
  last_good (m ∷ k ∷ ms) stack s h = last_good (k ∷ ms) stack s h

  choice_good : (n : ℕ) (ms : List ℕ) (stack : List Pending) (s : State) → IsInCall stack → Good (choice_begun n ms stack s)
  choice_good n (c ∷ b ∷ []) stack s h = h
  choice_good n (c ∷ b ∷ d ∷ []) stack s h = h
  choice_good n _ stack s h = rests stack h

  loop_good : (n : ℕ) (ms : List ℕ) (stack : List Pending) (s : State) → IsInCall stack → Good (loop_begun n ms stack s)
  loop_good n (test ∷ block ∷ []) stack s h = h
  loop_good n _ stack s h = rests stack h

  either_good : (x : Bool) (n : ℕ) (ms : List ℕ) (stack : List Pending) (s : State) → IsInCall stack → Good (either_begun x n ms stack s)
  either_good x n (l ∷ r ∷ []) stack s h = h
  either_good x n _ stack s h = rests stack h

  starting_good : (n : ℕ) (kind : Kind) (ms : List ℕ) (stack : List Pending) (s : State) → IsInCall stack → Good (starting_turn p n kind ms stack s)
  starting_good n (SlFunction name parameters) ms stack s h = last_good ms stack s h
  starting_good n (PlProcedure name variables) ms stack s h = last_good ms stack s h
  starting_good n SlBody ms stack s h = parts_good n ms 0 [] (Catching ∷ stack) s h
  starting_good n SlIf ms stack s h = choice_good n ms stack s h
  starting_good n PlIf ms stack s h = choice_good n ms stack s h
  starting_good n SlWhile ms stack s h = loop_good n ms stack s h
  starting_good n PlWhile ms stack s h = loop_good n ms stack s h
  starting_good n SlOr ms stack s h = either_good true n ms stack s h
  starting_good n SlAnd ms stack s h = either_good false n ms stack s h
  starting_good n kind ms stack s h = parts_good n ms 0 [] stack s h

  truth_good : (n : ℕ) (a : Value) (m m' : Machine) (stack : List Pending) (s : State) → RestsOnCall stack → Good m → Good m' → Good (by_truth n a m m' stack s)
  truth_good n (Truth true) m m' stack s h g k = g
  truth_good n (Truth false) m m' stack s h g k = k
  truth_good n _ m m' stack s h g k = h

  value_good : (x : Pending) (a : Value) (stack : List Pending) (s : State) → IsInCall (x ∷ stack) → Good (value_came p v x a stack s)
  value_good (Leaving n opened) a stack s h = obeyed_good (verdict_on p v n Call (length s.events)) (Coming (Gives a)) stack (tell n opened (Gave a) s) (rests stack h) (rests stack h)
  value_good (Operand n values i) a stack s h = parts_good n (node_at p n).children i (values ++ a ∷ []) stack s h
  value_good Catching a stack s h = rests stack h
  value_good (Choosing n block) a stack s h = truth_good n a (machine (Entering block) stack s) (machine (Coming (Gives Null)) stack s) stack s (rests stack h) h (rests stack h)
  value_good (ChoosingBetween n block other) a stack s h = truth_good n a (machine (Entering block) stack s) (machine (Entering other) stack s) stack s (rests stack h) h h
  value_good (Testing n test block) a stack s h = truth_good n a (machine (Entering block) (Turning n test block ∷ stack) s) (machine (Coming (Gives Null)) stack s) stack s (rests stack h) h (rests stack h)
  value_good (Turning n test block) a stack s h = h
  value_good (LeftSide true n r) a stack s h = truth_good n a (machine (Coming (Gives (Truth true))) stack s) (machine (Entering r) (RightSide n ∷ stack) s) stack s (rests stack h) (rests stack h) h
  value_good (LeftSide false n r) a stack s h = truth_good n a (machine (Entering r) (RightSide n ∷ stack) s) (machine (Coming (Gives (Truth false))) stack s) stack s (rests stack h) h (rests stack h)
  value_good (RightSide n) a stack s h = truth_good n a (machine (Coming (Gives (Truth true))) stack s) (machine (Coming (Gives (Truth false))) stack s) stack s (rests stack h) (rests stack h) (rests stack h)
  value_good (InCall k f) a stack s h = under_call k f stack h
  value_good Dropping a stack s h = rests stack h

  again_good : (x : Bool) (m : ℕ) (f : Frame) (stack : List Pending) (s : State) → RestsOnCall stack → Good (call_again x m f stack s)
  again_good true m f stack s h = in_one_more (length s.scene.frames) f stack h
  again_good false m f stack s h = h

  call_good : (k : ℕ) (f : Frame) (r : NodeResult) (stack : List Pending) (s : State) → RestsOnCall stack → Good (other_came p v (InCall k f) r stack s)
  call_good k f (Unwinds m None) stack s h = again_good (m == k) m f stack (popped s) h
  call_good k f r stack s h = settled_good stack (returned k (ends r s) (λ t. ends r t)) h

  other_good : (x : Pending) (r : NodeResult) (stack : List Pending) (s : State) → IsInCall (x ∷ stack) → Good (other_came p v x r stack s)
  other_good (Leaving n opened) r stack s h = settled_good stack _ (rests stack h)
  other_good (Operand n values i) r stack s h = rests stack h
  other_good Catching r stack s h = settled_good stack _ (rests stack h)
  other_good (Choosing n block) r stack s h = rests stack h
  other_good (ChoosingBetween n block other) r stack s h = rests stack h
  other_good (Testing n test block) r stack s h = rests stack h
  other_good (Turning n test block) Continues stack s h = h
  other_good (Turning n test block) Breaks stack s h = rests stack h
  other_good (Turning n test block) r stack s h = rests stack h
  other_good (LeftSide x n right) r stack s h = rests stack h
  other_good (RightSide n) r stack s h = rests stack h
  other_good (InCall k f) r stack s h = call_good k f r stack s (under_call k f stack h)
  other_good Dropping r stack s h = rests stack h

  coming_good : (r : NodeResult) (stack : List Pending) (s : State) → RestsOnCall stack → Good (coming_turn p v r stack s)
  coming_good r [] s h = tt
  coming_good (Gives a) (x ∷ stack) s h = value_good x a stack s h
  coming_good r (x ∷ stack) s h = other_good x r stack s h

  entered_good : (n : ℕ) (tags : List Tag) (stack : List Pending) (s : State) → IsInCall stack → Good (entered p v n tags stack s)
  entered_good n [] stack s h = h
  entered_good n (t ∷ ts) stack s h = obeyed_good (verdict_on p v n Statement (length s.events)) (Starting n) (Leaving n (length s.events) ∷ stack) (tell n (length s.events) Enter s) h h

  entering_good : (left n : ℕ) (stack : List Pending) (s : State) → IsInCall stack → Good (entering_turn p v left n stack s)
  entering_good zero n stack s h = rests stack h
  entering_good (suc left) n stack s h = entered_good n (node_at p n).tags stack (record s { left = left }) h

  mode_good : (mode : Mode) (stack : List Pending) (s : State) → IsInCallAt mode stack → Good (mode_turn p v mode stack s)
  mode_good (Entering n) stack s h = entering_good s.left n stack s h
  mode_good (Starting n) stack s h = starting_good n (node_at p n).kind (node_at p n).children stack s h
  mode_good (Coming r) stack s h = coming_good r stack s h

  -- a turn keeps it
  pub turn_in_call : (m : Machine) → Good m → Good (turn p v m)
  unfolding turn
  turn_in_call m h = mode_good m.mode m.stack m.state h
