-- Each turn of the machine lowers a number, until the machine is over.
use Rattle.pd_machine.specs.declared.run.Frame.{Frame}
use Rattle.pd_machine.specs.declared.run.Cutoff.TheVariants.{SpentFuel}
use Rattle.pd_machine.specs.declared.run.NodeResult.{NodeResult}
use Rattle.pd_machine.specs.declared.run.NodeResult.TheVariants.{Gives, Returns, Breaks, Continues, Faults, Unwinds, Stops}
use Rattle.pd_machine.specs.declared.run.Pending.{Pending}
use Rattle.pd_machine.specs.declared.run.Pending.TheVariants.{Leaving, Operand, Catching, Choosing, ChoosingBetween, Testing, Turning, LeftSide, RightSide, InCall, Dropping}
use Rattle.pd_machine.specs.declared.run.Mode.{Mode}
use Rattle.pd_machine.specs.declared.run.Mode.TheVariants.{Entering, Starting, Coming}
use Rattle.std.proofs.Common.{◌≡◌, ℕ, zero, suc, ◌+◌, ◌*◌, ◌≤◌, ◌<◌, Bool, true, false, List, [], ◌∷◌, ◌++◌, length, Option, Some, None, Result, Ok, Err, refl, arith}
use Rattle.std.specs.Prelude.{nat_lt, nat_le, cond, slice_get, ◌^◌, ◌==◌}
use Rattle.pd_values.specs.declared.value.Value.{Value}
use Rattle.pd_values.specs.declared.value.Value.TheVariants.{Bool as Truth, Null, Func}
use Rattle.pd_values.specs.declared.value.Fault.{Fault}
use Rattle.pd_values.specs.declared.value.Tag.{Tag}
use Rattle.pd_values.specs.declared.value.Tag.TheVariants.{Statement, Call}
use Rattle.pd_tree.specs.declared.kind.Kind.{Kind}
use Rattle.pd_tree.specs.declared.kind.Kind.TheVariants.{SlFunction, SlBody, SlIf, SlWhile, SlOr, SlAnd, SlCall, PlProcedure, PlIf, PlWhile, PlCall}
use Rattle.pd_tree.specs.declared.kind.Meaning.{Meaning}
use Rattle.pd_tree.specs.declared.kind.Meaning.TheVariants.{Item as Means}
use Rattle.pd_machine.specs.declared.event.EventKind.TheVariants.{Enter, Return as Gave}
use Rattle.pd_machine.specs.declared.event.Verdict.{Verdict}
use Rattle.pd_machine.specs.declared.event.Verdict.TheVariants.{Go, Reenter, Return, Kill}
use Rattle.pd_values.specs.Operators.{show}
use Rattle.pd_tree.specs.Program.{Program, Node, node_at, item_at, item_names}
use Rattle.pd_machine.specs.Events.{State, tell}
use Rattle.pd_meaning.specs.Meaning.{Verdicts, Outcome, ends, verdict_on, popped, first_or_null, first_variables, frame_for, most_frames, combined, written}
use Rattle.pd_meaning.specs.Machine.{Machine, machine, settled, obeyed, entered, entering_turn, depth_checked, arguments_checked, item_called, value_called, name_called, combining, part_begun, parts_begun, last_begun, choice_begun, loop_begun, either_begun, starting_turn, by_truth, call_again, value_came, other_came, coming_turn, mode_turn, turn}
use Rattle.pd_meaning.specs.Machine.{whole}
use Rattle.pd_meaning.specs.Weight.{pending_weight, stack_weight, mode_weight, weight_of, weight}
use Rattle.pd_machine.specs.Held.{IsOverAt}
use Rattle.pd_meaning.proofs.Bounds.{left_of, combined_agrees}
use Rattle.pd_meaning.proofs.Simulation.{IsOther, same_whole}

coming_le : (r : NodeResult) → mode_weight (Coming r) ≤ 7
coming_le (Stops x) = omega arith
coming_le (Gives a) = omega arith
coming_le (Returns a) = omega arith
coming_le Breaks = omega arith
coming_le Continues = omega arith
coming_le (Faults f n) = omega arith
coming_le (Unwinds k a) = omega arith

settled_le : (stack : List Pending) (o : Outcome) → weight (settled stack o) ≤ 6 * left_of o + stack_weight stack + 7
settled_le stack (ends r s) = omega (arith, coming_le r)

settled_below : (stack : List Pending) (o : Outcome) (l : ℕ) → left_of o ≤ l → weight (settled stack o) ≤ 6 * l + stack_weight stack + 7
settled_below stack o l h = omega (arith, settled_le stack o)

pub obeyed_le : (w : Verdict) (m : Machine) → 7 ≤ mode_weight m.mode → weight (obeyed w m) ≤ weight m
obeyed_le Go m h = omega arith
obeyed_le (Reenter k) m h = omega arith
obeyed_le (Return k a) m h = omega arith
obeyed_le Kill m h = omega arith

-- what a machine may weigh that is made over this stack from this state
abbrev Below : ℕ → Machine → List Pending → State → Type 0
Below k m stack s = weight m ≤ 6 * s.left + stack_weight stack + k

cond_left : (x : Bool) (o o' : Outcome) (l : ℕ) → left_of o ≤ l → left_of o' ≤ l → left_of (cond x o o') ≤ l
cond_left true o o' l h k = h
cond_left false o o' l h k = k

written_left : (n : ℕ) (bytes : List ℕ) (a : Value) (s : State) → left_of (written n bytes a s) ≤ s.left
written_left n bytes a s = cond_left (nat_le (length s.output + length bytes + 1) (2 ^ 24)) _ _ s.left (omega arith) (omega arith)

module _ (p : Program) (v : Verdicts) where
  depth_le : (x : Bool) (n : ℕ) (f : Frame) (stack : List Pending) (s : State) → Below 7 (depth_checked x n f stack s) stack s
  depth_le true n f stack s = omega arith
  depth_le false n f stack s = omega arith

  arguments_le : (n root : ℕ) (node : Node) (x : Result (List Value) Fault) (stack : List Pending) (s : State) → Below 7 (arguments_checked n root node x stack s) stack s
  arguments_le n root node (Err f) stack s = omega arith
  arguments_le n root node (Ok vs) stack s = depth_le (nat_lt (length s.scene.frames) most_frames) n (frame_for root node vs s.scene) stack s

  item_le : (n : ℕ) (root : Option ℕ) (arguments : List Value) (stack : List Pending) (s : State) → Below 7 (item_called p n root arguments stack s) stack s
  item_le n None arguments stack s =
      settled_below stack (written n (show (item_names p) (first_or_null arguments)) (first_or_null arguments) s) s.left
      (written_left n (show (item_names p) (first_or_null arguments)) (first_or_null arguments) s)
  item_le n (Some root) arguments stack s = arguments_le n root (node_at p root) (first_variables (node_at p root) arguments) stack s

  value_called_le : (n : ℕ) (values : List Value) (stack : List Pending) (s : State) → Below 7 (value_called p n values stack s) stack s
  value_called_le n (Func i ∷ arguments) stack s = item_le n (item_at p i).root arguments stack s
  value_called_le n _ stack s = omega arith

  name_called_le : (n : ℕ) (x : Meaning) (stack : List Pending) (s : State) → Below 8 (name_called p n x stack s) stack s
  name_called_le n (Means i) stack s = omega (arith, item_le n (item_at p i).root [] (Dropping ∷ stack) s)
  name_called_le n _ stack s = omega arith

  combined_left : (n : ℕ) (kind : Kind) (values : List Value) (s : State) → left_of (combined p s.left (whole p v) n kind values s) ≤ s.left
  combined_left n kind values s = (combined_agrees p s.left s.left s.left (omega arith) (omega arith) (whole p v) (whole p v) (same_whole p v s.left) n kind values s (omega arith)).kept

  combining_le : (n : ℕ) (kind : Kind) (values : List Value) (stack : List Pending) (s : State) → Below 8 (combining p n kind values stack s) stack s
  combining_le n SlCall values stack s = omega (arith, value_called_le n values stack s)
  combining_le n (PlCall x) values stack s = name_called_le n (node_at p n).meaning stack s
  combining_le n kind values stack s = let h = settled_below stack (combined p 0 (λ m u. ends (Stops SpentFuel) u) n kind values s) s.left (combined_left n kind values s) in omega arith

  part_le : (n i : ℕ) (x : Option ℕ) (values : List Value) (stack : List Pending) (s : State) → Below 8 (part_begun p n i x values stack s) stack s
  part_le n i None values stack s = combining_le n (node_at p n).kind values stack s
  part_le n i (Some m) values stack s = omega arith

  parts_le : (n : ℕ) (ms : List ℕ) (i : ℕ) (values : List Value) (stack : List Pending) (s : State) → Below 8 (parts_begun p n ms i values stack s) stack s
  parts_le n ms i values stack s = part_le n i (slice_get ms i) values stack s

  last_le : (ms : List ℕ) (stack : List Pending) (s : State) → Below 7 (last_begun ms stack s) stack s
  last_le [] stack s = omega arith
  last_le (m ∷ []) stack s = omega arith
  last_le (m ∷ k ∷ ms) stack s = last_le (k ∷ ms) stack s

  choice_le : (n : ℕ) (ms : List ℕ) (stack : List Pending) (s : State) → Below 7 (choice_begun n ms stack s) stack s
  choice_le n (c ∷ b ∷ []) stack s = omega arith
  choice_le n (c ∷ b ∷ d ∷ []) stack s = omega arith
  choice_le n _ stack s = omega arith

  loop_le : (n : ℕ) (ms : List ℕ) (stack : List Pending) (s : State) → Below 7 (loop_begun n ms stack s) stack s
  loop_le n (test ∷ block ∷ []) stack s = omega arith
  loop_le n _ stack s = omega arith

  either_le : (x : Bool) (n : ℕ) (ms : List ℕ) (stack : List Pending) (s : State) → Below 7 (either_begun x n ms stack s) stack s
  either_le x n (l ∷ r ∷ []) stack s = omega arith
  either_le x n _ stack s = omega arith

  starting_le : (n : ℕ) (kind : Kind) (ms : List ℕ) (stack : List Pending) (s : State) → Below 9 (starting_turn p n kind ms stack s) stack s
  starting_le n (SlFunction name parameters) ms stack s = omega (arith, last_le ms stack s)
  starting_le n (PlProcedure name variables) ms stack s = omega (arith, last_le ms stack s)
  starting_le n SlBody ms stack s = omega (arith, parts_le n ms 0 [] (Catching ∷ stack) s)
  starting_le n SlIf ms stack s = omega (arith, choice_le n ms stack s)
  starting_le n PlIf ms stack s = omega (arith, choice_le n ms stack s)
  starting_le n SlWhile ms stack s = omega (arith, loop_le n ms stack s)
  starting_le n PlWhile ms stack s = omega (arith, loop_le n ms stack s)
  starting_le n SlOr ms stack s = omega (arith, either_le true n ms stack s)
  starting_le n SlAnd ms stack s = omega (arith, either_le false n ms stack s)
  starting_le n kind ms stack s = omega (arith, parts_le n ms 0 [] stack s)

  truth_le : (k n : ℕ) (a : Value) (m m' : Machine) (stack : List Pending) (s : State) → 7 ≤ k → Below k m stack s → Below k m' stack s → Below k (by_truth n a m m' stack s) stack s
  truth_le k n (Truth true) m m' stack s le h g = h
  truth_le k n (Truth false) m m' stack s le h g = g
  truth_le k n _ m m' stack s le h g = omega arith

  value_le : (x : Pending) (a : Value) (stack : List Pending) (s : State) → weight (value_came p v x a stack s) < 6 * s.left + (pending_weight x + stack_weight stack) + 7
  value_le (Leaving n opened) a stack s =
      let h = obeyed_le (verdict_on p v n Call (length s.events)) (machine (Coming (Gives a)) stack (tell n opened (Gave a) s)) (omega arith) in omega arith
  value_le (Operand n values i) a stack s = omega (arith, parts_le n (node_at p n).children i (values ++ a ∷ []) stack s)
  value_le Catching a stack s = omega arith
  value_le (Choosing n block) a stack s = let h = truth_le 7 n a (machine (Entering block) stack s) (machine (Coming (Gives Null)) stack s) stack s (omega arith) (omega arith) (omega arith) in omega arith
  value_le (ChoosingBetween n block other) a stack s = let h = truth_le 7 n a (machine (Entering block) stack s) (machine (Entering other) stack s) stack s (omega arith) (omega arith) (omega arith) in omega arith
  value_le (Testing n test block) a stack s = let h = truth_le 7 n a (machine (Entering block) (Turning n test block ∷ stack) s) (machine (Coming (Gives Null)) stack s) stack s (omega arith) (omega arith) (omega arith) in omega arith
  value_le (Turning n test block) a stack s = omega arith
  value_le (LeftSide true n r) a stack s = let h = truth_le 7 n a (machine (Coming (Gives (Truth true))) stack s) (machine (Entering r) (RightSide n ∷ stack) s) stack s (omega arith) (omega arith) (omega arith) in omega arith
  value_le (LeftSide false n r) a stack s = let h = truth_le 7 n a (machine (Entering r) (RightSide n ∷ stack) s) (machine (Coming (Gives (Truth false))) stack s) stack s (omega arith) (omega arith) (omega arith) in omega arith
  value_le (RightSide n) a stack s = let h = truth_le 7 n a (machine (Coming (Gives (Truth true))) stack s) (machine (Coming (Gives (Truth false))) stack s) stack s (omega arith) (omega arith) (omega arith) in omega arith
  value_le (InCall k f) a stack s = omega arith
  value_le Dropping a stack s = omega arith

  again_le : (x : Bool) (m : ℕ) (f : Frame) (stack : List Pending) (s : State) → Below 7 (call_again x m f stack s) stack s
  again_le true m f stack s = omega arith
  again_le false m f stack s = omega arith

  other_result_le : (x : Pending) (r : NodeResult) → IsOther r → (stack : List Pending) (s : State) → weight (other_came p v x r stack s) < 6 * s.left + (pending_weight x + stack_weight stack) + mode_weight (Coming r)
  other_result_le (Leaving n opened) (Gives a) h stack s = absurd h
  other_result_le (Leaving n opened) _ h stack s = omega arith
  other_result_le (Operand n values ms) (Gives a) h stack s = absurd h
  other_result_le (Operand n values ms) _ h stack s = omega arith
  other_result_le Catching (Gives a) h stack s = absurd h
  other_result_le Catching _ h stack s = omega arith
  other_result_le (Choosing n block) (Gives a) h stack s = absurd h
  other_result_le (Choosing n block) _ h stack s = omega arith
  other_result_le (ChoosingBetween n block other) (Gives a) h stack s = absurd h
  other_result_le (ChoosingBetween n block other) _ h stack s = omega arith
  other_result_le (Testing n test block) (Gives a) h stack s = absurd h
  other_result_le (Testing n test block) _ h stack s = omega arith
  other_result_le (Turning n test block) (Gives a) h stack s = absurd h
  other_result_le (Turning n test block) _ h stack s = omega arith
  other_result_le (LeftSide x n r') (Gives a) h stack s = absurd h
  other_result_le (LeftSide x n r') _ h stack s = omega arith
  other_result_le (RightSide n) (Gives a) h stack s = absurd h
  other_result_le (RightSide n) _ h stack s = omega arith
  other_result_le (InCall k f) (Gives a) h stack s = absurd h
  other_result_le (InCall k f) (Unwinds m None) h stack s = let g = again_le (m == k) m f stack (popped s) in omega arith
  other_result_le (InCall k f) (Unwinds m (Some a)) h stack s = let g = coming_le (cond (m == k) (Gives a) (Unwinds m (Some a))) in omega arith
  other_result_le (InCall k f) _ h stack s = omega arith
  other_result_le Dropping (Gives a) h stack s = absurd h
  other_result_le Dropping _ h stack s = omega arith

  coming_lowers : (r : NodeResult) (stack : List Pending) (s : State) → (IsOverAt (Coming r) stack → ⊥) → weight (coming_turn p v r stack s) < weight_of (Coming r) stack s
  coming_lowers r [] s going = absurd (going tt)
  coming_lowers (Gives a) (x ∷ stack) s going = value_le x a stack s
  coming_lowers (Returns a) (x ∷ stack) s going = other_result_le x (Returns a) tt stack s
  coming_lowers Breaks (x ∷ stack) s going = other_result_le x Breaks tt stack s
  coming_lowers Continues (x ∷ stack) s going = other_result_le x Continues tt stack s
  coming_lowers (Faults f n) (x ∷ stack) s going = other_result_le x (Faults f n) tt stack s
  coming_lowers (Unwinds k a) (x ∷ stack) s going = other_result_le x (Unwinds k a) tt stack s
  coming_lowers (Stops y) (x ∷ stack) s going = other_result_le x (Stops y) tt stack s

  entered_le : (n : ℕ) (tags : List Tag) (stack : List Pending) (s : State) → Below 11 (entered p v n tags stack s) stack s
  entered_le n [] stack s = omega arith
  entered_le n (t ∷ ts) stack s =
      let h = obeyed_le (verdict_on p v n Statement (length s.events)) (machine (Starting n) (Leaving n (length s.events) ∷ stack) (tell n (length s.events) Enter s)) (omega arith) in omega arith

  entering_lowers : (left n : ℕ) (stack : List Pending) (s : State) → left ≡ s.left → weight (entering_turn p v left n stack s) < 6 * left + stack_weight stack + 6
  entering_lowers zero n stack s e = omega arith
  entering_lowers (suc left) n stack s e = let h = entered_le n (node_at p n).tags stack (record s { left = left }) in omega arith

  mode_lowers : (mode : Mode) (stack : List Pending) (s : State) → (IsOverAt mode stack → ⊥) → weight (mode_turn p v mode stack s) < weight_of mode stack s
  mode_lowers (Entering n) stack s going = entering_lowers s.left n stack s refl
  mode_lowers (Starting n) stack s going = let h = starting_le n (node_at p n).kind (node_at p n).children stack s in omega arith
  mode_lowers (Coming r) stack s going = coming_lowers r stack s going

  pub turn_lowers : (m : Machine) → (IsOverAt m.mode m.stack → ⊥) → weight (turn p v m) < weight m
  unfolding turn
  turn_lowers m going = mode_lowers m.mode m.stack m.state going
