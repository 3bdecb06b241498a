-- A stop for want of fuel comes only where no fuel is left, and keeps that.
use Rattle.std.proofs.Common.{◌≡◌, ℕ, zero, suc, ◌+◌, ◌*◌, Bool, true, false, cond, List, [], ◌∷◌, ◌++◌, length, Option, Some, None, Result, Ok, Err, refl, sym, subst, arith}
use Rattle.std.specs.Prelude.{nat_lt, nat_le, slice_get, ◌^◌, ◌==◌}
use Rattle.pd_values.specs.declared.value.Value.{Value}
use Rattle.pd_values.specs.declared.value.Value.TheVariants.{Bool as Truth, Null, Func}
use Rattle.pd_values.specs.declared.value.Fault.{Fault}
use Rattle.pd_values.specs.declared.value.End.TheVariants.{Exhausted}
use Rattle.pd_values.specs.declared.value.Tag.{Tag}
use Rattle.pd_values.specs.declared.value.Tag.TheVariants.{Statement, Call}
use Rattle.pd_values.specs.Operators.{ValueOrFault, show, plus, minus, odd}
use Rattle.pd_tree.specs.Binary.{binary}
use Rattle.pd_tree.specs.declared.kind.Kind.{Kind}
use Rattle.pd_tree.specs.declared.kind.Kind.TheVariants.{SlFunction, SlBody, SlIf, SlWhile, SlOr, SlAnd, SlBinary, SlCall, SlAssign, SlName, PlProcedure, PlIf, PlWhile, PlAssign, PlCall, PlWrite, PlOdd, PlBinary, PlPlus, PlMinus, PlName}
use Rattle.pd_tree.specs.declared.kind.Meaning.{Meaning}
use Rattle.pd_tree.specs.declared.kind.Meaning.TheVariants.{Local, Item as Means, Nothing}
use Rattle.pd_tree.specs.Program.{Program, Node, node_at, item_at, item_names}
use Rattle.pd_machine.specs.declared.run.Frame.{Frame}
use Rattle.pd_machine.specs.declared.run.Cutoff.TheVariants.{SpentFuel}
use Rattle.pd_machine.specs.declared.run.NodeResult.{NodeResult}
use Rattle.pd_machine.specs.declared.run.NodeResult.TheVariants.{Gives, Returns, Breaks, Continues, Unwinds, Stops}
use Rattle.pd_machine.specs.declared.run.Pending.{Pending}
use Rattle.pd_machine.specs.declared.run.Pending.TheVariants.{Leaving, Operand, Catching, Choosing, ChoosingBetween, Testing, Turning, LeftSide, RightSide, InCall, Dropping}
use Rattle.pd_machine.specs.declared.run.Mode.{Mode}
use Rattle.pd_machine.specs.declared.run.Mode.TheVariants.{Entering, Starting, Coming}
use Rattle.pd_machine.specs.declared.event.EventKind.TheVariants.{Enter, Return as Gave}
use Rattle.pd_machine.specs.declared.event.Verdict.{Verdict}
use Rattle.pd_machine.specs.declared.event.Verdict.TheVariants.{Go}
use Rattle.pd_machine.specs.Events.{State, tell}
use Rattle.pd_machine.specs.Held.{IsOverAt}
use Rattle.pd_meaning.specs.Meaning.{Verdicts, Outcome, ends, answered, on_one, on_two, named, assigned, written, popped, heed, verdict_on, first_or_null, first_variables, frame_for, most_frames, ran, opening, from_root, meaning_of}
use Rattle.pd_meaning.specs.Machine.{Machine, machine, settled, obeyed, entered, entering_turn, depth_checked, arguments_checked, item_called, value_called, name_called, combining, part_begun, parts_begun, last_begun, choice_begun, loop_begun, either_begun, starting_turn, by_truth, call_again, value_came, other_came, coming_turn, mode_turn, turn, start, after_turns}
use Rattle.pd_meaning.proofs.Whole.{machine_means}
use Rattle.pd_ending.proofs.Over.{over_in_time}

-- what a result says of the fuel that is left
abbrev IsSpentAt : NodeResult → ℕ → Type 0
IsSpentAt (Stops SpentFuel) l = l ≡ 0
IsSpentAt _ l = Unit {0}

abbrev IsSpentIn : Mode → ℕ → Type 0
IsSpentIn (Coming r) l = IsSpentAt r l
IsSpentIn _ l = Unit {0}

abbrev IsSpent : Machine → Type 0
IsSpent m = IsSpentIn m.mode m.state.left

abbrev IsSpentBy : Outcome → Type 0
IsSpentBy (ends r s) = IsSpentAt r s.left

settled_spent : (stack : List Pending) (o : Outcome) → IsSpentBy o → IsSpent (settled stack o)
settled_spent stack (ends r s) h = h

obeyed_spent : (w : Verdict) (m : Machine) → IsSpent m → IsSpent (obeyed w m)
obeyed_spent Go m h = h
obeyed_spent _ m h = tt

cond_spent : (x : Bool) (o o' : Outcome) → IsSpentBy o → IsSpentBy o' → IsSpentBy (cond x o o')
cond_spent true o o' h k = h
cond_spent false o o' h k = k

-- ---- what a node makes of its values

one_spent : (n : ℕ) (values : List Value) (f : Value → State → Outcome) (s : State) → ((a : Value) → IsSpentBy (f a s)) → IsSpentBy (on_one n values f s)
one_spent n (a ∷ []) f s h = h a
one_spent n _ f s h = tt

two_spent : (n : ℕ) (values : List Value) (f : Value → Value → State → Outcome) (s : State) → ((a b : Value) → IsSpentBy (f a b s)) → IsSpentBy (on_two n values f s)
two_spent n (a ∷ b ∷ []) f s h = h a b
two_spent n _ f s h = tt

answer_spent : (n : ℕ) (x : ValueOrFault) (s : State) → IsSpentBy (answered n x s)
answer_spent n (Ok a) s = tt
answer_spent n (Err f) s = tt

name_spent : (n : ℕ) (x : Meaning) (s : State) → IsSpentBy (named n x s)
name_spent n (Local up slot) s = tt
name_spent n (Means i) s = tt
name_spent n Nothing s = tt

written_spent : (n : ℕ) (bytes : List ℕ) (a : Value) (s : State) → IsSpentBy (written n bytes a s)
written_spent n bytes a s = cond_spent (nat_le (length s.output + length bytes + 1) (2 ^ 24)) _ _ tt tt

heed_spent : (a : Value) (w : Verdict) (s : State) → IsSpentBy (heed w (λ t. ends (Gives a) t) s)
heed_spent a Go s = tt
heed_spent a _ s = tt

module _ (p : Program) (v : Verdicts) where
  depth_spent : (x : Bool) (n : ℕ) (f : Frame) (stack : List Pending) (s : State) → IsSpent (depth_checked x n f stack s)
  depth_spent true n f stack s = tt
  depth_spent false n f stack s = tt

  arguments_spent : (n root : ℕ) (node : Node) (x : Result (List Value) Fault) (stack : List Pending) (s : State) → IsSpent (arguments_checked n root node x stack s)
  arguments_spent n root node (Err f) stack s = tt
  arguments_spent n root node (Ok vs) stack s = depth_spent (nat_lt (length s.scene.frames) most_frames) n (frame_for root node vs s.scene) stack s

  item_spent : (n : ℕ) (root : Option ℕ) (arguments : List Value) (stack : List Pending) (s : State) → IsSpent (item_called p n root arguments stack s)
  item_spent n None arguments stack s = settled_spent stack _ (written_spent n (show (item_names p) (first_or_null arguments)) (first_or_null arguments) s)
  item_spent n (Some root) arguments stack s = arguments_spent n root (node_at p root) (first_variables (node_at p root) arguments) stack s

  value_called_spent : (n : ℕ) (values : List Value) (stack : List Pending) (s : State) → IsSpent (value_called p n values stack s)
  value_called_spent n (Func i ∷ arguments) stack s = item_spent n (item_at p i).root arguments stack s
  value_called_spent n _ stack s = tt

  name_called_spent : (n : ℕ) (x : Meaning) (stack : List Pending) (s : State) → IsSpent (name_called p n x stack s)
  name_called_spent n (Means i) stack s = item_spent n (item_at p i).root [] (Dropping ∷ stack) s
  name_called_spent n _ stack s = tt

  combining_spent : (n : ℕ) (kind : Kind) (values : List Value) (stack : List Pending) (s : State) → IsSpent (combining p n kind values stack s)
  combining_spent n SlCall values stack s = value_called_spent n values stack s
  combining_spent n (PlCall x) values stack s = name_called_spent n (node_at p n).meaning stack s
  combining_spent n (SlBinary op) values stack s = settled_spent stack _ (two_spent n values (λ a b. answered n (binary (item_names p) op a b)) s (λ a b. answer_spent n (binary (item_names p) op a b) s))
  combining_spent n (PlBinary op) values stack s = settled_spent stack _ (two_spent n values (λ a b. answered n (binary (item_names p) op a b)) s (λ a b. answer_spent n (binary (item_names p) op a b) s))
  combining_spent n (SlAssign x) values stack s = settled_spent stack _ (one_spent n values (λ a t. ends (Gives a) (assigned (node_at p n).meaning a t)) s (λ a. tt))
  combining_spent n (PlAssign x) values stack s = settled_spent stack _ (one_spent n values (λ a t. ends (Gives Null) (assigned (node_at p n).meaning a t)) s (λ a. tt))
  combining_spent n (SlName x) values stack s = settled_spent stack _ (name_spent n (node_at p n).meaning s)
  combining_spent n (PlName x) values stack s = settled_spent stack _ (name_spent n (node_at p n).meaning s)
  combining_spent n PlWrite values stack s = settled_spent stack _ (one_spent n values (λ a. written n (show (item_names p) a) Null) s (λ a. written_spent n (show (item_names p) a) Null s))
  combining_spent n PlOdd values stack s = settled_spent stack _ (one_spent n values (λ a. answered n (odd a)) s (λ a. answer_spent n (odd a) s))
  combining_spent n PlPlus values stack s = settled_spent stack _ (one_spent n values (λ a. answered n (plus a)) s (λ a. answer_spent n (plus a) s))
  combining_spent n PlMinus values stack s = settled_spent stack _ (one_spent n values (λ a. answered n (minus a)) s (λ a. answer_spent n (minus a) s))
  combining_spent n _ values stack s = tt

  part_spent : (n i : ℕ) (x : Option ℕ) (values : List Value) (stack : List Pending) (s : State) → IsSpent (part_begun p n i x values stack s)
  part_spent n i None values stack s = combining_spent n (node_at p n).kind values stack s
  part_spent n i (Some m) values stack s = tt

  parts_spent : (n : ℕ) (ms : List ℕ) (i : ℕ) (values : List Value) (stack : List Pending) (s : State) → IsSpent (parts_begun p n ms i values stack s)
  parts_spent n ms i values stack s = part_spent n i (slice_get ms i) values stack s

  -- ---- each turn

  last_spent : (ms : List ℕ) (stack : List Pending) (s : State) → IsSpent (last_begun ms stack s)
  last_spent [] stack s = tt
  last_spent (m ∷ []) stack s = tt
  last_spent (m ∷ k ∷ ms) stack s = last_spent (k ∷ ms) stack s

  choice_spent : (n : ℕ) (ms : List ℕ) (stack : List Pending) (s : State) → IsSpent (choice_begun n ms stack s)
  choice_spent n (c ∷ b ∷ []) stack s = tt
  choice_spent n (c ∷ b ∷ d ∷ []) stack s = tt
  choice_spent n _ stack s = tt

  loop_spent : (n : ℕ) (ms : List ℕ) (stack : List Pending) (s : State) → IsSpent (loop_begun n ms stack s)
  loop_spent n (test ∷ block ∷ []) stack s = tt
  loop_spent n _ stack s = tt

  either_spent : (x : Bool) (n : ℕ) (ms : List ℕ) (stack : List Pending) (s : State) → IsSpent (either_begun x n ms stack s)
  either_spent x n (l ∷ r ∷ []) stack s = tt
  either_spent x n _ stack s = tt

  starting_spent : (n : ℕ) (kind : Kind) (ms : List ℕ) (stack : List Pending) (s : State) → IsSpent (starting_turn p n kind ms stack s)
  starting_spent n (SlFunction name parameters) ms stack s = last_spent ms stack s
  starting_spent n (PlProcedure name variables) ms stack s = last_spent ms stack s
  starting_spent n SlBody ms stack s = parts_spent n ms 0 [] (Catching ∷ stack) s
  starting_spent n SlIf ms stack s = choice_spent n ms stack s
  starting_spent n PlIf ms stack s = choice_spent n ms stack s
  starting_spent n SlWhile ms stack s = loop_spent n ms stack s
  starting_spent n PlWhile ms stack s = loop_spent n ms stack s
  starting_spent n SlOr ms stack s = either_spent true n ms stack s
  starting_spent n SlAnd ms stack s = either_spent false n ms stack s
  starting_spent n kind ms stack s = parts_spent n ms 0 [] stack s

  truth_spent : (n : ℕ) (a : Value) (m m' : Machine) (stack : List Pending) (s : State) → IsSpent m → IsSpent m' → IsSpent (by_truth n a m m' stack s)
  truth_spent n (Truth true) m m' stack s h g = h
  truth_spent n (Truth false) m m' stack s h g = g
  truth_spent n _ m m' stack s h g = tt

  value_spent : (x : Pending) (a : Value) (stack : List Pending) (s : State) → IsSpent (value_came p v x a stack s)
  value_spent (Leaving n opened) a stack s = obeyed_spent (verdict_on p v n Call (length s.events)) (machine (Coming (Gives a)) stack (tell n opened (Gave a) s)) tt
  value_spent (Operand n values i) a stack s = parts_spent n (node_at p n).children i (values ++ a ∷ []) stack s
  value_spent Catching a stack s = tt
  value_spent (Choosing n block) a stack s = truth_spent n a (machine (Entering block) stack s) (machine (Coming (Gives Null)) stack s) stack s tt tt
  value_spent (ChoosingBetween n block other) a stack s = truth_spent n a (machine (Entering block) stack s) (machine (Entering other) stack s) stack s tt tt
  value_spent (Testing n test block) a stack s = truth_spent n a (machine (Entering block) (Turning n test block ∷ stack) s) (machine (Coming (Gives Null)) stack s) stack s tt tt
  value_spent (Turning n test block) a stack s = tt
  value_spent (LeftSide true n r) a stack s = truth_spent n a (machine (Coming (Gives (Truth true))) stack s) (machine (Entering r) (RightSide n ∷ stack) s) stack s tt tt
  value_spent (LeftSide false n r) a stack s = truth_spent n a (machine (Entering r) (RightSide n ∷ stack) s) (machine (Coming (Gives (Truth false))) stack s) stack s tt tt
  value_spent (RightSide n) a stack s = truth_spent n a (machine (Coming (Gives (Truth true))) stack s) (machine (Coming (Gives (Truth false))) stack s) stack s tt tt
  value_spent (InCall k f) a stack s = tt
  value_spent Dropping a stack s = tt

  again_spent : (x : Bool) (m : ℕ) (f : Frame) (stack : List Pending) (s : State) → IsSpent (call_again x m f stack s)
  again_spent true m f stack s = tt
  again_spent false m f stack s = tt

  given_spent : (x : Bool) (a : Value) (m l : ℕ) → IsSpentAt (cond x (Gives a) (Unwinds m (Some a))) l
  given_spent true a m l = tt
  given_spent false a m l = tt

  other_spent : (x : Pending) (r : NodeResult) (stack : List Pending) (s : State) → IsSpentAt r s.left → IsSpent (other_came p v x r stack s)
  other_spent (Leaving n opened) (Stops y) stack s h = h
  other_spent (Leaving n opened) (Gives a) stack s h = settled_spent stack _ (heed_spent a (verdict_on p v n Call (length s.events)) (tell n opened (Gave a) s))
  other_spent (Leaving n opened) _ stack s h = tt
  other_spent (Operand n values i) r stack s h = h
  other_spent Catching (Returns a) stack s h = tt
  other_spent Catching r stack s h = h
  other_spent (Choosing n block) r stack s h = h
  other_spent (ChoosingBetween n block other) r stack s h = h
  other_spent (Testing n test block) r stack s h = h
  other_spent (Turning n test block) Continues stack s h = tt
  other_spent (Turning n test block) Breaks stack s h = tt
  other_spent (Turning n test block) r stack s h = h
  other_spent (LeftSide x n right) r stack s h = h
  other_spent (RightSide n) r stack s h = h
  other_spent (InCall k f) (Unwinds m None) stack s h = again_spent (m == k) m f stack (popped s)
  other_spent (InCall k f) (Unwinds m (Some a)) stack s h = given_spent (m == k) a m s.left
  other_spent (InCall k f) r stack s h = h
  other_spent Dropping r stack s h = h

  coming_spent : (r : NodeResult) (stack : List Pending) (s : State) → IsSpentAt r s.left → IsSpent (coming_turn p v r stack s)
  coming_spent r [] s h = h
  coming_spent (Gives a) (x ∷ stack) s h = value_spent x a stack s
  coming_spent r (x ∷ stack) s h = other_spent x r stack s h

  entered_spent : (n : ℕ) (tags : List Tag) (stack : List Pending) (s : State) → IsSpent (entered p v n tags stack s)
  entered_spent n [] stack s = tt
  entered_spent n (t ∷ ts) stack s = obeyed_spent (verdict_on p v n Statement (length s.events)) (machine (Starting n) (Leaving n (length s.events) ∷ stack) (tell n (length s.events) Enter s)) tt

  entering_spent : (left n : ℕ) (stack : List Pending) (s : State) → left ≡ s.left → IsSpent (entering_turn p v left n stack s)
  entering_spent zero n stack s e = sym e
  entering_spent (suc left) n stack s e = entered_spent n (node_at p n).tags stack (record s { left = left })

  mode_spent : (mode : Mode) (stack : List Pending) (s : State) → IsSpentIn mode s.left → IsSpent (mode_turn p v mode stack s)
  mode_spent (Entering n) stack s h = entering_spent s.left n stack s refl
  mode_spent (Starting n) stack s h = starting_spent n (node_at p n).kind (node_at p n).children stack s
  mode_spent (Coming r) stack s h = coming_spent r stack s h

  turn_spent : (m : Machine) → IsSpent m → IsSpent (turn p v m)
  unfolding turn
  turn_spent m h = mode_spent m.mode m.stack m.state h

  turns_spent : (k : ℕ) (m : Machine) → IsSpent m → IsSpent (after_turns p v k m)
  turns_spent zero m h = h
  turns_spent (suc k) m h = turns_spent k (turn p v m) (turn_spent m h)

  -- ---- the whole run

  end_spent : (fuel : ℕ) (r : NodeResult) (s : State) → IsSpentAt r s.left → (ran fuel (ends r s)).finish ≡ Exhausted → (ran fuel (ends r s)).used ≡ fuel
  end_spent fuel (Stops SpentFuel) s h e = omega (arith, h)
  end_spent fuel _ s h e = cc

  over_spent : (fuel root entry k : ℕ) (mode : Mode) (stack : List Pending) (s : State) → (item_at p entry).root ≡ Some root → after_turns p v k (start p fuel root) ≡ machine mode stack s → IsOverAt mode stack → IsSpentIn mode s.left → (meaning_of p entry fuel v).finish ≡ Exhausted → (meaning_of p entry fuel v).used ≡ fuel
  over_spent fuel root entry k (Coming r) [] s item same over spent =
      subst (λ x. x.finish ≡ Exhausted → x.used ≡ fuel) (machine_means p v fuel root entry k r s item same) (end_spent fuel r s spent)
  over_spent fuel root entry k (Coming r) (x ∷ stack) s item same over spent = absurd over
  over_spent fuel root entry k (Entering n) stack s item same over spent = absurd over
  over_spent fuel root entry k (Starting n) stack s item same over spent = absurd over

  root_spent : (fuel entry : ℕ) (x : Option ℕ) → (item_at p entry).root ≡ x → (meaning_of p entry fuel v).finish ≡ Exhausted → (meaning_of p entry fuel v).used ≡ fuel
  unfolding meaning_of
  root_spent fuel entry None item =
      subst (λ x. (ran fuel (from_root p v fuel x)).finish ≡ Exhausted → (ran fuel (from_root p v fuel x)).used ≡ fuel) (sym item) (end_spent fuel (Gives Null) (opening p fuel) tt)
  root_spent fuel entry (Some root) item =
      let k = 6 * fuel + 7 in
      let m = after_turns p v k (start p fuel root) in
      over_spent fuel root entry k m.mode m.stack m.state item refl (over_in_time p v k (start p fuel root) (omega arith)) (turns_spent k (start p fuel root) tt)

  pub uses_all : (fuel entry : ℕ) → (meaning_of p entry fuel v).finish ≡ Exhausted → (meaning_of p entry fuel v).used ≡ fuel
  uses_all fuel entry = root_spent fuel entry (item_at p entry).root refl
