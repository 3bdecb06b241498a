-- Each turn of the machine keeps the outcome to which it leads.
use Rattle.pd_machine.specs.declared.run.Frame.{Frame}
use Rattle.pd_machine.specs.declared.run.Cutoff.TheVariants.{SpentFuel}
use Rattle.pd_machine.specs.declared.run.NodeResult.{NodeResult}
use Rattle.pd_machine.specs.declared.run.NodeResult.TheVariants.{Gives, Returns, Breaks, Continues, Faults, Unwinds, Stops}
use Rattle.pd_machine.specs.declared.run.Pending.{Pending}
use Rattle.pd_machine.specs.declared.run.Pending.TheVariants.{Leaving, Operand, Catching, Choosing, ChoosingBetween, Testing, Turning, LeftSide, RightSide, InCall, Dropping}
use Rattle.pd_machine.specs.declared.run.Mode.{Mode}
use Rattle.pd_machine.specs.declared.run.Mode.TheVariants.{Entering, Starting, Coming}
use Rattle.std.proofs.Common.{◌≡◌, ℕ, zero, suc, ◌+◌, ◌≤◌, Bool, true, false, List, [], ◌∷◌, ◌++◌, length, Option, Some, None, Result, Ok, Err, refl, sym, ap, ◌∙◌, subst, arith}
use Rattle.std.specs.Prelude.{nat_lt, ◌==◌, drop, slice_get, MatchOption}
use Rattle.pd_values.specs.declared.value.Value.{Value}
use Rattle.pd_values.specs.declared.value.Value.TheVariants.{Bool as Truth, Null, Func}
use Rattle.pd_values.specs.declared.value.Fault.{Fault}
use Rattle.pd_values.specs.declared.value.Fault.TheVariants.{Depth}
use Rattle.pd_values.specs.declared.value.Tag.{Tag}
use Rattle.pd_values.specs.declared.value.Tag.TheVariants.{Statement, Call}
use Rattle.pd_machine.specs.declared.event.EventKind.TheVariants.{Enter, Return as Gave}
use Rattle.pd_tree.specs.declared.kind.Kind.{Kind}
use Rattle.pd_tree.specs.declared.kind.Kind.TheVariants.{SlFunction, SlBody, SlIf, SlWhile, SlOr, SlAnd, SlCall, PlProcedure, PlIf, PlWhile, PlCall}
use Rattle.pd_tree.specs.declared.kind.Meaning.{Meaning}
use Rattle.pd_tree.specs.declared.kind.Meaning.TheVariants.{Item as Means}
use Rattle.pd_machine.specs.declared.event.Verdict.{Verdict}
use Rattle.pd_machine.specs.declared.event.Verdict.TheVariants.{Go, Reenter, Return, Kill}
use Rattle.pd_values.specs.Operators.{show}
use Rattle.pd_tree.specs.Program.{Program, Node, node_at, item_at, item_names}
use Rattle.pd_machine.specs.Events.{State, push_frame, standing, tell}
use Rattle.pd_meaning.specs.Meaning.{Verdicts, Outcome, ends, Run, with_value, with_fuel, verdict_on, heed, exit, activation, parts, on_truth, last_part, caught, choice, turns, loop, either_side, popped, invoked, first_or_null, first_variables, frame_for, most_frames, called_with, called, sl_call, pl_call, combined, inside, evaluated, written}
use Rattle.pd_meaning.specs.Machine.{Machine, machine, settled, obeyed, entered, entering_turn, call_begun, depth_checked, arguments_checked, item_called, value_called, name_called, combining, part_begun, parts_begun, last_begun, choice_begun, loop_begun, either_begun, starting_turn, by_truth, call_again, value_came, other_came, coming_turn, mode_turn, turn, whole, resumed, completion, mode_outcome, point}
use Rattle.pd_meaning.proofs.Bounds.{weaker, SameRuns, Follows, ends_agrees, value_agrees, truth_agrees, activation_agrees, turn_agrees, returned_agrees, part_agrees, parts_agrees, combined_agrees, inside_agrees, turns_agrees, invoked_agrees, starved_fuel, starved, fuel_agrees, evaluated_agrees}

-- a result other than a value
abbrev pub IsOther : NodeResult → Type 0
IsOther (Gives a) = ⊥
IsOther _ = Unit {0}

drop-zero : (xs : List ℕ) → drop 0 xs ≡ xs
drop-zero [] = refl
drop-zero (x ∷ xs) = refl

-- a list from a place on begins with the item there
front_of : (xs : List ℕ) (i : ℕ) → MatchOption (slice_get xs i) (drop i xs ≡ []) (λ m. drop i xs ≡ m ∷ drop (i + 1) xs)
front_of [] zero = refl
front_of [] (suc i) = refl
front_of (x ∷ xs) zero = refl
front_of (x ∷ xs) (suc i) =
    let e : suc (i + 1) ≡ suc i + 1 = omega arith in
    let P : ℕ → Type 0 = λ k. MatchOption (slice_get xs i) (drop i xs ≡ []) (λ m. drop i xs ≡ m ∷ drop k (x ∷ xs)) in
    subst P e (front_of xs i)

module _ (p : Program) (v : Verdicts) where
  -- ---- the meaning without bounds

  abbrev pub W : Run
  W = whole p v

  pub same_whole : (l : ℕ) → SameRuns l W W
  same_whole l = record { agree = λ m u h. evaluated_agrees p v u.left u.left m u (omega arith) (omega arith); starved = λ m u e. starved p v u.left m u e; starved' = λ m u e. starved p v u.left m u e }

  pub bounded_whole : (l b : ℕ) → l ≤ b → SameRuns l (evaluated p v b) W
  bounded_whole l b le = record { agree = λ m u h. evaluated_agrees p v b u.left m u (omega arith) (omega arith); starved = starved p v b; starved' = λ m u e. starved p v u.left m u e }

  abbrev node_rule : ℕ → State → Outcome
  node_rule n t = inside p t.left W n (node_at p n).kind (node_at p n).children t

  rule_follows : (n y b : ℕ) → y ≤ b → Follows y (inside p b (evaluated p v b) n (node_at p n).kind (node_at p n).children) (node_rule n)
  rule_follows n y b le u h =
      weaker u.left y _ _ h (inside_agrees p u.left b u.left (omega arith) (omega arith) (evaluated p v b) W (bounded_whole u.left b (omega arith)) n (node_at p n).kind (node_at p n).children u (omega arith))

  unfolds_at : (b n : ℕ) (s : State) → s.left ≤ b → evaluated p v b n s ≡ with_fuel s.left (activation p v n (node_at p n).tags (node_rule n)) s
  unfolding evaluated
  unfolds_at zero n s le = sym (starved_fuel p v s.left _ s (omega arith))
  unfolds_at (suc b) n s le =
      (fuel_agrees p v s.left b s _ _ refl le (λ y e. activation_agrees y p v n (node_at p n).tags _ _ (rule_follows n y b (omega arith)))).same

  pub whole_unfolds : (n : ℕ) (s : State) → W n s ≡ with_fuel s.left (activation p v n (node_at p n).tags (node_rule n)) s
  whole_unfolds n s = unfolds_at s.left n s (omega arith)

  pub turns_unfold : (n test block : ℕ) (s : State) → turns s.left W n test block s ≡ resumed p v (Testing n test block) (W test s)
  turns_unfold n test block s =
      let l = s.left in
      let same = same_whole l in
      (turns_agrees l W W same l (suc l) n test block s (omega arith) (omega arith) (omega arith)).same
      ∙ (value_agrees l (W test s) (W test s) _ _ (part_agrees l W W same test s (omega arith))
      (λ a t k. truth_agrees l n a _ _ _ _
      (λ u h. turn_agrees l (W block u) (W block u) _ _ (part_agrees l W W same block u h) (λ w j. turns_agrees l W W same l w.left n test block w j j (omega arith)))
      (ends_agrees l (Gives Null)) t k)).same

  pub invoked_unfolds : (f : Frame) (s : State) → invoked s.left W f s ≡ resumed p v (InCall (length s.scene.frames) f) (W f.root (record s { scene = push_frame f s.scene }))
  invoked_unfolds f s =
      let l = s.left in
      let same = same_whole l in
      let t = record s { scene = push_frame f s.scene } in
      (invoked_agrees l W W same l (suc l) f s (omega arith) (omega arith) (omega arith)).same
      ∙ (returned_agrees l (length s.scene.frames) (W f.root t) (W f.root t) _ _ (part_agrees l W W same f.root t (omega arith)) (λ w j. invoked_agrees l W W same l w.left f w j j (omega arith))).same

  parts_whole : (n : ℕ) (kind : Kind) (ms : List ℕ) (values : List Value) (s : State) → parts W ms values (combined p s.left W n kind) s ≡ parts W ms values (λ vs u. combined p u.left W n kind vs u) s
  parts_whole n kind ms values s =
      (parts_agrees s.left W W (same_whole s.left) ms values _ _
      (λ vs u k. weaker u.left s.left _ _ k (combined_agrees p u.left s.left u.left k (omega arith) W W (same_whole u.left) n kind vs u (omega arith))) s (omega arith)).same

  -- ---- the machine's points

  abbrev pub at_point : Machine → Outcome
  at_point m = completion p v m.stack (mode_outcome p v m.mode m.state)

  abbrev pub done : List Pending → Outcome → Outcome
  done = completion p v

  pub at_settled : (stack : List Pending) (o : Outcome) → at_point (settled stack o) ≡ done stack o
  at_settled stack (ends r s) = refl

  at_obeyed : (w : Verdict) (m : Machine) (go : State → Outcome) → at_point m ≡ done m.stack (go m.state) → at_point (obeyed w m) ≡ done m.stack (heed w go m.state)
  at_obeyed Go m go h = h
  at_obeyed (Reenter k) m go h = refl
  at_obeyed (Return k a) m go h = refl
  at_obeyed Kill m go h = refl

  pub at_call : (f : Frame) (stack : List Pending) (s : State) → at_point (call_begun f stack s) ≡ done stack (invoked s.left W f s)
  at_call f stack s = ap (done stack) (sym (invoked_unfolds f s))

  at_depth : (x : Bool) (n : ℕ) (f : Frame) (stack : List Pending) (s : State) → at_point (depth_checked x n f stack s) ≡ done stack (elim x [ true ↦ invoked s.left W f (record s { scene = standing n s.scene }) | false ↦ ends (Faults Depth n) s ])
  at_depth true n f stack s = at_call f stack (record s { scene = standing n s.scene })
  at_depth false n f stack s = refl

  at_arguments : (n root : ℕ) (node : Node) (x : Result (List Value) Fault) (stack : List Pending) (s : State) → at_point (arguments_checked n root node x stack s) ≡ done stack (called_with s.left W n root node x s)
  at_arguments n root node (Err f) stack s = refl
  at_arguments n root node (Ok vs) stack s = at_depth (nat_lt (length s.scene.frames) most_frames) n (frame_for root node vs s.scene) stack s

  at_item : (n : ℕ) (root : Option ℕ) (arguments : List Value) (stack : List Pending) (s : State) → at_point (item_called p n root arguments stack s) ≡ done stack (called p s.left W n root arguments s)
  at_item n None arguments stack s = at_settled stack (written n (show (item_names p) (first_or_null arguments)) (first_or_null arguments) s)
  at_item n (Some root) arguments stack s = at_arguments n root (node_at p root) (first_variables (node_at p root) arguments) stack s

  at_value_called : (n : ℕ) (values : List Value) (stack : List Pending) (s : State) → at_point (value_called p n values stack s) ≡ done stack (sl_call p s.left W n values s)
  at_value_called n (Func i ∷ arguments) stack s = at_item n (item_at p i).root arguments stack s
  at_value_called n _ stack s = refl

  at_name_called : (n : ℕ) (x : Meaning) (stack : List Pending) (s : State) → at_point (name_called p n x stack s) ≡ done stack (pl_call p s.left W n x s)
  at_name_called n (Means i) stack s = at_item n (item_at p i).root [] (Dropping ∷ stack) s
  at_name_called n _ stack s = refl

  at_combining : (n : ℕ) (kind : Kind) (values : List Value) (stack : List Pending) (s : State) → at_point (combining p n kind values stack s) ≡ done stack (combined p s.left W n kind values s)
  at_combining n SlCall values stack s = at_value_called n values stack s
  at_combining n (PlCall x) values stack s = at_name_called n (node_at p n).meaning stack s
  at_combining n kind values stack s = at_settled stack (combined p 0 (λ m u. ends (Stops SpentFuel) u) n kind values s)

  -- the parts from a place on are the part there, and those after it
  at_part : (n i : ℕ) (ms : List ℕ) → ms ≡ (node_at p n).children → (x : Option ℕ) → MatchOption x (drop i ms ≡ []) (λ m. drop i ms ≡ m ∷ drop (i + 1) ms) → (values : List Value) (stack : List Pending) (s : State) → at_point (part_begun p n i x values stack s) ≡ done stack (parts W (drop i ms) values (λ vs u. combined p u.left W n (node_at p n).kind vs u) s)
  at_part n i ms e None h values stack s =
      at_combining n (node_at p n).kind values stack s ∙ ap (λ xs. done stack (parts W xs values (λ vs u. combined p u.left W n (node_at p n).kind vs u) s)) (sym h)
  at_part n i ms e (Some m) h values stack s =
      ap (λ xs. done stack (with_value (W m s) (λ a t. parts W (drop (i + 1) xs) (values ++ a ∷ []) (λ vs u. combined p u.left W n (node_at p n).kind vs u) t))) (sym e)
      ∙ ap (λ xs. done stack (parts W xs values (λ vs u. combined p u.left W n (node_at p n).kind vs u) s)) (sym h)

  at_parts : (n i : ℕ) (values : List Value) (stack : List Pending) (s : State) → at_point (parts_begun p n (node_at p n).children i values stack s) ≡ done stack (parts W (drop i (node_at p n).children) values (λ vs u. combined p u.left W n (node_at p n).kind vs u) s)
  at_parts n i values stack s =
      at_part n i (node_at p n).children refl (slice_get (node_at p n).children i) (front_of (node_at p n).children i) values stack s

  at_operands : (n : ℕ) (kind : Kind) → kind ≡ (node_at p n).kind → (ms : List ℕ) → ms ≡ (node_at p n).children → (stack : List Pending) (s : State) → at_point (parts_begun p n ms 0 [] stack s) ≡ done stack (parts W ms [] (combined p s.left W n kind) s)
  at_operands n kind e ms c stack s =
      ap (λ xs. at_point (parts_begun p n xs 0 [] stack s)) c
      ∙ at_parts n 0 [] stack s
      ∙ ap (λ xs. done stack (parts W xs [] (λ vs u. combined p u.left W n (node_at p n).kind vs u) s)) (drop-zero (node_at p n).children ∙ sym c)
      ∙ ap (done stack) (sym (parts_whole n (node_at p n).kind ms [] s)) ∙ ap (λ k. done stack (parts W ms [] (combined p s.left W n k) s)) (sym e)

  at_last : (ms : List ℕ) (stack : List Pending) (s : State) → at_point (last_begun ms stack s) ≡ done stack (last_part W ms s)
  at_last [] stack s = refl
  at_last (m ∷ []) stack s = refl
  at_last (m ∷ k ∷ ms) stack s = at_last (k ∷ ms) stack s

  at_choice : (n : ℕ) (ms : List ℕ) (stack : List Pending) (s : State) → at_point (choice_begun n ms stack s) ≡ done stack (choice W n ms s)
  at_choice n (c ∷ b ∷ []) stack s = refl
  at_choice n (c ∷ b ∷ d ∷ []) stack s = refl
  at_choice n _ stack s = refl

  at_loop : (n : ℕ) (ms : List ℕ) (stack : List Pending) (s : State) → at_point (loop_begun n ms stack s) ≡ done stack (loop s.left W n ms s)
  at_loop n (test ∷ block ∷ []) stack s = ap (done stack) (sym (turns_unfold n test block s))
  at_loop n _ stack s = refl

  at_either : (x : Bool) (n : ℕ) (ms : List ℕ) (stack : List Pending) (s : State) → at_point (either_begun x n ms stack s) ≡ done stack (either_side x W n ms s)
  at_either true n (l ∷ r ∷ []) stack s = refl
  at_either false n (l ∷ r ∷ []) stack s = refl
  at_either _ n _ stack s = refl

  at_starting : (n : ℕ) (kind : Kind) → kind ≡ (node_at p n).kind → (ms : List ℕ) → ms ≡ (node_at p n).children → (stack : List Pending) (s : State) → at_point (starting_turn p n kind ms stack s) ≡ done stack (inside p s.left W n kind ms s)
  at_starting n (SlFunction name parameters) e ms c stack s = at_last ms stack s
  at_starting n (PlProcedure name variables) e ms c stack s = at_last ms stack s
  at_starting n SlBody e ms c stack s = at_operands n SlBody e ms c (Catching ∷ stack) s
  at_starting n SlIf e ms c stack s = at_choice n ms stack s
  at_starting n PlIf e ms c stack s = at_choice n ms stack s
  at_starting n SlWhile e ms c stack s = at_loop n ms stack s
  at_starting n PlWhile e ms c stack s = at_loop n ms stack s
  at_starting n SlOr e ms c stack s = at_either true n ms stack s
  at_starting n SlAnd e ms c stack s = at_either false n ms stack s
  at_starting n kind e ms c stack s = at_operands n kind e ms c stack s

  at_truth : (n : ℕ) (a : Value) (m m' : Machine) (f f' : State → Outcome) (stack : List Pending) (s : State) → at_point m ≡ done stack (f s) → at_point m' ≡ done stack (f' s) → at_point (by_truth n a m m' stack s) ≡ done stack (on_truth n a f f' s)
  at_truth n (Truth true) m m' f f' stack s h k = h
  at_truth n (Truth false) m m' f f' stack s h k = k
  at_truth n _ m m' f f' stack s h k = refl

  at_value : (x : Pending) (a : Value) (stack : List Pending) (s : State) → at_point (value_came p v x a stack s) ≡ done stack (resumed p v x (ends (Gives a) s))
  at_value (Leaving n opened) a stack s =
      at_obeyed (verdict_on p v n Call (length s.events)) (machine (Coming (Gives a)) stack (tell n opened (Gave a) s)) (λ t. ends (Gives a) t) refl
  at_value (Operand n values i) a stack s = at_parts n i (values ++ a ∷ []) stack s
  at_value Catching a stack s = refl
  at_value (Choosing n block) a stack s = at_truth n a _ _ _ _ stack s refl refl
  at_value (ChoosingBetween n block other) a stack s = at_truth n a _ _ _ _ stack s refl refl
  at_value (Testing n test block) a stack s = at_truth n a _ _ _ _ stack s refl refl
  at_value (Turning n test block) a stack s = ap (done stack) (sym (turns_unfold n test block s))
  at_value (LeftSide true n r) a stack s = at_truth n a _ _ _ _ stack s refl refl
  at_value (LeftSide false n r) a stack s = at_truth n a _ _ _ _ stack s refl refl
  at_value (RightSide n) a stack s = at_truth n a _ _ _ _ stack s refl refl
  at_value (InCall k f) a stack s = refl
  at_value Dropping a stack s = refl

  at_again : (x : Bool) (m : ℕ) (f : Frame) (stack : List Pending) (s : State) → at_point (call_again x m f stack s) ≡ done stack (elim x [ true ↦ invoked s.left W f s | false ↦ ends (Unwinds m None) s ])
  at_again true m f stack s = at_call f stack s
  at_again false m f stack s = refl

  at_no_value : (x : Pending) (r : NodeResult) → IsOther r → (stack : List Pending) (s : State) → at_point (other_came p v x r stack s) ≡ done stack (resumed p v x (ends r s))
  at_no_value x (Gives a) h stack s = absurd h
  at_no_value (Leaving n opened) r h stack s = at_settled stack (exit p v n opened (ends r s))
  at_no_value Catching r h stack s = at_settled stack (caught (ends r s))
  at_no_value (Turning n test block) Continues h stack s = ap (done stack) (sym (turns_unfold n test block s))
  at_no_value (InCall k f) (Unwinds m None) h stack s = at_again (m == k) m f stack (popped s)
  at_no_value (InCall k f) (Unwinds m (Some a)) h stack s = refl
  at_no_value (LeftSide true n r') r h stack s = refl
  at_no_value (LeftSide false n r') r h stack s = refl
  at_no_value _ r h stack s = refl

  at_coming : (r : NodeResult) (stack : List Pending) (s : State) → at_point (coming_turn p v r stack s) ≡ done stack (ends r s)
  at_coming r [] s = refl
  at_coming (Gives a) (x ∷ stack) s = at_value x a stack s
  at_coming (Returns a) (x ∷ stack) s = at_no_value x (Returns a) tt stack s
  at_coming Breaks (x ∷ stack) s = at_no_value x Breaks tt stack s
  at_coming Continues (x ∷ stack) s = at_no_value x Continues tt stack s
  at_coming (Faults f n) (x ∷ stack) s = at_no_value x (Faults f n) tt stack s
  at_coming (Unwinds k a) (x ∷ stack) s = at_no_value x (Unwinds k a) tt stack s
  at_coming (Stops y) (x ∷ stack) s = at_no_value x (Stops y) tt stack s

  at_entered : (n : ℕ) (tags : List Tag) (stack : List Pending) (s : State) → at_point (entered p v n tags stack s) ≡ done stack (activation p v n tags (node_rule n) s)
  at_entered n [] stack s = refl
  at_entered n (t ∷ ts) stack s =
      at_obeyed (verdict_on p v n Statement (length s.events)) (machine (Starting n) (Leaving n (length s.events) ∷ stack) (tell n (length s.events) Enter s)) (node_rule n) refl

  at_entering : (x n : ℕ) (stack : List Pending) (s : State) → at_point (entering_turn p v x n stack s) ≡ done stack (with_fuel x (activation p v n (node_at p n).tags (node_rule n)) s)
  at_entering zero n stack s = refl
  at_entering (suc left) n stack s = at_entered n (node_at p n).tags stack (record s { left = left })

  at_mode : (mode : Mode) (stack : List Pending) (s : State) → at_point (mode_turn p v mode stack s) ≡ done stack (mode_outcome p v mode s)
  at_mode (Entering n) stack s = at_entering s.left n stack s ∙ ap (done stack) (sym (whole_unfolds n s))
  at_mode (Starting n) stack s = at_starting n (node_at p n).kind refl (node_at p n).children refl stack s
  at_mode (Coming r) stack s = at_coming r stack s

  -- a turn keeps the outcome to which the machine leads
  pub turn_keeps : (m : Machine) → point p v (turn p v m) ≡ point p v m
  unfolding point turn
  turn_keeps m = at_mode m.mode m.stack m.state
