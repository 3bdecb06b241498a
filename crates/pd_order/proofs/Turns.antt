-- Each turn of a machine keeps its events in order, and what waits to be left open.
use Rattle.std.proofs.Common.{◌≡◌, ℕ, zero, suc, ◌+◌, ◌-◌, ◌<◌, ◌≤◌, Bool, true, false, cond, List, [], ◌∷◌, ◌++◌, length, map, Option, Some, None, Result, Ok, Err, refl, sym, ap, ◌∙◌, ⊎_elim, arith}
use Rattle.std.specs.Prelude.{nat_lt, nat_le, slice_get, ◌^◌, ◌==◌, drop}
use Rattle.std.specs.List.{All}
use Rattle.std.proofs.lemmas.Bool.{cases_lt}
use Rattle.std.proofs.lemmas.List.{get_or_past, length_push, length-take-le}
use Rattle.std.proofs.lemmas.List.Elements.{All-nil, All-cons, All-head, All-tail, All-push}
use Rattle.pd_values.specs.declared.value.Value.{Value}
use Rattle.pd_values.specs.declared.value.Value.TheVariants.{Bool as Truth, Null, Func}
use Rattle.pd_values.specs.declared.value.Fault.{Fault}
use Rattle.pd_values.specs.declared.value.Tag.{Tag}
use Rattle.pd_values.specs.declared.value.Tag.TheVariants.{Statement, Call}
use Rattle.pd_values.specs.Operators.{ValueOrFault, show, plus, minus, odd}
use Rattle.pd_tree.specs.Binary.{binary}
use Rattle.pd_tree.specs.declared.kind.Kind.{Kind}
use Rattle.pd_tree.specs.declared.kind.Kind.TheVariants.{SlFunction, SlBody, SlIf, SlWhile, SlOr, SlAnd, SlBinary, SlCall, SlAssign, SlName, PlEmpty, PlProcedure, PlIf, PlWhile, PlAssign, PlCall, PlWrite, PlOdd, PlBinary, PlPlus, PlMinus, PlName}
use Rattle.pd_tree.specs.declared.kind.Meaning.{Meaning}
use Rattle.pd_tree.specs.declared.kind.Meaning.TheVariants.{Local, Item as Means, Nothing}
use Rattle.pd_tree.specs.Program.{Program, Node, no_node, node_at, item_at, item_names}
use Rattle.pd_machine.specs.declared.event.EventKind.{EventKind}
use Rattle.pd_machine.specs.declared.event.EventKind.TheVariants.{Enter, Return as Gave, Leave}
use Rattle.pd_machine.specs.declared.event.Cause.TheVariants.{Returning, Breaking, Continuing, Faulting, Unwinding}
use Rattle.pd_machine.specs.declared.event.Event.{Event}
use Rattle.pd_machine.specs.declared.event.Verdict.{Verdict}
use Rattle.pd_machine.specs.declared.event.Verdict.TheVariants.{Go, Reenter, Return, Kill}
use Rattle.pd_machine.specs.declared.run.Frame.{Frame}
use Rattle.pd_machine.specs.declared.run.NodeResult.{NodeResult}
use Rattle.pd_machine.specs.declared.run.NodeResult.TheVariants.{Gives, Returns, Breaks, Continues, Faults, Unwinds, Stops}
use Rattle.pd_machine.specs.declared.run.Pending.{Pending}
use Rattle.pd_machine.specs.declared.run.Pending.TheVariants.{Leaving, Operand, Catching, Choosing, ChoosingBetween, Testing, Turning, LeftSide, RightSide, InCall, Dropping}
use Rattle.pd_machine.specs.declared.run.Mode.{Mode}
use Rattle.pd_machine.specs.declared.run.Mode.TheVariants.{Entering, Starting, Coming}
use Rattle.pd_machine.specs.Events.{State, Scene, Told, standing, tell, set_variable, blocks_of, frame_of}
use Rattle.pd_machine.proofs.Changed.{length_of_changed, standing_at_first}
use Rattle.pd_meaning.specs.Meaning.{Verdicts, Outcome, ends, answered, on_one, on_two, named, assigned, written, popped, heed, verdict_on, first_or_null, first_variables, frame_for, most_frames, is_main_block, entry_frame, opening}
use Rattle.pd_meaning.specs.Machine.{Machine, machine, settled, obeyed, entered, entering_turn, call_begun, depth_checked, arguments_checked, item_called, value_called, name_called, combining, part_begun, parts_begun, last_begun, choice_begun, loop_begun, either_begun, starting_turn, by_truth, call_again, value_came, other_came, coming_turn, mode_turn, turn, start, after_turns}
use Rattle.pd_order.specs.Order.{Fits, IsEndOf, open_with, open_after}
use Rattle.pd_order.specs.Standing.{FrameIs, IsInCall, IsInCallAt, RestsOnCall, IsToldAt, IsTold, IsOpen, IsOpenAt, IsOrderly, called, leaving, place_of}
use Rattle.pd_order.proofs.Lists.{open_push, order_push, ends_innermost, all_written, all_standing, all_pushed, all_popped, length_written}
use Rattle.pd_order.proofs.Calls.{some_called, turn_in_call}

-- an event of this kind is an end
abbrev IsEnd : EventKind → Type 0
IsEnd Enter = ⊥
IsEnd _ = Unit {0}

end_fits : (kind : EventKind) (e : Event) (live : List Event) → IsEnd kind → IsEndOf e live → Fits kind e live
end_fits Enter e live end h = absurd end
end_fits (Gave a) e live end h = h
end_fits (Leave c) e live end h = h

end_closes : (kind : EventKind) (e : Event) (live : List Event) → IsEnd kind → open_with kind e live ≡ drop 1 live
end_closes Enter e live end = absurd end
end_closes (Gave a) e live end = refl
end_closes (Leave c) e live end = refl

-- a node of another kind than the one that stands for no node is one of the program
kind_inside : (p : Program) (n : ℕ) → ((node_at p n).kind ≡ PlEmpty → ⊥) → n < length p.nodes
kind_inside p n other =
    ⊎_elim
    (λ (within : n < length p.nodes). within)
    (λ (past : length p.nodes ≤ n). absurd (other (ap (λ x. x.kind) (get_or_past p.nodes n no_node past))))
    (cases_lt n (length p.nodes))

-- so is a node with tags
tags_inside : (p : Program) (n : ℕ) (t : Tag) (ts : List Tag) → (node_at p n).tags ≡ t ∷ ts → n < length p.nodes
tags_inside p n t ts e =
    ⊎_elim
    (λ (within : n < length p.nodes). within)
    (λ (past : length p.nodes ≤ n). let none : (node_at p n).tags ≡ [] = ap (λ x. x.tags) (get_or_past p.nodes n no_node past) in absurd (cc))
    (cases_lt n (length p.nodes))

module _ (P : ℕ → Type 0) (p : Program) (inside : (n : ℕ) → n < length p.nodes → P n) (roots : (i r : ℕ) → (item_at p i).root ≡ Some r → P r) (v : Verdicts) (fuel : ℕ) where
  abbrev nodes : ℕ
  nodes = length p.nodes

  abbrev Told_well : List Told → Type 0
  Told_well events = IsTold P nodes fuel events

  abbrev Opens : List Pending → State → Type 0
  Opens stack s = IsOpen P nodes fuel (leaving stack) (called stack) s.events s.left s.scene.frames

  abbrev Stands : Mode → List Pending → State → Type 0
  Stands mode stack s = IsOpenAt P nodes fuel mode (leaving stack) (called stack) s.events s.left s.scene.frames

  abbrev Good : Machine → Type 0
  Good m = Stands m.mode m.stack m.state

  abbrev GoodBy : List Pending → Outcome → Type 0
  GoodBy stack (ends r s) = Stands (Coming r) stack s

  -- ---- what holds where things are open holds in each mode

  anyway : (mode : Mode) (stack : List Pending) (s : State) → Opens stack s → Stands mode stack s
  anyway (Entering n) stack s h = h
  anyway (Starting n) stack s h = h
  anyway (Coming (Gives a)) stack s h = h
  anyway (Coming (Returns a)) stack s h = h
  anyway (Coming Breaks) stack s h = h
  anyway (Coming Continues) stack s h = h
  anyway (Coming (Faults f n)) stack s h = h
  anyway (Coming (Unwinds k a)) stack s h = h
  anyway (Coming (Stops x)) stack s h = h.told

  settled_good : (stack : List Pending) (o : Outcome) → GoodBy stack o → Good (settled stack o)
  settled_good stack (ends r s) h = h

  obeyed_good : (w : Verdict) (mode : Mode) (stack : List Pending) (s : State) → Opens stack s → Good (obeyed w (machine mode stack s))
  obeyed_good Go mode stack s h = anyway mode stack s h
  obeyed_good (Reenter k) mode stack s h = h
  obeyed_good (Return k a) mode stack s h = h
  obeyed_good Kill mode stack s h = h.told

  heed_good : (a : Value) (w : Verdict) (stack : List Pending) (s : State) → Opens stack s → GoodBy stack (heed w (λ t. ends (Gives a) t) s)
  heed_good a Go stack s h = h
  heed_good a (Reenter k) stack s h = h
  heed_good a (Return k b) stack s h = h
  heed_good a Kill stack s h = h.told

  cond_good : (stack : List Pending) (x : Bool) (o o' : Outcome) → GoodBy stack o → GoodBy stack o' → GoodBy stack (cond x o o')
  cond_good stack true o o' h k = h
  cond_good stack false o o' h k = k

  -- ---- frames

  with_frames : (stack : List Pending) (s : State) (c : Scene) → All (FrameIs P) c.frames → length c.frames ≡ length s.scene.frames → Opens stack s → Opens stack (record s { scene = c })
  with_frames stack s c framed same h = record { told = h.told; opens = h.opens; inside = h.inside; few = h.few; begun = h.begun; framed = framed; live = same ∙ h.live }

  less_one : (n k : ℕ) → n ≡ suc k → n - 1 ≡ k
  less_one n k e = omega (arith, e)

  -- the innermost call is over
  popped_good : (k : ℕ) (f : Frame) (stack : List Pending) (s : State) → Opens (InCall k f ∷ stack) s → Opens stack (popped s)
  popped_good k f stack s h = record {
    told = h.told;
    opens = h.opens;
    inside = h.inside;
    few = h.few;
    begun = All-tail (FrameIs P) f (called stack) h.begun;
    framed = all_popped P s.scene h.framed;
    live = length-take-le (length s.scene.frames - 1) s.scene.frames (omega arith) ∙ less_one (length s.scene.frames) (length (called stack)) h.live;
  }

  assigned_good : (stack : List Pending) (x : Meaning) (a : Value) (s : State) → Opens stack s → Opens stack (assigned x a s)
  assigned_good stack (Local up slot) a s h =
      with_frames stack s (set_variable s.scene up slot a) (all_written P s.scene (slice_get (blocks_of (frame_of s.scene.frames 0)) up) slot a h.framed)
      (length_written s.scene (slice_get (blocks_of (frame_of s.scene.frames 0)) up) slot a) h
  assigned_good stack (Means i) a s h = h
  assigned_good stack Nothing a s h = h

  begun_good : (f : Frame) (stack : List Pending) (s : State) → FrameIs P f → Opens stack s → Good (call_begun f stack s)
  begun_good f stack s is h = record {
    told = h.told;
    opens = h.opens;
    inside = h.inside;
    few = h.few;
    begun = All-cons (FrameIs P) f (called stack) is h.begun;
    framed = all_pushed P f s.scene is h.framed;
    live = length_push s.scene.frames f ∙ omega (arith, h.live);
  }

  -- ---- events

  told_at : (n opened : ℕ) (kind : EventKind) (s : State) → n < nodes → All (FrameIs P) s.scene.frames → 0 < length s.scene.frames → IsToldAt P nodes (record { event = record { number = length s.events; kind = kind; node = n; opened = opened; depth = length s.scene.frames }; scene = standing n s.scene })
  told_at n opened kind s below framed some = (below, sym (length_of_changed s.scene.frames _ _), all_standing P n s.scene (inside n below) framed, standing_at_first n s.scene some)

  -- in a call there is a frame
  some_frame : (stack : List Pending) (s : State) → IsInCall stack → Opens stack s → 0 < length s.scene.frames
  some_frame stack s b h = omega (arith, h.live, some_called stack b)

  ended_good : (n opened : ℕ) (kind : EventKind) (stack : List Pending) (s : State) → IsEnd kind → IsInCall stack → Opens (Leaving n opened ∷ stack) s → Opens stack (tell n opened kind s)
  ended_good n opened kind stack s end b h =
      let e : Event = record { number = length s.events; kind = kind; node = n; opened = opened; depth = length s.scene.frames } in
      let t : Told = record { event = e; scene = standing n s.scene } in
      let innermost = ends_innermost e (leaving stack) (open_after [] s.events) h.opens in
      let size : length (s.events ++ t ∷ []) ≡ length s.events + 1 = length_push s.events t in
      record {
        told = record {
          in_order = order_push s.events t h.told.in_order (refl, end_fits kind e (open_after [] s.events) end innermost.0);
          placed = All-push (IsToldAt P nodes) s.events t h.told.placed (told_at n opened kind s (All-head (λ w. w.0 < nodes) (n, opened) (leaving stack) h.inside) h.framed (some_frame (Leaving n opened ∷ stack) s b h));
          bound = omega (arith, size, h.few);
        };
        opens = innermost.1 ∙ ap (map place_of) (sym (open_push [] s.events t ∙ end_closes kind e (open_after [] s.events) end));
        inside = All-tail (λ w. w.0 < nodes) (n, opened) (leaving stack) h.inside;
        few = omega (arith, size, h.few);
        begun = h.begun;
        framed = h.framed;
        live = h.live;
      }

  enter_good : (n left : ℕ) (stack : List Pending) (s : State) → suc left ≡ s.left → n < nodes → IsInCall stack → Opens stack s → Opens (Leaving n (length s.events) ∷ stack) (tell n (length s.events) Enter (record s { left = left }))
  enter_good n left stack s fuel_is below b h =
      let e : Event = record { number = length s.events; kind = Enter; node = n; opened = length s.events; depth = length s.scene.frames } in
      let t : Told = record { event = e; scene = standing n s.scene } in
      let size : length (s.events ++ t ∷ []) ≡ length s.events + 1 = length_push s.events t in
      record {
        told = record {
          in_order = order_push s.events t h.told.in_order (refl, refl);
          placed = All-push (IsToldAt P nodes) s.events t h.told.placed (told_at n (length s.events) Enter s below h.framed (some_frame stack s b h));
          bound = omega (arith, size, h.few, fuel_is);
        };
        opens = ap (λ ws. (n, length s.events) ∷ ws) h.opens ∙ ap (map place_of) (sym (open_push [] s.events t));
        inside = All-cons (λ w. w.0 < nodes) (n, length s.events) (leaving stack) below h.inside;
        few = omega (arith, size, h.few, fuel_is);
        begun = h.begun;
        framed = h.framed;
        live = h.live;
      }

  less_fuel : (left : ℕ) (stack : List Pending) (s : State) → suc left ≡ s.left → Opens stack s → Opens stack (record s { left = left })
  less_fuel left stack s fuel_is h = record { told = h.told; opens = h.opens; inside = h.inside; few = omega (arith, h.few, fuel_is); begun = h.begun; framed = h.framed; live = h.live }

  -- ---- what a node makes of its values

  one_good : (n : ℕ) (values : List Value) (f : Value → State → Outcome) (stack : List Pending) (s : State) → Opens stack s → ((a : Value) → GoodBy stack (f a s)) → GoodBy stack (on_one n values f s)
  one_good n (a ∷ []) f stack s h k = k a
  one_good n _ f stack s h k = h

  two_good : (n : ℕ) (values : List Value) (f : Value → Value → State → Outcome) (stack : List Pending) (s : State) → Opens stack s → ((a b : Value) → GoodBy stack (f a b s)) → GoodBy stack (on_two n values f s)
  two_good n (a ∷ b ∷ []) f stack s h k = k a b
  two_good n _ f stack s h k = h

  answer_good : (n : ℕ) (x : ValueOrFault) (stack : List Pending) (s : State) → Opens stack s → GoodBy stack (answered n x s)
  answer_good n (Ok a) stack s h = h
  answer_good n (Err f) stack s h = h

  name_good : (n : ℕ) (x : Meaning) (stack : List Pending) (s : State) → Opens stack s → GoodBy stack (named n x s)
  name_good n (Local up slot) stack s h = h
  name_good n (Means i) stack s h = h
  name_good n Nothing stack s h = h

  written_good : (n : ℕ) (bytes : List ℕ) (a : Value) (stack : List Pending) (s : State) → Opens stack s → GoodBy stack (written n bytes a s)
  written_good n bytes a stack s h = cond_good stack (nat_le (length s.output + length bytes + 1) (2 ^ 24)) _ _ h h

  -- ---- calls, at a node where a frame may stand

  depth_good : (x : Bool) (n : ℕ) (f : Frame) (stack : List Pending) (s : State) → P n → FrameIs P f → Opens stack s → Good (depth_checked x n f stack s)
  depth_good true n f stack s at is h = begun_good f stack (record s { scene = standing n s.scene }) is (with_frames stack s (standing n s.scene) (all_standing P n s.scene at h.framed) (length_of_changed s.scene.frames _ _) h)
  depth_good false n f stack s at is h = h

  arguments_good : (n root : ℕ) (node : Node) (x : Result (List Value) Fault) (stack : List Pending) (s : State) → P n → P root → Opens stack s → Good (arguments_checked n root node x stack s)
  arguments_good n root node (Err f) stack s at is h = h
  arguments_good n root node (Ok vs) stack s at is h = depth_good (nat_lt (length s.scene.frames) most_frames) n (frame_for root node vs s.scene) stack s at (is, is) h

  item_good : (n : ℕ) (root : Option ℕ) (arguments : List Value) (stack : List Pending) (s : State) → P n → ((r : ℕ) → root ≡ Some r → P r) → Opens stack s → Good (item_called p n root arguments stack s)
  item_good n None arguments stack s at is h = settled_good stack _ (written_good n (show (item_names p) (first_or_null arguments)) (first_or_null arguments) stack s h)
  item_good n (Some root) arguments stack s at is h = arguments_good n root (node_at p root) (first_variables (node_at p root) arguments) stack s at (is root refl) h

  value_called_good : (n : ℕ) (values : List Value) (stack : List Pending) (s : State) → P n → Opens stack s → Good (value_called p n values stack s)
  value_called_good n (Func i ∷ arguments) stack s at h = item_good n (item_at p i).root arguments stack s at (roots i) h
  value_called_good n _ stack s at h = h

  name_called_good : (n : ℕ) (x : Meaning) (stack : List Pending) (s : State) → P n → Opens stack s → Good (name_called p n x stack s)
  name_called_good n (Means i) stack s at h = item_good n (item_at p i).root [] (Dropping ∷ stack) s at (roots i) h
  name_called_good n _ stack s at h = h

  combining_good : (n : ℕ) (kind : Kind) (values : List Value) (stack : List Pending) (s : State) → (node_at p n).kind ≡ kind → Opens stack s → Good (combining p n kind values stack s)
  combining_good n SlCall values stack s e h = value_called_good n values stack s (inside n (kind_inside p n (λ k. cc (e, k)))) h
  combining_good n (PlCall x) values stack s e h = name_called_good n (node_at p n).meaning stack s (inside n (kind_inside p n (λ k. cc (e, k)))) h
  combining_good n (SlBinary op) values stack s e h = settled_good stack _ (two_good n values (λ a b. answered n (binary (item_names p) op a b)) stack s h (λ a b. answer_good n (binary (item_names p) op a b) stack s h))
  combining_good n (PlBinary op) values stack s e h = settled_good stack _ (two_good n values (λ a b. answered n (binary (item_names p) op a b)) stack s h (λ a b. answer_good n (binary (item_names p) op a b) stack s h))
  combining_good n (SlAssign x) values stack s e h = settled_good stack _ (one_good n values (λ a t. ends (Gives a) (assigned (node_at p n).meaning a t)) stack s h (λ a. assigned_good stack (node_at p n).meaning a s h))
  combining_good n (PlAssign x) values stack s e h = settled_good stack _ (one_good n values (λ a t. ends (Gives Null) (assigned (node_at p n).meaning a t)) stack s h (λ a. assigned_good stack (node_at p n).meaning a s h))
  combining_good n (SlName x) values stack s e h = settled_good stack _ (name_good n (node_at p n).meaning stack s h)
  combining_good n (PlName x) values stack s e h = settled_good stack _ (name_good n (node_at p n).meaning stack s h)
  combining_good n PlWrite values stack s e h = settled_good stack _ (one_good n values (λ a. written n (show (item_names p) a) Null) stack s h (λ a. written_good n (show (item_names p) a) Null stack s h))
  combining_good n PlOdd values stack s e h = settled_good stack _ (one_good n values (λ a. answered n (odd a)) stack s h (λ a. answer_good n (odd a) stack s h))
  combining_good n PlPlus values stack s e h = settled_good stack _ (one_good n values (λ a. answered n (plus a)) stack s h (λ a. answer_good n (plus a) stack s h))
  combining_good n PlMinus values stack s e h = settled_good stack _ (one_good n values (λ a. answered n (minus a)) stack s h (λ a. answer_good n (minus a) stack s h))
  combining_good n _ values stack s e h = h

  part_good : (n i : ℕ) (x : Option ℕ) (values : List Value) (stack : List Pending) (s : State) → Opens stack s → Good (part_begun p n i x values stack s)
  part_good n i None values stack s h = combining_good n (node_at p n).kind values stack s refl h
  part_good n i (Some m) values stack s h = h

  parts_good : (n : ℕ) (ms : List ℕ) (i : ℕ) (values : List Value) (stack : List Pending) (s : State) → Opens stack s → Good (parts_begun p n ms i values stack s)
  parts_good n ms i values stack s h = part_good n i (slice_get ms i) values stack s h

  -- ---- each turn

  last_good : (ms : List ℕ) (stack : List Pending) (s : State) → Opens stack s → Good (last_begun ms stack s)
  last_good [] stack s h = h
  last_good (m ∷ []) stack s h = h
  last_good (m ∷ k ∷ ms) stack s h = last_good (k ∷ ms) stack s h

  choice_good : (n : ℕ) (ms : List ℕ) (stack : List Pending) (s : State) → Opens stack s → Good (choice_begun n ms stack s)
  choice_good n (c ∷ b ∷ []) stack s h = h
  choice_good n (c ∷ b ∷ d ∷ []) stack s h = h
  choice_good n _ stack s h = h

  loop_good : (n : ℕ) (ms : List ℕ) (stack : List Pending) (s : State) → Opens stack s → Good (loop_begun n ms stack s)
  loop_good n (test ∷ block ∷ []) stack s h = h
  loop_good n _ stack s h = h

  either_good : (x : Bool) (n : ℕ) (ms : List ℕ) (stack : List Pending) (s : State) → Opens stack s → Good (either_begun x n ms stack s)
  either_good x n (l ∷ r ∷ []) stack s h = h
  either_good x n _ stack s h = h

  starting_good : (n : ℕ) (kind : Kind) (ms : List ℕ) (stack : List Pending) (s : State) → Opens stack s → Good (starting_turn p n kind ms stack s)
  starting_good n (SlFunction name parameters) ms stack s h = last_good ms stack s h
  starting_good n (PlProcedure name variables) ms stack s h = last_good ms stack s h
  starting_good n SlBody ms stack s h = parts_good n ms 0 [] (Catching ∷ stack) s h
  starting_good n SlIf ms stack s h = choice_good n ms stack s h
  starting_good n PlIf ms stack s h = choice_good n ms stack s h
  starting_good n SlWhile ms stack s h = loop_good n ms stack s h
  starting_good n PlWhile ms stack s h = loop_good n ms stack s h
  starting_good n SlOr ms stack s h = either_good true n ms stack s h
  starting_good n SlAnd ms stack s h = either_good false n ms stack s h
  starting_good n kind ms stack s h = parts_good n ms 0 [] stack s h

  truth_good : (n : ℕ) (a : Value) (m m' : Machine) (stack : List Pending) (s : State) → Opens stack s → Good m → Good m' → Good (by_truth n a m m' stack s)
  truth_good n (Truth true) m m' stack s h g k = g
  truth_good n (Truth false) m m' stack s h g k = k
  truth_good n _ m m' stack s h g k = h

  value_good : (x : Pending) (a : Value) (stack : List Pending) (s : State) → IsInCall (x ∷ stack) → Opens (x ∷ stack) s → Good (value_came p v x a stack s)
  value_good (Leaving n opened) a stack s b h = obeyed_good (verdict_on p v n Call (length s.events)) (Coming (Gives a)) stack (tell n opened (Gave a) s) (ended_good n opened (Gave a) stack s tt b h)
  value_good (Operand n values i) a stack s b h = parts_good n (node_at p n).children i (values ++ a ∷ []) stack s h
  value_good Catching a stack s b h = h
  value_good (Choosing n block) a stack s b h = truth_good n a (machine (Entering block) stack s) (machine (Coming (Gives Null)) stack s) stack s h h h
  value_good (ChoosingBetween n block other) a stack s b h = truth_good n a (machine (Entering block) stack s) (machine (Entering other) stack s) stack s h h h
  value_good (Testing n test block) a stack s b h = truth_good n a (machine (Entering block) (Turning n test block ∷ stack) s) (machine (Coming (Gives Null)) stack s) stack s h h h
  value_good (Turning n test block) a stack s b h = h
  value_good (LeftSide true n r) a stack s b h = truth_good n a (machine (Coming (Gives (Truth true))) stack s) (machine (Entering r) (RightSide n ∷ stack) s) stack s h h h
  value_good (LeftSide false n r) a stack s b h = truth_good n a (machine (Entering r) (RightSide n ∷ stack) s) (machine (Coming (Gives (Truth false))) stack s) stack s h h h
  value_good (RightSide n) a stack s b h = truth_good n a (machine (Coming (Gives (Truth true))) stack s) (machine (Coming (Gives (Truth false))) stack s) stack s h h h
  value_good (InCall k f) a stack s b h = popped_good k f stack s h
  value_good Dropping a stack s b h = h

  again_good : (x : Bool) (m : ℕ) (f : Frame) (stack : List Pending) (s : State) → FrameIs P f → Opens stack s → Good (call_again x m f stack s)
  again_good true m f stack s is h = begun_good f stack s is h
  again_good false m f stack s is h = h

  given_good : (x : Bool) (a : Value) (m : ℕ) (stack : List Pending) (s : State) → Opens stack s → Stands (Coming (cond x (Gives a) (Unwinds m (Some a)))) stack s
  given_good true a m stack s h = h
  given_good false a m stack s h = h

  call_good : (k : ℕ) (f : Frame) (r : NodeResult) (stack : List Pending) (s : State) → Stands (Coming r) (InCall k f ∷ stack) s → Good (other_came p v (InCall k f) r stack s)
  call_good k f (Unwinds m None) stack s h = again_good (m == k) m f stack (popped s) (All-head (FrameIs P) f (called stack) h.begun) (popped_good k f stack s h)
  call_good k f (Unwinds m (Some a)) stack s h = given_good (m == k) a m stack (popped s) (popped_good k f stack s h)
  call_good k f (Stops x) stack s h = h
  call_good k f (Gives a) stack s h = popped_good k f stack s h
  call_good k f (Returns a) stack s h = popped_good k f stack s h
  call_good k f Breaks stack s h = popped_good k f stack s h
  call_good k f Continues stack s h = popped_good k f stack s h
  call_good k f (Faults g n) stack s h = popped_good k f stack s h

  leave_good : (n opened : ℕ) (r : NodeResult) (stack : List Pending) (s : State) → IsInCall stack → Stands (Coming r) (Leaving n opened ∷ stack) s → Good (other_came p v (Leaving n opened) r stack s)
  leave_good n opened (Gives a) stack s b h = settled_good stack _ (heed_good a (verdict_on p v n Call (length s.events)) stack (tell n opened (Gave a) s) (ended_good n opened (Gave a) stack s tt b h))
  leave_good n opened (Returns a) stack s b h = ended_good n opened (Leave Returning) stack s tt b h
  leave_good n opened Breaks stack s b h = ended_good n opened (Leave Breaking) stack s tt b h
  leave_good n opened Continues stack s b h = ended_good n opened (Leave Continuing) stack s tt b h
  leave_good n opened (Faults f m) stack s b h = ended_good n opened (Leave (Faulting f)) stack s tt b h
  leave_good n opened (Unwinds k a) stack s b h = ended_good n opened (Leave Unwinding) stack s tt b h
  leave_good n opened (Stops x) stack s b h = h

  other_good : (x : Pending) (r : NodeResult) (stack : List Pending) (s : State) → IsInCall (x ∷ stack) → Stands (Coming r) (x ∷ stack) s → Good (other_came p v x r stack s)
  other_good (Leaving n opened) r stack s b h = leave_good n opened r stack s b h
  other_good (Operand n values i) r stack s b h = h
  other_good Catching (Returns a) stack s b h = h
  other_good Catching r stack s b h = h
  other_good (Choosing n block) r stack s b h = h
  other_good (ChoosingBetween n block other) r stack s b h = h
  other_good (Testing n test block) r stack s b h = h
  other_good (Turning n test block) Continues stack s b h = h
  other_good (Turning n test block) Breaks stack s b h = h
  other_good (Turning n test block) r stack s b h = h
  other_good (LeftSide x n right) r stack s b h = h
  other_good (RightSide n) r stack s b h = h
  other_good (InCall k f) r stack s b h = call_good k f r stack s h
  other_good Dropping r stack s b h = h

  coming_good : (r : NodeResult) (stack : List Pending) (s : State) → RestsOnCall stack → Stands (Coming r) stack s → Good (coming_turn p v r stack s)
  coming_good r [] s b h = h
  coming_good (Gives a) (x ∷ stack) s b h = value_good x a stack s b h
  coming_good r (x ∷ stack) s b h = other_good x r stack s b h

  entered_good : (n left : ℕ) (tags : List Tag) (stack : List Pending) (s : State) → (node_at p n).tags ≡ tags → suc left ≡ s.left → IsInCall stack → Opens stack s → Good (entered p v n tags stack (record s { left = left }))
  entered_good n left [] stack s e fuel_is b h = less_fuel left stack s fuel_is h
  entered_good n left (t ∷ ts) stack s e fuel_is b h =
      obeyed_good (verdict_on p v n Statement (length s.events)) (Starting n) (Leaving n (length s.events) ∷ stack) (tell n (length s.events) Enter (record s { left = left }))
      (enter_good n left stack s fuel_is (tags_inside p n t ts e) b h)

  entering_good : (left n : ℕ) (stack : List Pending) (s : State) → left ≡ s.left → IsInCall stack → Opens stack s → Good (entering_turn p v left n stack s)
  entering_good zero n stack s e b h = h.told
  entering_good (suc left) n stack s e b h = entered_good n left (node_at p n).tags stack s refl e b h

  mode_good : (mode : Mode) (stack : List Pending) (s : State) → IsInCallAt mode stack → Stands mode stack s → Good (mode_turn p v mode stack s)
  mode_good (Entering n) stack s b h = entering_good s.left n stack s refl b h
  mode_good (Starting n) stack s b h = starting_good n (node_at p n).kind (node_at p n).children stack s h
  mode_good (Coming r) stack s b h = coming_good r stack s b h

  -- a turn keeps it
  pub turn_orderly : (m : Machine) → IsOrderly P nodes fuel m → IsOrderly P nodes fuel (turn p v m)
  unfolding turn
  turn_orderly m h = (turn_in_call p v m h.0, mode_good m.mode m.stack m.state h.0 h.1)

  pub turns_orderly : (k : ℕ) (m : Machine) → IsOrderly P nodes fuel m → IsOrderly P nodes fuel (after_turns p v k m)
  turns_orderly zero m h = h
  turns_orderly (suc k) m h = turns_orderly k (turn p v m) (turn_orderly m h)

  -- ---- whole runs

  main_frame : (x : Bool) (f g : Frame) → FrameIs P f → FrameIs P g → FrameIs P (cond x f g)
  main_frame true f g h k = h
  main_frame false f g h k = k

  -- a run begins so
  pub start_orderly : (most root : ℕ) → most ≤ fuel → P root → IsOrderly P nodes fuel (start p most root)
  start_orderly most root enough is =
      let first : FrameIs P (entry_frame root (node_at p root) (opening p most)) = main_frame (is_main_block (node_at p root).kind (node_at p root).level) _ _ (is, is) (is, is) in (
        tt,
        record {
          told = record { in_order = tt; placed = All-nil (IsToldAt P nodes); bound = omega arith };
          opens = refl;
          inside = All-nil (λ w. w.0 < nodes);
          few = omega (arith, enough);
          begun = All-cons (FrameIs P) _ [] first (All-nil (FrameIs P));
          framed = All-cons (FrameIs P) _ [] first (All-nil (FrameIs P));
          live = refl;
        },
      )

  over_orderly : (mode : Mode) (stack : List Pending) (s : State) → Stands mode stack s → Told_well s.events
  over_orderly (Entering n) stack s h = h.told
  over_orderly (Starting n) stack s h = h.told
  over_orderly (Coming (Gives a)) stack s h = h.told
  over_orderly (Coming (Returns a)) stack s h = h.told
  over_orderly (Coming Breaks) stack s h = h.told
  over_orderly (Coming Continues) stack s h = h.told
  over_orderly (Coming (Faults f n)) stack s h = h.told
  over_orderly (Coming (Unwinds k a)) stack s h = h.told
  over_orderly (Coming (Stops x)) stack s h = h

  -- the events told by a machine so far
  pub orderly_told : (m : Machine) → IsOrderly P nodes fuel m → Told_well m.state.events
  orderly_told m h = over_orderly m.mode m.stack m.state h.1
