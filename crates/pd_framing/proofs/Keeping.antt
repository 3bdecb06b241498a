-- How a fact on states is kept by every run. The rules say how it goes on in each step that changes frames, variables or events; where
-- they hold, a run keeps it. An induction over the meaning, by what is left after each part: a stop leaves it for some open activations,
-- and each other result for those that were open before.
use Rattle.pd_machine.specs.declared.run.Frame.{Frame}
use Rattle.pd_machine.specs.declared.run.NodeResult.{NodeResult}
use Rattle.pd_machine.specs.declared.run.NodeResult.TheVariants.{Gives, Returns, Breaks, Continues, Faults, Unwinds, Stops}
use Rattle.std.proofs.Common.{◌≡◌, ℕ, zero, suc, Bool, true, false, cond, List, [], ◌∷◌, ◌++◌, length, map, Option, Some, None, Result, Ok, Err, refl, sym, ap, subst, ◌∙◌, inl, inr}
use Rattle.std.specs.Prelude.{nat_le, nat_lt, ◌+◌, ◌==◌, ◌^◌, ◌⊎◌, not}
use Rattle.std.proofs.lemmas.Bool.{and_parts}
use Rattle.pd_values.specs.declared.value.Value.{Value}
use Rattle.pd_values.specs.declared.value.Value.TheVariants.{Bool as Truth, Null, Func}
use Rattle.pd_values.specs.declared.value.Fault.{Fault}
use Rattle.pd_values.specs.declared.value.Fault.TheVariants.{Depth}
use Rattle.pd_values.specs.declared.value.Tag.{Tag}
use Rattle.pd_values.specs.declared.value.Tag.TheVariants.{Statement, Call, Root}
use Rattle.pd_tree.specs.declared.kind.Kind.{Kind}
use Rattle.pd_tree.specs.declared.kind.Kind.TheVariants.{SlFunction, SlBody, SlIf, SlWhile, SlOr, SlAnd, SlBinary, SlCall, SlAssign, SlName, PlProcedure, PlIf, PlWhile, PlAssign, PlCall, PlWrite, PlOdd, PlBinary, PlPlus, PlMinus, PlName}
use Rattle.pd_tree.specs.declared.kind.Meaning.{Meaning}
use Rattle.pd_tree.specs.declared.kind.Meaning.TheVariants.{Local, Item as Means, Nothing}
use Rattle.pd_machine.specs.declared.run.Home.{Home}
use Rattle.pd_machine.specs.declared.run.Home.TheVariants.{InFrame}
use Rattle.pd_machine.specs.declared.event.EventKind.TheVariants.{Enter, Return as Gave, Leave}
use Rattle.pd_machine.specs.declared.event.Cause.{Cause}
use Rattle.pd_machine.specs.declared.event.Cause.TheVariants.{Returning, Breaking, Continuing, Faulting, Unwinding}
use Rattle.pd_machine.specs.declared.event.Verdict.{Verdict}
use Rattle.pd_machine.specs.declared.event.Verdict.TheVariants.{Go, Reenter, Return, Kill}
use Rattle.pd_values.specs.Operators.{ValueOrFault, show, plus, minus, odd}
use Rattle.pd_tree.specs.Binary.{binary}
use Rattle.pd_tree.specs.Program.{Program, Node, node_at, item_at, item_names, has_tag}
use Rattle.pd_machine.specs.Events.{Scene, State, Told, frame_of, blocks_of, push_frame, standing, tell}
use Rattle.pd_running.specs.Running.{is_root_node}
use Rattle.pd_nesting.specs.Nesting.{is_rooted, AreRooted}
use Rattle.pd_framing.specs.Framing.{blocks_for, blocks_from, blocks_along, is_assignment, are_parts, last_is_part, runs_parts, RunsParts}
use Rattle.pd_framing.proofs.Lists.{map_length, path_of, path_root, path_other, IsSome, push_some, blocks_frame}
use Rattle.pd_meaning.specs.Meaning.{Verdicts, Outcome, ends, Run, with_value, answered, with_fuel, heed, verdict_on, exit, activation, parts, on_one, on_two, on_truth, last_part, caught, choice, after_turn, turns, loop, either_side, right_truth, named, assigned, written, popped, returned, invoked, first_or_null, first_variables, around, frame_for, most_frames, called_with, called, sl_call, pl_call, combined, inside, evaluated, opening, entry_frame, from_root, is_main_block, ran, meaning_of}

-- ---- what the rules speak of

-- an Enter of node n
abbrev pub enter_of : ℕ → State → Told
enter_of n s = record { event = record { number = length s.events; kind = Enter; node = n; opened = length s.events; depth = length s.scene.frames }; scene = standing n s.scene }

-- a frame sees the blocks that static nesting puts behind this path
abbrev pub IsFrameOf : Program → List ℕ → Frame → Type 0
IsFrameOf p path f = f.blocks ≡ blocks_for (node_at p f.root) (blocks_along p path)

-- the last of these events gave the value, at this node
pub record LastGave (m : ℕ) (a : Value) (ts : List Told) : Type 0 where
  pub before : List Told
  pub last : Told
  pub events : ts ≡ before ++ last ∷ []
  pub node : last.event.node ≡ m
  pub gave : last.event.kind ≡ Gave a

-- a node that gave the value told it last, where it has tags
abbrev pub HasGiven : Program → ℕ → Value → List Told → Type 0
HasGiven p m a ts = ((node_at p m).tags ≡ []) ⊎ LastGave m a ts

-- an assignment has just changed its variable, after its right side gave the value
pub record IsChanged (p : Program) (Fits : List Told → List ℕ → State → Type 0) (n : ℕ) (xs : List Told) (path : List ℕ) (s : State) : Type 0 where
  pub right : ℕ
  pub value : Value
  pub before : State
  pub kind : is_assignment (node_at p n).kind ≡ true
  pub children : (node_at p n).children ≡ right ∷ []
  pub fits : Fits xs path before
  pub given : HasGiven p right value before.events
  pub now : s ≡ assigned (node_at p n).meaning value before

-- what stands when a node has its value
abbrev pub IsGiven : Program → (List Told → List ℕ → State → Type 0) → ℕ → List Told → List ℕ → State → Type 0
IsGiven p Fits n xs path s = ((is_assignment (node_at p n).kind ≡ false) × Fits xs path s) ⊎ IsChanged p Fits n xs path s

-- the rules by which a fact goes on, on a state in which these activations are open, and the frames are those of a path
pub record Rules (p : Program) (Fits : List Told → List ℕ → State → Type 0) : Type 0 where
  pub fuel : (xs : List Told) (path : List ℕ) (less : ℕ) (s : State) → Fits xs path s → Fits xs path (record s { left = less })
  pub output : (xs : List Told) (path : List ℕ) (bytes : List ℕ) (s : State) → Fits xs path s → Fits xs path (record s { output = bytes })
  pub stands : (xs : List Told) (path : List ℕ) (n : ℕ) (s : State) → Fits xs path s → Fits xs path (record s { scene = standing n s.scene })
  -- an activation begins
  pub enters : (xs : List Told) (path : List ℕ) (n : ℕ) (s : State) → path ≡ path_of p (xs ++ enter_of n s ∷ []) → Fits xs path s → Fits (xs ++ enter_of n s ∷ []) path (tell n (length s.events) Enter s)
  -- the innermost one ends, with a value or without
  pub gives : (xs : List Told) (path : List ℕ) (n opened : ℕ) (a : Value) (s : State) (enter : Told) → enter.event.number ≡ opened → enter.event.node ≡ n → path ≡ path_of p (xs ++ enter ∷ [])
      → IsGiven p Fits n (xs ++ enter ∷ []) path s → Fits xs path (tell n opened (Gave a) s)
  pub leaves : (xs : List Told) (path : List ℕ) (n opened : ℕ) (cause : Cause) (s : State) (enter : Told) → enter.event.number ≡ opened → enter.event.node ≡ n → path ≡ path_of p (xs ++ enter ∷ [])
      → Fits (xs ++ enter ∷ []) path s → Fits xs path (tell n opened (Leave cause) s)
  -- a node without tags tells nothing
  pub silent : (xs : List Told) (path : List ℕ) (n : ℕ) (s : State) → (node_at p n).tags ≡ [] → IsGiven p Fits n xs path s → Fits xs path s
  -- a frame is pushed, and the innermost is popped
  pub pushes : (xs : List Told) (path : List ℕ) (f : Frame) (s : State) → path ≡ path_of p xs → IsFrameOf p path f → Fits xs path s → Fits xs (path ++ f.root ∷ []) (record s { scene = push_frame f s.scene })
  pub pops : (xs : List Told) (path : List ℕ) (root : ℕ) (s : State) → path ≡ path_of p xs → Fits xs (path ++ root ∷ []) s → Fits xs path (popped s)
  -- it says what blocks the frames see
  pub blocks : (xs : List Told) (path : List ℕ) (s : State) → Fits xs path s → map (λ f. f.blocks) s.scene.frames ≡ blocks_along p path

-- a state at the end of a run with these events
pub record IsReached (Fits : List Told → List ℕ → State → Type 0) (events : List Told) : Type 0 where
  pub live : List Told
  pub path : List ℕ
  pub state : State
  pub fits : Fits live path state
  pub events_are : state.events ≡ events

-- ---- the frame of a call

never_none : (p : Program) (before : List (List Home)) (b : List Home) (path : List ℕ) → blocks_from p (before ++ b ∷ []) path ≡ [] → ⊥
never_none p [] b [] e = cc
never_none p (c ∷ before) b [] e = cc
never_none p before b (n ∷ ns) e = never_none p (before ++ b ∷ []) (blocks_for (node_at p n) (before ++ b ∷ [])) ns e

called_from : (p : Program) (node : Node) (fs : List Frame) (path : List ℕ) → IsSome path → map (λ f. f.blocks) fs ≡ blocks_along p path
    → (InFrame (length fs) ∷ around node.level node.source (blocks_of (frame_of fs 0))) ≡ blocks_for node (blocks_along p path)
called_from p node [] [] some e = absurd some
called_from p node [] (n ∷ ns) some e = absurd (never_none p [] (blocks_for (node_at p n) []) ns (sym e))
called_from p node (f ∷ fs) path some e =
    ap (λ k. InFrame k ∷ around node.level node.source (blocks_of (frame_of (f ∷ fs) 0))) (sym (map_length (λ (f : Frame). f.blocks) (f ∷ fs)))
    ∙ ap (λ bs. InFrame (length (map (λ f. f.blocks) (f ∷ fs))) ∷ around node.level node.source bs) (blocks_frame (f ∷ fs) 0)
    ∙ ap (blocks_for node) e

call_frame : (p : Program) (path : List ℕ) (root : ℕ) (values : List Value) (c : Scene) → IsSome path → map (λ f. f.blocks) c.frames ≡ blocks_along p path → IsFrameOf p path (frame_for root (node_at p root) values c)
call_frame p path root values c some e = called_from p (node_at p root) c.frames path some e

module _ (p : Program) (Fits : List Told → List ℕ → State → Type 0) (rules : Rules p Fits) where
  -- a node that isn't a function or a procedure
  abbrev IsPart : ℕ → Type 0
  IsPart m = is_root_node p m ≡ false

  not_true : (b : Bool) → not b ≡ true → b ≡ false
  not_true true h = cc
  not_true false h = refl

  first_part : (m : ℕ) (ms : List ℕ) → are_parts p (m ∷ ms) ≡ true → IsPart m × (are_parts p ms ≡ true)
  first_part m ms h = let both = and_parts (not (is_root_node p m)) (are_parts p ms) h in (not_true (is_root_node p m) both.0, both.1)

  -- ---- outcomes

  reached : (xs : List Told) (path : List ℕ) (s : State) → Fits xs path s → IsReached Fits s.events
  reached xs path s g = record { live = xs; path = path; state = s; fits = g; events_are = refl }

  abbrev Left : NodeResult → List Told → List ℕ → State → Type 0
  Left (Stops x) xs path s = IsReached Fits s.events
  Left _ xs path s = Fits xs path s

  abbrev After : List Told → List ℕ → Outcome → Type 0
  After xs path (ends r s) = Left r xs path s

  abbrev Keeps : List Told → List ℕ → (State → Outcome) → Type 0
  Keeps xs path go = (s : State) → Fits xs path s → After xs path (go s)

  abbrev KeepsValue : List Told → List ℕ → (Value → State → Outcome) → Type 0
  KeepsValue xs path go = (a : Value) → Keeps xs path (go a)

  -- what node n leaves before its exit
  abbrev LeftBy : ℕ → NodeResult → List Told → List ℕ → State → Type 0
  LeftBy n (Gives a) xs path s = IsGiven p Fits n xs path s
  LeftBy n (Stops x) xs path s = IsReached Fits s.events
  LeftBy n _ xs path s = Fits xs path s

  abbrev AfterNode : ℕ → List Told → List ℕ → Outcome → Type 0
  AfterNode n xs path (ends r s) = LeftBy n r xs path s

  abbrev KeepsNode : ℕ → List Told → List ℕ → (State → Outcome) → Type 0
  KeepsNode n xs path go = (s : State) → Fits xs path s → AfterNode n xs path (go s)

  -- a node that is no assignment leaves what its parts do
  other_node : (n : ℕ) (xs : List Told) (path : List ℕ) (o : Outcome) → is_assignment (node_at p n).kind ≡ false → After xs path o → AfterNode n xs path o
  other_node n xs path (ends (Gives a) s) e g = inl (e, g)
  other_node n xs path (ends _ s) e g = g

  -- what a node that gave a value told
  abbrev Says : ℕ → Outcome → Type 0
  Says m (ends (Gives a) s) = HasGiven p m a s.events
  Says m (ends _ s) = Unit {0}

  value_keeps : (xs : List Told) (path : List ℕ) (o : Outcome) (go : Value → State → Outcome) → After xs path o → KeepsValue xs path go → After xs path (with_value o go)
  value_keeps xs path (ends (Gives a) s) go g h = h a s g
  value_keeps xs path (ends _ s) go g h = g

  value_node : (n m : ℕ) (xs : List Told) (path : List ℕ) (o : Outcome) (go : Value → State → Outcome) → After xs path o → Says m o
      → ((a : Value) (t : State) → Fits xs path t → HasGiven p m a t.events → AfterNode n xs path (go a t)) → AfterNode n xs path (with_value o go)
  value_node n m xs path (ends (Gives a) s) go g i h = h a s g i
  value_node n m xs path (ends _ s) go g i h = g

  truth_keeps : (xs : List Told) (path : List ℕ) (n : ℕ) (a : Value) (f g : State → Outcome) → Keeps xs path f → Keeps xs path g → Keeps xs path (on_truth n a f g)
  truth_keeps xs path n (Truth true) f g h k s e = h s e
  truth_keeps xs path n (Truth false) f g h k s e = k s e
  truth_keeps xs path n _ f g h k s e = e

  one_keeps : (xs : List Told) (path : List ℕ) (n : ℕ) (values : List Value) (f : Value → State → Outcome) → KeepsValue xs path f → Keeps xs path (on_one n values f)
  one_keeps xs path n (a ∷ []) f h s e = h a s e
  one_keeps xs path n _ f h s e = e

  two_keeps : (xs : List Told) (path : List ℕ) (n : ℕ) (values : List Value) (f : Value → Value → State → Outcome) → ((a : Value) → KeepsValue xs path (f a)) → Keeps xs path (on_two n values f)
  two_keeps xs path n (a ∷ b ∷ []) f h s e = h a b s e
  two_keeps xs path n _ f h s e = e

  answer_keeps : (xs : List Told) (path : List ℕ) (n : ℕ) (x : ValueOrFault) → Keeps xs path (answered n x)
  answer_keeps xs path n (Ok a) s e = e
  answer_keeps xs path n (Err f) s e = e

  heed_keeps : (xs : List Told) (path : List ℕ) (w : Verdict) (a : Value) → Keeps xs path (heed w (λ t. ends (Gives a) t))
  heed_keeps xs path Go a s e = e
  heed_keeps xs path (Reenter k) a s e = e
  heed_keeps xs path (Return k b) a s e = e
  heed_keeps xs path Kill a s e = reached xs path s e

  heed_node : (n : ℕ) (xs : List Told) (path : List ℕ) (w : Verdict) (f : State → Outcome) → KeepsNode n xs path f → KeepsNode n xs path (heed w f)
  heed_node n xs path Go f h s e = h s e
  heed_node n xs path (Reenter k) f h s e = e
  heed_node n xs path (Return k a) f h s e = e
  heed_node n xs path Kill f h s e = reached xs path s e

  exit_keeps : (xs : List Told) (path : List ℕ) (v : Verdicts) (n opened : ℕ) (o : Outcome) (enter : Told) → enter.event.number ≡ opened → enter.event.node ≡ n → path ≡ path_of p (xs ++ enter ∷ []) → AfterNode n (xs ++ enter ∷ []) path o → After xs path (exit p v n opened o)
  exit_keeps xs path v n opened (ends (Gives a) s) enter i j q g = heed_keeps xs path (verdict_on p v n Call (length s.events)) a (tell n opened (Gave a) s) (rules.gives xs path n opened a s enter i j q g)
  exit_keeps xs path v n opened (ends (Returns a) s) enter i j q g = rules.leaves xs path n opened Returning s enter i j q g
  exit_keeps xs path v n opened (ends Breaks s) enter i j q g = rules.leaves xs path n opened Breaking s enter i j q g
  exit_keeps xs path v n opened (ends Continues s) enter i j q g = rules.leaves xs path n opened Continuing s enter i j q g
  exit_keeps xs path v n opened (ends (Faults f m) s) enter i j q g = rules.leaves xs path n opened (Faulting f) s enter i j q g
  exit_keeps xs path v n opened (ends (Unwinds k a) s) enter i j q g = rules.leaves xs path n opened Unwinding s enter i j q g
  exit_keeps xs path v n opened (ends (Stops x) s) enter i j q g = g

  silent_keeps : (xs : List Told) (path : List ℕ) (n : ℕ) (o : Outcome) → (node_at p n).tags ≡ [] → AfterNode n xs path o → After xs path o
  silent_keeps xs path n (ends (Gives a) s) e g = rules.silent xs path n s e g
  silent_keeps xs path n (ends _ s) e g = g

  -- what a node's own rule keeps, where some function or procedure runs
  abbrev KeepsInside : ℕ → (State → Outcome) → Type 0
  KeepsInside n f = (ys : List Told) → IsSome (path_of p ys) → KeepsNode n ys (path_of p ys) f

  inside_at : (n : ℕ) (f : State → Outcome) (ys : List Told) (path : List ℕ) → path ≡ path_of p ys → IsSome path → KeepsInside n f → KeepsNode n ys path f
  inside_at n f ys path e some h = subst (λ l. KeepsNode n ys l f) (sym e) (h ys (subst IsSome e some))

  activation_keeps : (xs : List Told) (path : List ℕ) (v : Verdicts) (n : ℕ) (tags : List Tag) (f : State → Outcome) → (node_at p n).tags ≡ tags → IsSome path
      → ((t : Told) → t.event.node ≡ n → path ≡ path_of p (xs ++ t ∷ [])) → (tags ≡ [] → path ≡ path_of p xs) → KeepsInside n f → Keeps xs path (activation p v n tags f)
  activation_keeps xs path v n [] f e some i q h s g = silent_keeps xs path n (f s) e (inside_at n f xs path (q refl) some h s g)
  activation_keeps xs path v n (t ∷ ts) f e some i q h s g =
      let enter : Told = enter_of n s in
      exit_keeps xs path v n (length s.events) _ enter refl refl (i enter refl)
      (heed_node n (xs ++ enter ∷ []) path (verdict_on p v n Statement (length s.events)) f (inside_at n f (xs ++ enter ∷ []) path (i enter refl) some h) (tell n (length s.events) Enter s)
      (rules.enters xs path n s (i enter refl) g))

  caught_keeps : (xs : List Told) (path : List ℕ) (o : Outcome) → After xs path o → After xs path (caught o)
  caught_keeps xs path (ends (Returns a) s) g = g
  caught_keeps xs path (ends _ s) g = g

  turn_keeps : (xs : List Told) (path : List ℕ) (o : Outcome) (f : State → Outcome) → After xs path o → Keeps xs path f → After xs path (after_turn o f)
  turn_keeps xs path (ends (Gives a) s) f g h = h s g
  turn_keeps xs path (ends Continues s) f g h = h s g
  turn_keeps xs path (ends Breaks s) f g h = g
  turn_keeps xs path (ends _ s) f g h = g

  again_keeps : (xs : List Told) (path : List ℕ) (b : Bool) (m : ℕ) (s : State) (f : State → Outcome) → Fits xs path (popped s) → Keeps xs path f → After xs path (elim b [ true ↦ f (popped s) | false ↦ ends (Unwinds m None) (popped s) ])
  again_keeps xs path true m s f g h = h (popped s) g
  again_keeps xs path false m s f g h = g

  given_keeps : (xs : List Told) (path : List ℕ) (b : Bool) (m : ℕ) (a : Value) (s : State) → Fits xs path s → After xs path (ends (cond b (Gives a) (Unwinds m (Some a))) s)
  given_keeps xs path true m a s g = g
  given_keeps xs path false m a s g = g

  returned_keeps : (xs : List Told) (path : List ℕ) (r k : ℕ) (o : Outcome) (f : State → Outcome) → path ≡ path_of p xs → After xs (path ++ r ∷ []) o → Keeps xs path f → After xs path (returned k o f)
  returned_keeps xs path r k (ends (Unwinds m None) s) f e g h = again_keeps xs path (m == k) m s f (rules.pops xs path r s e g) h
  returned_keeps xs path r k (ends (Unwinds m (Some a)) s) f e g h = given_keeps xs path (m == k) m a (popped s) (rules.pops xs path r s e g)
  returned_keeps xs path r k (ends (Gives a) s) f e g h = rules.pops xs path r s e g
  returned_keeps xs path r k (ends (Returns a) s) f e g h = rules.pops xs path r s e g
  returned_keeps xs path r k (ends Breaks s) f e g h = rules.pops xs path r s e g
  returned_keeps xs path r k (ends Continues s) f e g h = rules.pops xs path r s e g
  returned_keeps xs path r k (ends (Faults x n) s) f e g h = rules.pops xs path r s e g
  returned_keeps xs path r k (ends (Stops x) s) f e g h = g

  invoked_keeps : (xs : List Told) (path : List ℕ) (R : Run) (f : Frame) → path ≡ path_of p xs → IsFrameOf p path f → Keeps xs (path ++ f.root ∷ []) (R f.root) → (bound : ℕ) → Keeps xs path (invoked bound R f)
  invoked_keeps xs path R f e i run zero s g = reached xs path s g
  invoked_keeps xs path R f e i run (suc bound) s g =
      let t = record s { scene = push_frame f s.scene } in
      returned_keeps xs path f.root (length s.scene.frames) (R f.root t) (invoked bound R f) e (run t (rules.pushes xs path f s e i g)) (invoked_keeps xs path R f e i run bound)

  -- ---- rules that run parts

  module _ (xs : List Told) (path : List ℕ) (R : Run) (runs : (m : ℕ) → IsPart m → Keeps xs path (R m)) where
    parts_keeps : (ms : List ℕ) → are_parts p ms ≡ true → (values : List Value) (f : List Value → State → Outcome) → ((vs : List Value) → Keeps xs path (f vs)) → Keeps xs path (parts R ms values f)
    parts_keeps [] i values f h s g = h values s g
    parts_keeps (m ∷ ms) i values f h s g =
        let j = first_part m ms i in
        value_keeps xs path (R m s) _ (runs m j.0 s g) (λ a t e. parts_keeps ms j.1 (values ++ a ∷ []) f h t e)

    last_keeps : (ms : List ℕ) → last_is_part p ms ≡ true → Keeps xs path (last_part R ms)
    last_keeps [] i s g = g
    last_keeps (m ∷ []) i s g = runs m (not_true (is_root_node p m) i) s g
    last_keeps (m ∷ k ∷ ms) i s g = last_keeps (k ∷ ms) i s g

    choice_keeps : (n : ℕ) (ms : List ℕ) → are_parts p ms ≡ true → Keeps xs path (choice R n ms)
    choice_keeps n (c ∷ b ∷ []) i s g =
        let j = first_part c (b ∷ []) i in
        let k = first_part b [] j.1 in
        value_keeps xs path (R c s) _ (runs c j.0 s g) (λ a t e. truth_keeps xs path n a (R b) (ends (Gives Null)) (runs b k.0) (λ u k. k) t e)
    choice_keeps n (c ∷ b ∷ d ∷ []) i s g =
        let j = first_part c (b ∷ d ∷ []) i in
        let k = first_part b (d ∷ []) j.1 in
        let l = first_part d [] k.1 in
        value_keeps xs path (R c s) _ (runs c j.0 s g) (λ a t e. truth_keeps xs path n a (R b) (R d) (runs b k.0) (runs d l.0) t e)
    choice_keeps n _ i s g = g

    right_keeps : (n r : ℕ) → IsPart r → Keeps xs path (right_truth R n r)
    right_keeps n r i s g = value_keeps xs path (R r s) _ (runs r i s g) (λ b t e. truth_keeps xs path n b (ends (Gives (Truth true))) (ends (Gives (Truth false))) (λ u k. k) (λ u k. k) t e)

    either_keeps : (x : Bool) (n : ℕ) (ms : List ℕ) → are_parts p ms ≡ true → Keeps xs path (either_side x R n ms)
    either_keeps true n (l ∷ r ∷ []) i s g =
        let j = first_part l (r ∷ []) i in
        let k = first_part r [] j.1 in
        value_keeps xs path (R l s) _ (runs l j.0 s g) (λ a t e. truth_keeps xs path n a (ends (Gives (Truth true))) (right_truth R n r) (λ u k. k) (right_keeps n r k.0) t e)
    either_keeps false n (l ∷ r ∷ []) i s g =
        let j = first_part l (r ∷ []) i in
        let k = first_part r [] j.1 in
        value_keeps xs path (R l s) _ (runs l j.0 s g) (λ a t e. truth_keeps xs path n a (right_truth R n r) (ends (Gives (Truth false))) (right_keeps n r k.0) (λ u k. k) t e)
    either_keeps _ n _ i s g = g

    turns_keeps : (bound n test block : ℕ) → IsPart test → IsPart block → Keeps xs path (turns bound R n test block)
    turns_keeps zero n test block i j s g = reached xs path s g
    turns_keeps (suc bound) n test block i j s g =
        value_keeps xs path (R test s) _ (runs test i s g)
        (λ a t e. truth_keeps xs path n a (λ u. after_turn (R block u) (turns bound R n test block)) (ends (Gives Null))
        (λ u k. turn_keeps xs path (R block u) (turns bound R n test block) (runs block j u k) (turns_keeps bound n test block i j)) (λ u k. k) t e)

    loop_keeps : (bound n : ℕ) (ms : List ℕ) → are_parts p ms ≡ true → Keeps xs path (loop bound R n ms)
    loop_keeps bound n (test ∷ block ∷ []) i s g =
        let j = first_part test (block ∷ []) i in
        let k = first_part block [] j.1 in
        turns_keeps bound n test block j.0 k.0 s g
    loop_keeps bound n _ i s g = g

    -- an assignment: its right side, and then the change; with another number of parts it isn't one of a program
    module _ (says : (m : ℕ) (s : State) → Says m (R m s)) (n : ℕ) (y : is_assignment (node_at p n).kind ≡ true) (b : Value → Value) where
      abbrev changes : List Value → State → Outcome
      changes values = on_one n values (λ a t. ends (Gives (b a)) (assigned (node_at p n).meaning a t))

      many_keep : (ms : List ℕ) → are_parts p ms ≡ true → (a c : Value) (values : List Value) → KeepsNode n xs path (parts R ms (a ∷ c ∷ values) changes)
      many_keep [] i a c values s g = g
      many_keep (m ∷ ms) i a c values s g =
          let j = first_part m ms i in
          value_node n m xs path (R m s) _ (runs m j.0 s g) (says m s) (λ d t e k. many_keep ms j.1 a c (values ++ d ∷ []) t e)

      assignment_keeps : (ms : List ℕ) → (node_at p n).children ≡ ms → are_parts p ms ≡ true → KeepsNode n xs path (parts R ms [] changes)
      assignment_keeps [] c i s g = g
      assignment_keeps (r ∷ []) c i s g =
          let j = first_part r [] i in
          value_node n r xs path (R r s) _ (runs r j.0 s g) (says r s)
          (λ a t e k. inr (record { right = r; value = a; before = t; kind = y; children = c; fits = e; given = k; now = refl }))
      assignment_keeps (r ∷ m ∷ ms) c i s g =
          let j = first_part r (m ∷ ms) i in
          let k = first_part m ms j.1 in
          value_node n r xs path (R r s) _ (runs r j.0 s g) (says r s)
          (λ a t e l. value_node n m xs path (R m t) _ (runs m k.0 t e) (says m t) (λ d u f q. many_keep ms k.1 a d [] u f))

  -- ---- each kind of node

  module _ (rooted : AreRooted p) (xs : List Told) (path : List ℕ) (same : path ≡ path_of p xs) (some : IsSome path) (bound : ℕ) (R : Run) (runs : (m : ℕ) → IsPart m → Keeps xs path (R m))
      (calls : (root : ℕ) → is_root_node p root ≡ true → Keeps xs (path ++ root ∷ []) (R root)) (says : (m : ℕ) (s : State) → Says m (R m s)) where
    deep_keeps : (d : Bool) (n : ℕ) (f : Frame) → is_root_node p f.root ≡ true → IsFrameOf p path f → (s : State) → Fits xs path s → After xs path (elim d [ true ↦ invoked bound R f (record s { scene = standing n s.scene }) | false ↦ ends (Faults Depth n) s ])
    deep_keeps true n f r i s g = invoked_keeps xs path R f same i (calls f.root r) bound (record s { scene = standing n s.scene }) (rules.stands xs path n s g)
    deep_keeps false n f r i s g = g

    called_with_keeps : (n root : ℕ) → is_root_node p root ≡ true → (x : Result (List Value) Fault) → Keeps xs path (called_with bound R n root (node_at p root) x)
    called_with_keeps n root r (Err f) s g = g
    called_with_keeps n root r (Ok vs) s g = deep_keeps (nat_lt (length s.scene.frames) most_frames) n (frame_for root (node_at p root) vs s.scene) r (call_frame p path root vs s.scene some (rules.blocks xs path s g)) s g

    cond_keeps : (x : Bool) (o o' : Outcome) → After xs path o → After xs path o' → After xs path (cond x o o')
    cond_keeps true o o' h k = h
    cond_keeps false o o' h k = k

    written_keeps : (n : ℕ) (bytes : List ℕ) (a : Value) → Keeps xs path (written n bytes a)
    written_keeps n bytes a s g = cond_keeps (nat_le (length s.output + length bytes + 1) (2 ^ 24)) _ _ (rules.output xs path _ s g) g

    called_keeps : (n : ℕ) (root : Option ℕ) → is_rooted p root ≡ true → (arguments : List Value) → Keeps xs path (called p bound R n root arguments)
    called_keeps n None r arguments s g = written_keeps n (show (item_names p) (first_or_null arguments)) (first_or_null arguments) s g
    called_keeps n (Some root) r arguments s g = called_with_keeps n root r (first_variables (node_at p root) arguments) s g

    sl_call_keeps : (n : ℕ) (values : List Value) → Keeps xs path (sl_call p bound R n values)
    sl_call_keeps n (Func i ∷ arguments) s g = called_keeps n (item_at p i).root (rooted i) arguments s g
    sl_call_keeps n _ s g = g

    pl_call_keeps : (n : ℕ) (x : Meaning) → Keeps xs path (pl_call p bound R n x)
    pl_call_keeps n (Means i) s g = value_keeps xs path (called p bound R n (item_at p i).root [] s) _ (called_keeps n (item_at p i).root (rooted i) [] s g) (λ a t e. e)
    pl_call_keeps n _ s g = g

    named_keeps : (n : ℕ) (x : Meaning) → Keeps xs path (named n x)
    named_keeps n (Local up slot) s g = g
    named_keeps n (Means i) s g = g
    named_keeps n Nothing s g = g

    -- of a node that is no assignment
    combined_keeps : (n : ℕ) (kind : Kind) → is_assignment kind ≡ false → (values : List Value) → Keeps xs path (combined p bound R n kind values)
    combined_keeps n (SlBinary op) i values s g = two_keeps xs path n values _ (λ x y. answer_keeps xs path n (binary (item_names p) op x y)) s g
    combined_keeps n SlCall i values s g = sl_call_keeps n values s g
    combined_keeps n (SlAssign x) i values s g = absurd (cc)
    combined_keeps n (SlName x) i values s g = named_keeps n (node_at p n).meaning s g
    combined_keeps n (PlAssign x) i values s g = absurd (cc)
    combined_keeps n (PlCall x) i values s g = pl_call_keeps n (node_at p n).meaning s g
    combined_keeps n PlWrite i values s g = one_keeps xs path n values _ (λ a. written_keeps n (show (item_names p) a) Null) s g
    combined_keeps n PlOdd i values s g = one_keeps xs path n values _ (λ a. answer_keeps xs path n (odd a)) s g
    combined_keeps n (PlBinary op) i values s g = two_keeps xs path n values _ (λ x y. answer_keeps xs path n (binary (item_names p) op x y)) s g
    combined_keeps n PlPlus i values s g = one_keeps xs path n values _ (λ a. answer_keeps xs path n (plus a)) s g
    combined_keeps n PlMinus i values s g = one_keeps xs path n values _ (λ a. answer_keeps xs path n (minus a)) s g
    combined_keeps n (PlName x) i values s g = named_keeps n (node_at p n).meaning s g
    combined_keeps n _ i values s g = g

    inside_keeps : (n : ℕ) (kind : Kind) (ms : List ℕ) → (node_at p n).kind ≡ kind → (node_at p n).children ≡ ms → runs_parts p kind ms ≡ true → KeepsNode n xs path (inside p bound R n kind ms)
    inside_keeps n (SlFunction name parameters) ms k c i s g = other_node n xs path _ (ap is_assignment k) (last_keeps xs path R runs ms i s g)
    inside_keeps n (PlProcedure name variables) ms k c i s g = other_node n xs path _ (ap is_assignment k) (last_keeps xs path R runs ms i s g)
    inside_keeps n SlBody ms k c i s g = other_node n xs path _ (ap is_assignment k) (caught_keeps xs path _ (parts_keeps xs path R runs ms i [] _ (combined_keeps n SlBody refl) s g))
    inside_keeps n SlIf ms k c i s g = other_node n xs path _ (ap is_assignment k) (choice_keeps xs path R runs n ms i s g)
    inside_keeps n PlIf ms k c i s g = other_node n xs path _ (ap is_assignment k) (choice_keeps xs path R runs n ms i s g)
    inside_keeps n SlWhile ms k c i s g = other_node n xs path _ (ap is_assignment k) (loop_keeps xs path R runs bound n ms i s g)
    inside_keeps n PlWhile ms k c i s g = other_node n xs path _ (ap is_assignment k) (loop_keeps xs path R runs bound n ms i s g)
    inside_keeps n SlOr ms k c i s g = other_node n xs path _ (ap is_assignment k) (either_keeps xs path R runs true n ms i s g)
    inside_keeps n SlAnd ms k c i s g = other_node n xs path _ (ap is_assignment k) (either_keeps xs path R runs false n ms i s g)
    inside_keeps n (SlAssign x) ms k c i s g = assignment_keeps xs path R runs says n (ap is_assignment k) (λ a. a) ms c i s g
    inside_keeps n (PlAssign x) ms k c i s g = assignment_keeps xs path R runs says n (ap is_assignment k) (λ a. Null) ms c i s g
    inside_keeps n kind ms k c i s g = other_node n xs path _ (ap is_assignment k) (parts_keeps xs path R runs ms i [] _ (combined_keeps n kind refl) s g)

  -- ---- what a node that gave a value told

  heed_says : (n : ℕ) (w : Verdict) (a : Value) (s : State) → HasGiven p n a s.events → Says n (heed w (λ t. ends (Gives a) t) s)
  heed_says n Go a s h = h
  heed_says n (Reenter k) a s h = tt
  heed_says n (Return k b) a s h = tt
  heed_says n Kill a s h = tt

  exit_says : (v : Verdicts) (n opened : ℕ) (o : Outcome) → Says n (exit p v n opened o)
  exit_says v n opened (ends (Gives a) s) =
      heed_says n (verdict_on p v n Call (length s.events)) a (tell n opened (Gave a) s)
      (inr (record { before = s.events; last = record { event = record { number = length s.events; kind = Gave a; node = n; opened = opened; depth = length s.scene.frames }; scene = standing n s.scene }; events = refl; node = refl; gave = refl }))
  exit_says v n opened (ends (Returns a) s) = tt
  exit_says v n opened (ends Breaks s) = tt
  exit_says v n opened (ends Continues s) = tt
  exit_says v n opened (ends (Faults f m) s) = tt
  exit_says v n opened (ends (Unwinds k a) s) = tt
  exit_says v n opened (ends (Stops x) s) = tt

  quiet_says : (n : ℕ) → (node_at p n).tags ≡ [] → (o : Outcome) → Says n o
  quiet_says n e (ends (Gives a) s) = inl e
  quiet_says n e (ends _ s) = tt

  activation_says : (v : Verdicts) (n : ℕ) (tags : List Tag) (f : State → Outcome) → (node_at p n).tags ≡ tags → (s : State) → Says n (activation p v n tags f s)
  activation_says v n [] f e s = quiet_says n e (f s)
  activation_says v n (t ∷ ts) f e s = exit_says v n (length s.events) _

  fuel_says : (n x : ℕ) (go : State → Outcome) → ((s : State) → Says n (go s)) → (s : State) → Says n (with_fuel x go s)
  fuel_says n zero go h s = tt
  fuel_says n (suc less) go h s = h (record s { left = less })

  evaluated_says : (v : Verdicts) (bound n : ℕ) (s : State) → Says n (evaluated p v bound n s)
  unfolding evaluated
  evaluated_says v zero n s = tt
  evaluated_says v (suc bound) n s = fuel_says n s.left _ (activation_says v n (node_at p n).tags _ refl) s

  -- ---- whole runs

  fuel_keeps : (xs : List Told) (path : List ℕ) (x : ℕ) (go : State → Outcome) → Keeps xs path go → Keeps xs path (with_fuel x go)
  fuel_keeps xs path zero go h s g = reached xs path s g
  fuel_keeps xs path (suc less) go h s g = h (record s { left = less }) (rules.fuel xs path less s g)

  module _ (rooted : AreRooted p) (runs_are_parts : RunsParts p) (v : Verdicts) where
    mutual
      unfolding evaluated

      part_keeps : (bound : ℕ) (xs : List Told) (n : ℕ) → IsPart n → IsSome (path_of p xs) → Keeps xs (path_of p xs) (evaluated p v bound n)
      part_keeps zero xs n i some s g = reached xs (path_of p xs) s g
      part_keeps (suc bound) xs n i some s g =
          fuel_keeps xs (path_of p xs) s.left _
          (activation_keeps xs (path_of p xs) v n (node_at p n).tags _ refl some (λ t e. sym (path_other p xs t (ap (is_root_node p) e ∙ i))) (λ e. refl)
          (λ ys some. inside_keeps rooted ys (path_of p ys) refl some bound (evaluated p v bound) (λ m i. part_keeps bound ys m i some) (call_keeps bound ys) (evaluated_says v bound) n (node_at p n).kind (node_at p n).children refl refl (runs_are_parts n))) s g

      call_keeps : (bound : ℕ) (xs : List Told) (root : ℕ) → is_root_node p root ≡ true → Keeps xs (path_of p xs ++ root ∷ []) (evaluated p v bound root)
      call_keeps zero xs root r s g = reached xs (path_of p xs ++ root ∷ []) s g
      call_keeps (suc bound) xs root r s g =
          fuel_keeps xs (path_of p xs ++ root ∷ []) s.left _
          (activation_keeps xs (path_of p xs ++ root ∷ []) v root (node_at p root).tags _ refl (push_some (path_of p xs) root)
          (λ t e. ap (λ m. path_of p xs ++ m ∷ []) (sym e) ∙ sym (path_root p xs t (ap (is_root_node p) e ∙ r)))
          (λ e. absurd (cc (ap (λ ts. has_tag ts Root) (sym e) ∙ r)))
          (λ ys some. inside_keeps rooted ys (path_of p ys) refl some bound (evaluated p v bound) (λ m i. part_keeps bound ys m i some) (call_keeps bound ys) (evaluated_says v bound) root (node_at p root).kind (node_at p root).children refl refl (runs_are_parts root))) s g

    root_of_either : (b : Bool) (f g : Frame) (root : ℕ) → f.root ≡ root → g.root ≡ root → (cond b f g).root ≡ root
    root_of_either true f g root h k = h
    root_of_either false f g root h k = k

    blocks_of_either : (b : Bool) (f g : Frame) → (cond b f g).blocks ≡ cond b f.blocks g.blocks
    blocks_of_either true f g = refl
    blocks_of_either false f g = refl

    root_keeps : (fuel : ℕ) (root : Option ℕ) → is_rooted p root ≡ true → Fits [] [] (opening p fuel) → After [] [] (from_root p v fuel root)
    root_keeps fuel None r g = g
    root_keeps fuel (Some root) r g =
        let f : Frame = entry_frame root (node_at p root) (opening p fuel) in
        let same : f.root ≡ root = root_of_either (is_main_block (node_at p root).kind (node_at p root).level) _ _ root refl refl in
        let here : f.blocks ≡ blocks_for (node_at p root) [] = blocks_of_either (is_main_block (node_at p root).kind (node_at p root).level) _ _ in
        let framed : IsFrameOf p [] f = here ∙ ap (λ n. blocks_for (node_at p n) []) (sym same) in
        invoked_keeps [] [] (evaluated p v fuel) f refl framed (call_keeps fuel [] f.root (ap (is_root_node p) same ∙ r)) fuel (opening p fuel) g

    ran_keeps : (fuel : ℕ) (o : Outcome) → After [] [] o → IsReached Fits (ran fuel o).events
    ran_keeps fuel (ends (Gives a) s) g = reached [] [] s g
    ran_keeps fuel (ends (Returns a) s) g = reached [] [] s g
    ran_keeps fuel (ends Breaks s) g = reached [] [] s g
    ran_keeps fuel (ends Continues s) g = reached [] [] s g
    ran_keeps fuel (ends (Faults f n) s) g = reached [] [] s g
    ran_keeps fuel (ends (Unwinds k a) s) g = reached [] [] s g
    ran_keeps fuel (ends (Stops x) s) g = g

    pub meaning_keeps : (fuel entry : ℕ) → Fits [] [] (opening p fuel) → IsReached Fits (meaning_of p entry fuel v).events
    unfolding meaning_of
    meaning_keeps fuel entry g = ran_keeps fuel (from_root p v fuel (item_at p entry).root) (root_keeps fuel (item_at p entry).root (rooted entry) g)
