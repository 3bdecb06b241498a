-- A bound above the fuel that is left changes nothing of a run.
-- For each rule there is one lemma: from parts that agree it makes outcomes that agree.
use Rattle.pd_machine.specs.declared.run.Frame.{Frame}
use Rattle.pd_machine.specs.declared.run.Cutoff.TheVariants.{SpentFuel}
use Rattle.pd_machine.specs.declared.run.NodeResult.{NodeResult}
use Rattle.pd_machine.specs.declared.run.NodeResult.TheVariants.{Gives, Returns, Breaks, Continues, Faults, Unwinds, Stops}
use Rattle.std.proofs.Common.{◌≡◌, ℕ, zero, suc, ◌+◌, ◌-◌, ◌≤◌, Bool, true, false, cond, List, [], ◌∷◌, ◌++◌, length, take, Option, Some, None, Result, Ok, Err, refl, sym, ap, ◌∙◌, subst, arith, length-append}
use Rattle.std.specs.Prelude.{nat_le, ◌==◌, ◌^◌}
use Rattle.pd_values.specs.declared.value.Value.{Value}
use Rattle.pd_values.specs.declared.value.Value.TheVariants.{Bool as Truth, Null, Func}
use Rattle.pd_values.specs.declared.value.Fault.{Fault}
use Rattle.pd_values.specs.declared.value.Fault.TheVariants.{Depth}
use Rattle.pd_values.specs.declared.value.Tag.{Tag}
use Rattle.pd_tree.specs.declared.kind.Kind.{Kind}
use Rattle.pd_tree.specs.declared.kind.Kind.TheVariants.{SlFunction, SlBody, SlIf, SlWhile, SlOr, SlAnd, SlBinary, SlCall, SlAssign, SlName, PlProcedure, PlIf, PlWhile, PlAssign, PlCall, PlWrite, PlOdd, PlBinary, PlPlus, PlMinus, PlName}
use Rattle.pd_tree.specs.declared.kind.Meaning.{Meaning}
use Rattle.pd_tree.specs.declared.kind.Meaning.TheVariants.{Local, Item as Means, Nothing}
use Rattle.pd_machine.specs.declared.event.Verdict.{Verdict}
use Rattle.pd_machine.specs.declared.event.Verdict.TheVariants.{Go}
use Rattle.pd_values.specs.Operators.{ValueOrFault, show, plus, minus, odd}
use Rattle.pd_tree.specs.Binary.{binary}
use Rattle.pd_tree.specs.Program.{Program, Node, node_at, item_names}
use Rattle.pd_machine.specs.Events.{State, push_frame, standing}
use Rattle.pd_meaning.specs.Meaning.{Verdicts, Outcome, ends, Run, with_value, answered, with_fuel, heed, exit, activation, parts, on_one, on_two, on_truth, last_part, caught, choice, after_turn, turns, loop, either_side, named, assigned, written, popped, returned, invoked, first_variables, called_with, called, sl_call, pl_call, combined, inside, evaluated}

abbrev pub left_of : Outcome → ℕ
left_of (ends r s) = s.left

-- two outcomes are the same, and leave at most so much fuel
pub record Agree (l : ℕ) (o o' : Outcome) : Type 0 where
  pub same : o ≡ o'
  pub kept : left_of o ≤ l

pub weaker : (l m : ℕ) (o o' : Outcome) → l ≤ m → Agree l o o' → Agree m o o'
weaker l m o o' le h = record { same = h.same; kept = omega (arith, h.kept) }

-- two ways to run parts that agree up to so much fuel: each entry takes some, and none begins without
pub record SameRuns (l : ℕ) (R R' : Run) : Type 0 where
  pub agree : (m : ℕ) (u : State) → u.left ≤ l → Agree (u.left - 1) (R m u) (R' m u)
  pub starved : (m : ℕ) (u : State) → u.left ≡ 0 → R m u ≡ ends (Stops SpentFuel) u
  pub starved' : (m : ℕ) (u : State) → u.left ≡ 0 → R' m u ≡ ends (Stops SpentFuel) u

-- what follows an outcome agrees with the same after an equal one
abbrev pub Follows : ℕ → (State → Outcome) → (State → Outcome) → Type 0
Follows l go go' = (u : State) → u.left ≤ l → Agree l (go u) (go' u)

abbrev pub FollowsValue : ℕ → (Value → State → Outcome) → (Value → State → Outcome) → Type 0
FollowsValue l go go' = (a : Value) → Follows l (go a) (go' a)

pub ends_agrees : (l : ℕ) (r : NodeResult) (s : State) → s.left ≤ l → Agree l (ends r s) (ends r s)
ends_agrees l r s le = record { same = refl; kept = le }

pub value_same : (l : ℕ) (o : Outcome) (go go' : Value → State → Outcome) → left_of o ≤ l → FollowsValue l go go' → Agree l (with_value o go) (with_value o go')
value_same l (ends (Gives a) s) go go' le h = h a s le
value_same l (ends _ s) go go' le h = record { same = refl; kept = le }

pub value_agrees : (l : ℕ) (o o' : Outcome) (go go' : Value → State → Outcome) → Agree l o o' → FollowsValue l go go' → Agree l (with_value o go) (with_value o' go')
value_agrees l o o' go go' e h = subst (λ x. Agree l (with_value o go) (with_value x go')) e.same (value_same l o go go' e.kept h)

pub truth_agrees : (l n : ℕ) (a : Value) (f f' g g' : State → Outcome) → Follows l f f' → Follows l g g' → Follows l (on_truth n a f g) (on_truth n a f' g')
truth_agrees l n (Truth true) f f' g g' h k s le = h s le
truth_agrees l n (Truth false) f f' g g' h k s le = k s le
truth_agrees l n _ f f' g g' h k s le = record { same = refl; kept = le }

pub one_agrees : (l n : ℕ) (values : List Value) (f f' : Value → State → Outcome) → FollowsValue l f f' → Follows l (on_one n values f) (on_one n values f')
one_agrees l n (a ∷ []) f f' h s le = h a s le
one_agrees l n _ f f' h s le = record { same = refl; kept = le }

pub two_agrees : (l n : ℕ) (values : List Value) (f f' : Value → Value → State → Outcome) → ((a : Value) → FollowsValue l (f a) (f' a)) → Follows l (on_two n values f) (on_two n values f')
two_agrees l n (a ∷ b ∷ []) f f' h s le = h a b s le
two_agrees l n _ f f' h s le = record { same = refl; kept = le }

pub answer_agrees : (l n : ℕ) (x : ValueOrFault) → Follows l (answered n x) (answered n x)
answer_agrees l n (Ok a) s le = record { same = refl; kept = le }
answer_agrees l n (Err f) s le = record { same = refl; kept = le }

pub heed_agrees : (l : ℕ) (w : Verdict) (f f' : State → Outcome) → Follows l f f' → Follows l (heed w f) (heed w f')
heed_agrees l Go f f' h s le = h s le
heed_agrees l _ f f' h s le = record { same = refl; kept = le }

pub exit_same : (l : ℕ) (p : Program) (v : Verdicts) (n e : ℕ) (o : Outcome) → left_of o ≤ l → Agree l (exit p v n e o) (exit p v n e o)
exit_same l p v n e (ends (Gives a) s) le = heed_agrees l _ _ _ (λ u k. ends_agrees l (Gives a) u k) _ le
exit_same l p v n e (ends _ s) le = record { same = refl; kept = le }

pub exit_agrees : (l : ℕ) (p : Program) (v : Verdicts) (n e : ℕ) (o o' : Outcome) → Agree l o o' → Agree l (exit p v n e o) (exit p v n e o')
exit_agrees l p v n e o o' h = subst (λ x. Agree l (exit p v n e o) (exit p v n e x)) h.same (exit_same l p v n e o h.kept)

pub activation_agrees : (l : ℕ) (p : Program) (v : Verdicts) (n : ℕ) (tags : List Tag) (f f' : State → Outcome) → Follows l f f' → Follows l (activation p v n tags f) (activation p v n tags f')
activation_agrees l p v n [] f f' h s le = h s le
activation_agrees l p v n (t ∷ ts) f f' h s le = exit_agrees l p v n (length s.events) _ _ (heed_agrees l _ f f' h _ le)

pub caught_same : (l : ℕ) (o : Outcome) → left_of o ≤ l → Agree l (caught o) (caught o)
caught_same l (ends (Returns a) s) le = record { same = refl; kept = le }
caught_same l (ends _ s) le = record { same = refl; kept = le }

pub caught_agrees : (l : ℕ) (o o' : Outcome) → Agree l o o' → Agree l (caught o) (caught o')
caught_agrees l o o' h = subst (λ x. Agree l (caught o) (caught x)) h.same (caught_same l o h.kept)

pub turn_same : (l : ℕ) (o : Outcome) (f f' : State → Outcome) → left_of o ≤ l → Follows l f f' → Agree l (after_turn o f) (after_turn o f')
turn_same l (ends (Gives a) s) f f' le h = h s le
turn_same l (ends Continues s) f f' le h = h s le
turn_same l (ends Breaks s) f f' le h = record { same = refl; kept = le }
turn_same l (ends _ s) f f' le h = record { same = refl; kept = le }

pub turn_agrees : (l : ℕ) (o o' : Outcome) (f f' : State → Outcome) → Agree l o o' → Follows l f f' → Agree l (after_turn o f) (after_turn o' f')
turn_agrees l o o' f f' e h = subst (λ x. Agree l (after_turn o f) (after_turn x f')) e.same (turn_same l o f f' e.kept h)

pub again_same : (l : ℕ) (b : Bool) (m : ℕ) (s : State) (f f' : State → Outcome) → s.left ≤ l → Follows l f f' → Agree l (elim b [ true ↦ f (popped s) | false ↦ ends (Unwinds m None) (popped s) ]) (elim b [ true ↦ f' (popped s) | false ↦ ends (Unwinds m None) (popped s) ])
again_same l true m s f f' le h = h (popped s) le
again_same l false m s f f' le h = record { same = refl; kept = le }

pub returned_same : (l k : ℕ) (o : Outcome) (f f' : State → Outcome) → left_of o ≤ l → Follows l f f' → Agree l (returned k o f) (returned k o f')
returned_same l k (ends (Unwinds m None) s) f f' le h = again_same l (m == k) m s f f' le h
returned_same l k (ends (Unwinds m (Some a)) s) f f' le h = record { same = refl; kept = le }
returned_same l k (ends _ s) f f' le h = record { same = refl; kept = le }

pub returned_agrees : (l k : ℕ) (o o' : Outcome) (f f' : State → Outcome) → Agree l o o' → Follows l f f' → Agree l (returned k o f) (returned k o' f')
returned_agrees l k o o' f f' e h = subst (λ x. Agree l (returned k o f) (returned k x f')) e.same (returned_same l k o f f' e.kept h)

-- a frame that was added is removed
pub take_all : (fs : List Frame) (f : Frame) → take (length (fs ++ f ∷ []) - 1) (fs ++ f ∷ []) ≡ fs
take_all fs f = ap (λ n. take n (fs ++ f ∷ [])) (omega (arith, length-append fs (f ∷ []))) ∙ front fs
  where
    front : (xs : List Frame) → take (length xs) (xs ++ f ∷ []) ≡ xs
    front [] = refl
    front (x ∷ xs) = ap (λ r. x ∷ r) (front xs)

pub pop-push : (s : State) (f : Frame) → popped (record s { scene = push_frame f s.scene }) ≡ s
pop-push s f = ap (λ fs. record s { scene = record s.scene { frames = fs } }) (take_all s.scene.frames f)

-- ---- rules that run parts

module _ (l : ℕ) (R R' : Run) (runs : SameRuns l R R') where
  -- a part that is run
  pub part_agrees : (m : ℕ) → Follows l (R m) (R' m)
  part_agrees m s le = weaker (s.left - 1) l (R m s) (R' m s) (omega arith) (runs.agree m s le)

  pub parts_agrees : (ms : List ℕ) (values : List Value) (f f' : List Value → State → Outcome) → ((vs : List Value) → Follows l (f vs) (f' vs)) → Follows l (parts R ms values f) (parts R' ms values f')
  parts_agrees [] values f f' h s le = h values s le
  parts_agrees (m ∷ ms) values f f' h s le =
      value_agrees l (R m s) (R' m s) _ _ (part_agrees m s le) (λ a t k. parts_agrees ms (values ++ a ∷ []) f f' h t k)

  pub last_agrees : (ms : List ℕ) → Follows l (last_part R ms) (last_part R' ms)
  last_agrees [] s le = record { same = refl; kept = le }
  last_agrees (m ∷ []) s le = part_agrees m s le
  last_agrees (m ∷ k ∷ ms) s le = last_agrees (k ∷ ms) s le

  pub choice_agrees : (n : ℕ) (ms : List ℕ) → Follows l (choice R n ms) (choice R' n ms)
  choice_agrees n (c ∷ b ∷ []) s le = value_agrees l (R c s) (R' c s) _ _ (part_agrees c s le) (λ a t k. truth_agrees l n a _ _ _ _ (part_agrees b) (ends_agrees l (Gives Null)) t k)
  choice_agrees n (c ∷ b ∷ d ∷ []) s le = value_agrees l (R c s) (R' c s) _ _ (part_agrees c s le) (λ a t k. truth_agrees l n a _ _ _ _ (part_agrees b) (part_agrees d) t k)
  choice_agrees n _ s le = record { same = refl; kept = le }

  pub right_agrees : (n r : ℕ) → Follows l (λ u. with_value (R r u) (λ b w. on_truth n b (ends (Gives (Truth true))) (ends (Gives (Truth false))) w)) (λ u. with_value (R' r u) (λ b w. on_truth n b (ends (Gives (Truth true))) (ends (Gives (Truth false))) w))
  right_agrees n r u le = value_agrees l (R r u) (R' r u) _ _ (part_agrees r u le) (λ b w k. truth_agrees l n b _ _ _ _ (ends_agrees l (Gives (Truth true))) (ends_agrees l (Gives (Truth false))) w k)

  pub either_agrees : (x : Bool) (n : ℕ) (ms : List ℕ) → Follows l (either_side x R n ms) (either_side x R' n ms)
  either_agrees true n (c ∷ r ∷ []) s le = value_agrees l (R c s) (R' c s) _ _ (part_agrees c s le) (λ a t k. truth_agrees l n a _ _ _ _ (ends_agrees l (Gives (Truth true))) (right_agrees n r) t k)
  either_agrees false n (c ∷ r ∷ []) s le = value_agrees l (R c s) (R' c s) _ _ (part_agrees c s le) (λ a t k. truth_agrees l n a _ _ _ _ (right_agrees n r) (ends_agrees l (Gives (Truth false))) t k)
  either_agrees _ n _ s le = record { same = refl; kept = le }

-- ---- loops and calls, whose own bounds differ

pub same_runs_below : (l m : ℕ) (R R' : Run) → m ≤ l → SameRuns l R R' → SameRuns m R R'
same_runs_below l m R R' le runs = record { agree = λ k u h. runs.agree k u (omega arith); starved = runs.starved; starved' = runs.starved' }

pub turns_agrees : (l : ℕ) (R R' : Run) → SameRuns l R R' → (b c : ℕ) (n test block : ℕ) (s : State) → s.left ≤ l → s.left ≤ b → s.left ≤ c → Agree l (turns b R n test block s) (turns c R' n test block s)
turns_agrees l R R' runs zero zero n test block s le lb lc = record { same = refl; kept = le }
turns_agrees l R R' runs zero (suc c) n test block s le lb lc =
    record { same = ap (λ o. with_value o (λ a t. on_truth n a (λ u. after_turn (R' block u) (λ w. turns c R' n test block w)) (ends (Gives Null)) t)) (sym (runs.starved' test s (omega arith))); kept = le }
turns_agrees l R R' runs (suc b) zero n test block s le lb lc =
    let e = ap (λ o. with_value o (λ a t. on_truth n a (λ u. after_turn (R block u) (λ w. turns b R n test block w)) (ends (Gives Null)) t)) (runs.starved test s (omega arith)) in
    record { same = e; kept = subst (λ o. left_of o ≤ l) (sym e) le }
turns_agrees l R R' runs (suc b) (suc c) n test block s le lb lc =
    let m = s.left - 1 in
    let below : SameRuns m R R' = same_runs_below l m R R' (omega arith) runs in
    let again : Follows m (λ w. turns b R n test block w) (λ w. turns c R' n test block w) = λ w k. turns_agrees m R R' below b c n test block w k (omega arith) (omega arith) in
    weaker m l _ _ (omega arith)
    (value_agrees m (R test s) (R' test s) _ _ (runs.agree test s le)
    (λ a t k. truth_agrees m n a _ _ _ _ (λ u h. turn_agrees m (R block u) (R' block u) _ _ (part_agrees m R R' below block u h) again) (ends_agrees m (Gives Null)) t k))

pub invoked_agrees : (l : ℕ) (R R' : Run) → SameRuns l R R' → (b c : ℕ) (f : Frame) (s : State) → s.left ≤ l → s.left ≤ b → s.left ≤ c → Agree l (invoked b R f s) (invoked c R' f s)
invoked_agrees l R R' runs zero zero f s le lb lc = record { same = refl; kept = le }
invoked_agrees l R R' runs zero (suc c) f s le lb lc =
    let t = record s { scene = push_frame f s.scene } in
    record { same = sym (ap (λ o. returned (length s.scene.frames) o (λ t. invoked c R' f t)) (runs.starved' f.root t (omega arith)) ∙ ap (ends (Stops SpentFuel)) (pop-push s f)); kept = le }
invoked_agrees l R R' runs (suc b) zero f s le lb lc =
    let t = record s { scene = push_frame f s.scene } in
    let e = ap (λ o. returned (length s.scene.frames) o (λ t. invoked b R f t)) (runs.starved f.root t (omega arith)) ∙ ap (ends (Stops SpentFuel)) (pop-push s f) in
    record { same = e; kept = subst (λ o. left_of o ≤ l) (sym e) le }
invoked_agrees l R R' runs (suc b) (suc c) f s le lb lc =
    let m = s.left - 1 in
    let t = record s { scene = push_frame f s.scene } in
    let below : SameRuns m R R' = same_runs_below l m R R' (omega arith) runs in
    weaker m l _ _ (omega arith)
    (returned_agrees m (length s.scene.frames) (R f.root t) (R' f.root t) _ _ (runs.agree f.root t le)
    (λ w k. invoked_agrees m R R' below b c f w k (omega arith) (omega arith)))

-- ---- each kind of node

module _ (p : Program) (l b c : ℕ) (lb : l ≤ b) (lc : l ≤ c) (R R' : Run) (runs : SameRuns l R R') where
  pub deep_agrees : (d : Bool) (n : ℕ) (f : Frame) (s : State) → s.left ≤ l → Agree l (elim d [ true ↦ invoked b R f (record s { scene = standing n s.scene }) | false ↦ ends (Faults Depth n) s ]) (elim d [ true ↦ invoked c R' f (record s { scene = standing n s.scene }) | false ↦ ends (Faults Depth n) s ])
  deep_agrees true n f s le = invoked_agrees l R R' runs b c f (record s { scene = standing n s.scene }) le (omega arith) (omega arith)
  deep_agrees false n f s le = record { same = refl; kept = le }

  pub called_with_agrees : (n root : ℕ) (node : Node) (x : Result (List Value) Fault) → Follows l (called_with b R n root node x) (called_with c R' n root node x)
  called_with_agrees n root node (Err f) s le = record { same = refl; kept = le }
  called_with_agrees n root node (Ok vs) s le = deep_agrees _ n _ s le

  pub cond_agrees : (x : Bool) (o o' : Outcome) → left_of o ≤ l → left_of o' ≤ l → Agree l (cond x o o') (cond x o o')
  cond_agrees true o o' h k = record { same = refl; kept = h }
  cond_agrees false o o' h k = record { same = refl; kept = k }

  pub written_agrees : (n : ℕ) (bytes : List ℕ) (a : Value) → Follows l (written n bytes a) (written n bytes a)
  written_agrees n bytes a s le = cond_agrees (nat_le (length s.output + length bytes + 1) (2 ^ 24)) _ _ le le

  pub called_agrees : (n : ℕ) (root : Option ℕ) (arguments : List Value) → Follows l (called p b R n root arguments) (called p c R' n root arguments)
  called_agrees n None arguments s le = written_agrees n _ _ s le
  called_agrees n (Some root) arguments s le = called_with_agrees n root (node_at p root) (first_variables (node_at p root) arguments) s le

  pub sl_call_agrees : (n : ℕ) (values : List Value) → Follows l (sl_call p b R n values) (sl_call p c R' n values)
  sl_call_agrees n (Func i ∷ arguments) s le = called_agrees n _ arguments s le
  sl_call_agrees n _ s le = record { same = refl; kept = le }

  pub pl_call_agrees : (n : ℕ) (x : Meaning) → Follows l (pl_call p b R n x) (pl_call p c R' n x)
  pl_call_agrees n (Means i) s le = value_agrees l _ _ _ _ (called_agrees n _ [] s le) (λ a t k. ends_agrees l (Gives Null) t k)
  pl_call_agrees n _ s le = record { same = refl; kept = le }

  pub named_agrees : (n : ℕ) (x : Meaning) → Follows l (named n x) (named n x)
  named_agrees n (Local up slot) s le = record { same = refl; kept = le }
  named_agrees n (Means i) s le = record { same = refl; kept = le }
  named_agrees n Nothing s le = record { same = refl; kept = le }

  left-assigned : (x : Meaning) (a : Value) (s : State) → (assigned x a s).left ≡ s.left
  left-assigned (Local up slot) a s = refl
  left-assigned (Means i) a s = refl
  left-assigned Nothing a s = refl

  pub assigned_agrees : (r : NodeResult) (x : Meaning) (a : Value) → Follows l (λ t. ends r (assigned x a t)) (λ t. ends r (assigned x a t))
  assigned_agrees r x a t le = record { same = refl; kept = omega (arith, left-assigned x a t) }

  pub combined_agrees : (n : ℕ) (kind : Kind) (values : List Value) → Follows l (combined p b R n kind values) (combined p c R' n kind values)
  combined_agrees n (SlBinary op) values s le = two_agrees l n values _ _ (λ x y. answer_agrees l n (binary (item_names p) op x y)) s le
  combined_agrees n SlCall values s le = sl_call_agrees n values s le
  combined_agrees n (SlAssign x) values s le = one_agrees l n values _ _ (λ a. assigned_agrees (Gives a) (node_at p n).meaning a) s le
  combined_agrees n (SlName x) values s le = named_agrees n (node_at p n).meaning s le
  combined_agrees n (PlAssign x) values s le = one_agrees l n values _ _ (λ a. assigned_agrees (Gives Null) (node_at p n).meaning a) s le
  combined_agrees n (PlCall x) values s le = pl_call_agrees n (node_at p n).meaning s le
  combined_agrees n PlWrite values s le = one_agrees l n values _ _ (λ a. written_agrees n (show (item_names p) a) Null) s le
  combined_agrees n PlOdd values s le = one_agrees l n values _ _ (λ a. answer_agrees l n (odd a)) s le
  combined_agrees n (PlBinary op) values s le = two_agrees l n values _ _ (λ x y. answer_agrees l n (binary (item_names p) op x y)) s le
  combined_agrees n PlPlus values s le = one_agrees l n values _ _ (λ a. answer_agrees l n (plus a)) s le
  combined_agrees n PlMinus values s le = one_agrees l n values _ _ (λ a. answer_agrees l n (minus a)) s le
  combined_agrees n (PlName x) values s le = named_agrees n (node_at p n).meaning s le
  combined_agrees n _ values s le = record { same = refl; kept = le }

  pub loop_agrees : (n : ℕ) (ms : List ℕ) → Follows l (loop b R n ms) (loop c R' n ms)
  loop_agrees n (test ∷ block ∷ []) s le = turns_agrees l R R' runs b c n test block s le (omega arith) (omega arith)
  loop_agrees n _ s le = record { same = refl; kept = le }

  pub inside_agrees : (n : ℕ) (kind : Kind) (ms : List ℕ) → Follows l (inside p b R n kind ms) (inside p c R' n kind ms)
  inside_agrees n (SlFunction name parameters) ms s le = last_agrees l R R' runs ms s le
  inside_agrees n (PlProcedure name variables) ms s le = last_agrees l R R' runs ms s le
  inside_agrees n SlBody ms s le = caught_agrees l _ _ (parts_agrees l R R' runs ms [] _ _ (combined_agrees n SlBody) s le)
  inside_agrees n SlIf ms s le = choice_agrees l R R' runs n ms s le
  inside_agrees n PlIf ms s le = choice_agrees l R R' runs n ms s le
  inside_agrees n SlWhile ms s le = loop_agrees n ms s le
  inside_agrees n PlWhile ms s le = loop_agrees n ms s le
  inside_agrees n SlOr ms s le = either_agrees l R R' runs true n ms s le
  inside_agrees n SlAnd ms s le = either_agrees l R R' runs false n ms s le
  inside_agrees n kind ms s le = parts_agrees l R R' runs ms [] _ _ (combined_agrees n kind) s le

-- ---- all bounds that are at least the fuel give one meaning

module _ (p : Program) (v : Verdicts) where
  pub starved_fuel : (x : ℕ) (go : State → Outcome) (s : State) → x ≡ 0 → with_fuel x go s ≡ ends (Stops SpentFuel) s
  starved_fuel zero go s e = refl
  starved_fuel (suc x) go s e = absurd (omega arith)

  pub starved : (b n : ℕ) (s : State) → s.left ≡ 0 → evaluated p v b n s ≡ ends (Stops SpentFuel) s
  unfolding evaluated
  starved zero n s e = refl
  starved (suc b) n s e = starved_fuel s.left _ s e

  pub fuel_agrees : (x l : ℕ) (s : State) (f f' : State → Outcome) → s.left ≡ x → x ≤ suc l → ((y : ℕ) → x ≡ suc y → Follows y f f') → Agree (x - 1) (with_fuel x f s) (with_fuel x f' s)
  fuel_agrees zero l s f f' e le h = record { same = refl; kept = omega arith }
  fuel_agrees (suc y) l s f f' e le h =
      let t = record s { left = y } in
      weaker y (suc y - 1) (f t) (f' t) (omega arith) (h y refl t (omega arith))

  pub evaluated_agrees : (b c n : ℕ) (s : State) → s.left ≤ b → s.left ≤ c → Agree (s.left - 1) (evaluated p v b n s) (evaluated p v c n s)
  unfolding evaluated
  evaluated_agrees zero zero n s lb lc = record { same = refl; kept = omega arith }
  evaluated_agrees zero (suc c) n s lb lc = record { same = sym (starved (suc c) n s (omega arith)); kept = omega arith }
  evaluated_agrees (suc b) zero n s lb lc =
      let e = starved (suc b) n s (omega arith) in
      record { same = e; kept = subst (λ o. left_of o ≤ s.left - 1) (sym e) (omega arith) }
  evaluated_agrees (suc b) (suc c) n s lb lc =
      fuel_agrees s.left b s _ _ refl lb (λ y e. activation_agrees y p v n (node_at p n).tags _ _
      (inside_agrees p y b c (omega arith) (omega arith) (evaluated p v b) (evaluated p v c)
      (record { agree = λ m u k. evaluated_agrees b c m u (omega arith) (omega arith); starved = starved b; starved' = starved c })
      n (node_at p n).kind (node_at p n).children))
