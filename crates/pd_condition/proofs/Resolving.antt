-- Conditions with resolved names.
use Rattle.std.proofs.Common.{◌≡◌, ℕ, List, [], ◌∷◌, Bool, true, false, bytes_eq, Option, None, Some, Result, Ok, Err, refl, sym, ap, ◌∙◌}
use Rattle.std.specs.Prelude.{IfOk}
use Rattle.pd_tree.specs.declared.kind.Visible.{Visible}
use Rattle.pd_tree.specs.Program.{Program, node_at}
use Rattle.pd_machine.specs.declared.run.Frame.{Frame}
use Rattle.pd_machine.specs.Events.{Scene, at_of, frame_of}
use Rattle.pd_meaning.specs.Seen.{seen_from}
use Rattle.pd_plan.specs.declared.condition.Op.{Op}
use Rattle.pd_plan.specs.declared.condition.Condition as conditions
use Rattle.pd_plan.specs.declared.condition.Condition.{Condition}
use Rattle.pd_plan.proofs.Conditions.{binary-is}
use Rattle.pd_condition.specs.declared.resolved.Resolved as resolved
use Rattle.pd_condition.specs.declared.resolved.Resolved.{Resolved, end_of-Resolved, more_of-Resolved}
use Rattle.pd_condition.specs.Truths.{joined, variable, value_of, verity}
use Rattle.pd_condition.specs.Seeing.{values_of}
use Rattle.pd_condition.specs.Resolving.{value_at, IsResolved, IsResolvedAt}
use Rattle.pd_condition.specs.Operands.{place_in}

-- each side stands in a row of one
resolved-is : (op : Op) (l r : Resolved) → resolved.Binary op l r ≡ resolved.Binary' op tt (more_of-Resolved l end_of-Resolved) tt (more_of-Resolved r end_of-Resolved)
unfolding Rattle.pd_condition.specs.declared.resolved.Resolved.TheBlock.shape-the_row-Resolved-0 Rattle.pd_condition.specs.declared.resolved.Resolved.TheBlock.hidden-the_row-Resolved-0 denote.Hole.Carrier.hidden
resolved-is op l r = refl

-- the value of a condition with two sides, and of a resolved one
pub value_of_binary : (vs : _) (op : Op) (l r : Condition) → value_of vs (conditions.Binary op l r) ≡ joined op (value_of vs l) (value_of vs r)
value_of_binary vs op l r = ap (value_of vs) (binary-is op l r)

pub value_at_binary : (scene : Scene) (op : Op) (l r : Resolved) → value_at scene (resolved.Binary op l r) ≡ joined op (value_at scene l) (value_at scene r)
value_at_binary scene op l r = ap (value_at scene) (resolved-is op l r)

-- sides that are resolved make an operator that is
pub resolved_binary : (seen : List Visible) (op : Op) (l r : Condition) (a b : Resolved) → IsResolved seen l a → IsResolved seen r b → IsResolved seen (conditions.Binary op l r) (resolved.Binary op a b)
resolved_binary seen op l r a b h k scene =
    value_at_binary scene op a b
    ∙ ap (λ x. joined op x (value_at scene b)) (h scene)
    ∙ ap (joined op (value_of (values_of scene seen) l)) (k scene)
    ∙ sym (value_of_binary (values_of scene seen) op l r)

seen_there : (p : Program) (scene : Scene) (n : ℕ) (f : Option Frame) → at_of f ≡ Some n → values_of scene (node_at p n).sees ≡ seen_from p scene 0 f
seen_there p scene n None e = absurd cc
seen_there p scene n (Some f) e = let same : f.at ≡ n = cc in ap (λ m. values_of scene (node_at p m).sees) (sym same)

-- resolved by what a node sees it is resolved at the node
pub resolved_there : (p : Program) (n : ℕ) (c : Condition) (r : Resolved) → IsResolved (node_at p n).sees c r → IsResolvedAt p n c r
resolved_there p n c r h scene e = ap verity (h scene ∙ ap (λ vs. value_of vs c) (seen_there p scene n (frame_of scene.frames 0) e))

-- a call that makes an operator of sides that are resolved
pub resolved_made : {E : Type 0} (seen : List Visible) (op : Op) (l r : Condition) (a b : Resolved) (c : Condition) (o : Result Resolved E)
    → IsResolved seen l a → IsResolved seen r b → c ≡ conditions.Binary op l r → IfOk o (λ x. x ≡ resolved.Binary op a b) → IfOk o (IsResolved seen c)
resolved_made seen op l r a b c (Ok x) h k is e = λ scene. ap (value_at scene) e ∙ resolved_binary seen op l r a b h k scene ∙ ap (value_of (values_of scene seen)) (sym is)
resolved_made seen op l r a b c (Err y) h k is e = e

-- a name stands for the first variable that has it
pub placed : (seen : List Visible) (name : List ℕ) → IsResolved seen (conditions.Name name) (place_in seen name)
placed [] name scene = refl
placed (v ∷ vs) name scene = by_test (bytes_eq v.name name) refl (placed vs name scene)
  where
    by_test : (b : Bool) → bytes_eq v.name name ≡ b → value_at scene (place_in vs name) ≡ variable (values_of scene vs) name → value_at scene (place_in (v ∷ vs) name) ≡ variable (values_of scene (v ∷ vs)) name
    by_test true e rest = rw e refl
    by_test false e rest = rw e rest
