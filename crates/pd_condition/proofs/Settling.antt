-- A left side that decides alone.
use Rattle.std.proofs.Common.{◌≡◌, Option, None, Some, true, false, refl}
use Rattle.pd_values.specs.declared.value.Value.{Value}
use Rattle.pd_values.specs.declared.value.Value.TheVariants.{Number, Bool, Text, Null, Func}
use Rattle.pd_plan.specs.declared.condition.Op.{Op}
use Rattle.pd_plan.specs.declared.condition.Op.TheVariants.{Or, And, Equal, NotEqual, Less, LessEq, Greater, GreaterEq, Add, Sub, Mul, Div}
use Rattle.pd_condition.specs.Truths.{joined, either, both}
use Rattle.pd_condition.specs.Operands.{settles}

or_settled : (l : Option Value) → settles Or l ≡ true → (r s : Option Value) → either l r ≡ either l s
or_settled None e r s = refl
or_settled (Some (Number z)) e r s = refl
or_settled (Some (Bool true)) e r s = refl
or_settled (Some (Bool false)) e r s = absurd cc
or_settled (Some (Text t)) e r s = refl
or_settled (Some Null) e r s = refl
or_settled (Some (Func i)) e r s = refl

and_settled : (l : Option Value) → settles And l ≡ true → (r s : Option Value) → both l r ≡ both l s
and_settled None e r s = refl
and_settled (Some (Number z)) e r s = refl
and_settled (Some (Bool true)) e r s = absurd cc
and_settled (Some (Bool false)) e r s = refl
and_settled (Some (Text t)) e r s = refl
and_settled (Some Null) e r s = refl
and_settled (Some (Func i)) e r s = refl

-- the right side doesn't matter
pub settled : (op : Op) (l : Option Value) → settles op l ≡ true → (r s : Option Value) → joined op l r ≡ joined op l s
settled Or l e r s = or_settled l e r s
settled And l e r s = and_settled l e r s
settled Equal None e r s = refl
settled Equal (Some v) e r s = absurd cc
settled NotEqual None e r s = refl
settled NotEqual (Some v) e r s = absurd cc
settled Less None e r s = refl
settled Less (Some v) e r s = absurd cc
settled LessEq None e r s = refl
settled LessEq (Some v) e r s = absurd cc
settled Greater None e r s = refl
settled Greater (Some v) e r s = absurd cc
settled GreaterEq None e r s = refl
settled GreaterEq (Some v) e r s = absurd cc
settled Add None e r s = refl
settled Add (Some v) e r s = absurd cc
settled Sub None e r s = refl
settled Sub (Some v) e r s = absurd cc
settled Mul None e r s = refl
settled Mul (Some v) e r s = absurd cc
settled Div None e r s = refl
settled Div (Some v) e r s = absurd cc
