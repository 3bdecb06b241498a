-- Definition, which public contracts cite.
-- What each operator with two operands gives.
use Rattle.std.specs.Prelude.{ℕ, Bool, not, List, Result, Ok, Err}
use Rattle.pd_values.specs.declared.value.Value.{Value}
use Rattle.pd_values.specs.declared.value.Value.TheVariants.{Bool as Truth}
use Rattle.pd_values.specs.declared.value.Fault.{Fault}
use Rattle.pd_values.specs.declared.value.Cmp.TheVariants.{Less as IsLess, LessEq as IsLessEq, Greater as IsGreater, GreaterEq as IsGreaterEq}
use Rattle.pd_tree.specs.declared.kind.Operator.{Operator}
use Rattle.pd_tree.specs.declared.kind.Operator.TheVariants.{Equal, NotEqual, Less, LessEq, Greater, GreaterEq, Add, Sub, Mul, Div}
use Rattle.pd_values.specs.Operators.{ValueOrFault, add, sub, mul, div, compare, equal}

-- the answer of a comparison as a value
abbrev pub as_truth : Result Bool Fault → ValueOrFault
as_truth (Ok b) = Ok (Truth b)
as_truth (Err f) = Err f

-- `names` are the names of the items
abbrev pub binary : List (List ℕ) → Operator → Value → Value → ValueOrFault
binary names Equal a b = Ok (Truth (equal a b))
binary names NotEqual a b = Ok (Truth (not (equal a b)))
binary names Less a b = as_truth (compare IsLess a b)
binary names LessEq a b = as_truth (compare IsLessEq a b)
binary names Greater a b = as_truth (compare IsGreater a b)
binary names GreaterEq a b = as_truth (compare IsGreaterEq a b)
binary names Add a b = add names a b
binary names Sub a b = sub a b
binary names Mul a b = mul a b
binary names Div a b = div a b
