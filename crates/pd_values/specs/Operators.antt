-- Definition: the operator tables: what each operator gives for each pair of kinds of values, a value or a fault.
use Rattle.std.specs.Prelude.{ℕ, zero, ◌%◌, ◌^◌, ℤ, pos, negsuc, ◌+ℤ◌, ◌-ℤ◌, ◌*ℤ◌, neg_ℤ, unsigned_abs, int_lt, int_le, int_div, Bool, true, false, if◌then◌else◌, nat_lt, nat_le, ◌==◌, List, [], ◌++◌, length, slice_index_or, Result, Ok, Err, codes, bytes_eq}
use Rattle.std.specs.Bool.{beq}
use Rattle.std.specs.Ordering.{int_eq}
use Rattle.std.specs.Fmt.{signed_decimal}
use Rattle.pd_values.specs.declared.value.Value.{Value}
use Rattle.pd_values.specs.declared.value.Value.TheVariants.{Number, Bool as Truth, Text as Chars, Null, Func}
use Rattle.pd_values.specs.declared.value.Fault.{Fault}
use Rattle.pd_values.specs.declared.value.Fault.TheVariants.{Overflow, DivZero, WrongKind, TextLong}
use Rattle.pd_values.specs.declared.value.Cmp.{Cmp}
use Rattle.pd_values.specs.declared.value.Cmp.TheVariants.{Less, LessEq, Greater, GreaterEq}

-- what an operator gives
abbrev pub ValueOrFault : Type 0
ValueOrFault = Result Value Fault

-- the bytes that a value is shown as; `names` are the names of the items, of which a function is one
abbrev pub show : List (List ℕ) → Value → List ℕ
show names (Number z) = signed_decimal z
show names (Truth b) = if b then codes "true" else codes "false"
show names (Chars t) = t
show names Null = codes "NULL"
show names (Func i) = slice_index_or names i []

-- a whole number as a value, where 64 bits hold it: from -(2 ^ 63) to 2 ^ 63 - 1; `negsuc n` is -(n + 1)
abbrev pub number : ℤ → ValueOrFault
number (pos n) = if nat_lt n (2 ^ 63) then Ok (Number (pos n)) else Err Overflow
number (negsuc n) = if nat_lt n (2 ^ 63) then Ok (Number (negsuc n)) else Err Overflow

-- the longest text that `+` gives, in bytes
abbrev pub longest_text : ℕ
longest_text = 65536

-- a text as a value, where it isn't too long
abbrev pub joined : List ℕ → ValueOrFault
joined t = if nat_le (length t) longest_text then Ok (Chars t) else Err TextLong

-- an operator on two numbers; any other pair is of the wrong kind
abbrev pub on_numbers : (ℤ → ℤ → ValueOrFault) → Value → Value → ValueOrFault
on_numbers f (Number x) (Number y) = f x y
on_numbers f _ _ = Err WrongKind

-- two numbers are added; where either is a text, both are shown and joined; any other pair is of the wrong kind
abbrev pub add : List (List ℕ) → Value → Value → ValueOrFault
add names (Number x) (Number y) = number (x +ℤ y)
add names (Chars t) b = joined (t ++ show names b)
add names a (Chars t) = joined (show names a ++ t)
add names _ _ = Err WrongKind

-- the difference of two numbers
abbrev pub sub : Value → Value → ValueOrFault
sub = on_numbers (λ x y. number (x -ℤ y))

-- the product of two numbers
abbrev pub mul : Value → Value → ValueOrFault
mul = on_numbers (λ x y. number (x *ℤ y))

-- the quotient of two whole numbers, rounded toward zero; by 0 it is a fault
abbrev pub quotient : ℤ → ℤ → ValueOrFault
quotient x (pos zero) = Err DivZero
quotient x y = number (int_div x y)

-- the quotient of two numbers, rounded toward zero
abbrev pub div : Value → Value → ValueOrFault
div = on_numbers quotient

-- whether two whole numbers stand in this order
abbrev pub ordered : Cmp → ℤ → ℤ → Bool
ordered Less x y = int_lt x y
ordered LessEq x y = int_le x y
ordered Greater x y = int_lt y x
ordered GreaterEq x y = int_le y x

-- whether two numbers stand in this order
abbrev pub compare : Cmp → Value → Value → Result Bool Fault
compare op (Number x) (Number y) = Ok (ordered op x y)
compare op _ _ = Err WrongKind

-- the same kind and content
abbrev pub equal : Value → Value → Bool
equal (Number x) (Number y) = int_eq x y
equal (Truth x) (Truth y) = beq x y
equal (Chars t) (Chars u) = bytes_eq t u
equal Null Null = true
equal (Func i) (Func j) = i == j
equal _ _ = false

-- a number with the sign `+` before it: the number itself
abbrev pub plus : Value → ValueOrFault
plus (Number x) = Ok (Number x)
plus _ = Err WrongKind

-- 0 minus a number
abbrev pub minus : Value → ValueOrFault
minus (Number x) = number (neg_ℤ x)
minus _ = Err WrongKind

-- whether a number is odd: no multiple of 2
abbrev pub odd : Value → ValueOrFault
odd (Number x) = Ok (Truth (unsigned_abs x % 2 == 1))
odd _ = Err WrongKind
