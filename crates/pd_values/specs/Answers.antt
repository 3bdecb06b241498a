-- Definition: when an operator may be asked, and how its answer follows from the table.
use Rattle.std.specs.Prelude.{◌≡◌, ℕ, ◌<◌, List, length, Result, Ok, Err}
use Rattle.pd_values.specs.declared.value.Value.{Value}
use Rattle.pd_values.specs.declared.value.Value.TheVariants.{Number, Bool as Truth, Text as Chars, Null, Func}
use Rattle.pd_values.specs.declared.value.Fault.{Fault}
use Rattle.pd_values.specs.declared.stop.Stop.{Stop}
use Rattle.pd_values.specs.declared.stop.Stop.TheVariants.{Refused, Memory}
use Rattle.pd_values.specs.Operators.{ValueOrFault}

-- a function is one of the items that have these names
abbrev pub IsNamed : List (List ℕ) → Value → Type 0
IsNamed names (Func i) = i < length names
IsNamed names (Number _) = Unit {0}
IsNamed names (Truth _) = Unit {0}
IsNamed names (Chars _) = Unit {0}
IsNamed names Null = Unit {0}

-- the table's value or the table's fault, if memory doesn't run out
abbrev pub IsTableAnswer : ValueOrFault → Result Value (Stop Fault) → Type 0
IsTableAnswer entry (Ok v) = entry ≡ Ok v
IsTableAnswer entry (Err (Refused f)) = entry ≡ Err f
IsTableAnswer entry (Err Memory) = Unit {0}
