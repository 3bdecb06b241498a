-- Definition: why a source isn't made.
use Rattle.std.specs.Prelude.{ℕ, List}
use Rattle.std.specs.Str.{IsValidUpTo}
use Rattle.pd_sections.specs.declared.NotUtf8.{NotUtf8}
use Rattle.pd_sections.specs.declared.Stop.{Stop}
use Rattle.pd_sections.specs.declared.Stop.TheVariants.{Refused, Memory}

-- where the cause isn't memory, the bytes aren't UTF-8, and the place is the length of their longest prefix that is
abbrev pub IsNotUtf8 : List ℕ → Stop NotUtf8 → Type 0
IsNotUtf8 bytes (Refused refusal) = IsValidUpTo bytes refusal.at
IsNotUtf8 bytes Memory = Unit {0}
