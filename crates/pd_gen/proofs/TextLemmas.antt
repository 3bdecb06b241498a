-- A text is UTF-8.
use Rattle.std.proofs.Common.{◌≡◌, ℕ, List, length, subst, sym, String, string_bytes, arith}
use Rattle.std.specs.Str.{IsUtf8, IsValidUpTo}
use Rattle.std.proofs.lemmas.List.{take_all}
use Rattle.std.proofs.lemmas.Str.{IsUtf8-string_bytes}
use Rattle.pd_sections.specs.declared.NotUtf8.{NotUtf8}
use Rattle.pd_sections.specs.declared.Stop.{Stop}
use Rattle.pd_sections.specs.declared.Stop.TheVariants.{Refused}
use Rattle.pd_sections.specs.Refusing.{IsNotUtf8}

-- its bytes aren't refused as ones that aren't UTF-8
pub never_refused : {Z : Type 0} (text : String Z) (bytes : List ℕ) (stop : Stop NotUtf8) (at : NotUtf8)
    → bytes ≡ string_bytes text → stop ≡ Refused at → IsNotUtf8 bytes stop → ⊥
never_refused text bytes stop at same is why =
    let refused : IsValidUpTo bytes at.at = subst (IsNotUtf8 bytes) is why in
    let utf8 : IsUtf8 bytes = subst IsUtf8 (sym same) (IsUtf8-string_bytes text) in
    refused.longest (length bytes) refused.short (subst IsUtf8 (sym (take_all (length bytes) bytes (omega arith))) utf8)
