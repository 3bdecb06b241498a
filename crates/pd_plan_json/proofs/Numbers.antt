-- Numbers of 64 bits, beside the numbers of JSON.
use Rattle.std.proofs.Common.{◌≡◌, ◌==◌, ℕ, ℤ, pos, negsuc, ◌^◌, ◌<◌, Bool, true, false, Some, None, Ok, option_and_then, nat_lt, cond, refl, arith}
use Rattle.std.specs.Prelude.{FitsSigned}
use Rattle.std.specs.Int.{w64}
use Rattle.std.proofs.lemmas.Bool.Decides.{nat_tests}
use Rattle.serde_json.specs.Data.{unsigned, negative, float, Data, null, boolean, number, string, array, object}
use Rattle.serde_json.specs.Find.{as_number, as_u64, as_i64}
use Rattle.pd_plan.specs.declared.refusal.PlanRule.TheVariants.{WrongShape, OutOfRange}
use Rattle.pd_plan_json.specs.Reading.{refuse}
use Rattle.pd_plan_json.specs.Shapes.{signed, signed_in}

in_64 : (z : ℤ) → FitsSigned w64 z → signed_in z ≡ Ok z
in_64 (pos n) fits = at_pos (nat_lt n (2 ^ 63)) refl
  where
    at_pos : (b : Bool) → nat_lt n (2 ^ 63) ≡ b → cond b (Ok (pos n)) (refuse OutOfRange) ≡ Ok (pos n)
    at_pos true is = refl
    at_pos false is = let small : n < 2 ^ 63 = fits.sfits in absurd (grind (arith, nat_tests))
in_64 (negsuc n) fits = at_neg (nat_lt n (2 ^ 63)) refl
  where
    at_neg : (b : Bool) → nat_lt n (2 ^ 63) ≡ b → cond b (Ok (negsuc n)) (refuse OutOfRange) ≡ Ok (negsuc n)
    at_neg true is = refl
    at_neg false is = let small : n < 2 ^ 63 = fits.sfits in absurd (grind (arith, nat_tests))

pub signed_found : (d : Data) (z : ℤ) → FitsSigned w64 z → option_and_then as_i64 (as_number d) ≡ Some z → signed d ≡ Ok z
signed_found null z fits e = absurd cc
signed_found (boolean b) z fits e = absurd cc
signed_found (string s) z fits e = absurd cc
signed_found (array ds) z fits e = absurd cc
signed_found (object ms) z fits e = absurd cc
signed_found (number (unsigned n)) z fits e = small (nat_lt n (2 ^ 63)) e
  where
    small : (b : Bool) → cond b (Some (pos n)) None ≡ Some z → cond b (Ok (pos n)) (refuse OutOfRange) ≡ Ok z
    small true is = let same : pos n ≡ z = cc in rw same refl
    small false is = absurd cc
signed_found (number (negative y)) z fits e = let same : y ≡ z = cc in rw same (in_64 z fits)
signed_found (number (float x)) z fits e = absurd cc

pub signed_past : (d : Data) (n : ℕ) → option_and_then as_i64 (as_number d) ≡ None → option_and_then as_u64 (as_number d) ≡ Some n → signed d ≡ refuse OutOfRange
signed_past null n e f = absurd cc
signed_past (boolean b) n e f = absurd cc
signed_past (string s) n e f = absurd cc
signed_past (array ds) n e f = absurd cc
signed_past (object ms) n e f = absurd cc
signed_past (number (unsigned m)) n e f = large (nat_lt m (2 ^ 63)) e
  where
    large : (b : Bool) → cond b (Some (pos m)) None ≡ None → cond b (Ok (pos m)) (refuse OutOfRange) ≡ refuse OutOfRange
    large true is = absurd cc
    large false is = refl
signed_past (number (negative y)) n e f = absurd cc
signed_past (number (float x)) n e f = absurd cc

pub no_number : (d : Data) → option_and_then as_i64 (as_number d) ≡ None → option_and_then as_u64 (as_number d) ≡ None → signed d ≡ refuse WrongShape
no_number null e f = refl
no_number (boolean b) e f = refl
no_number (string s) e f = refl
no_number (array ds) e f = refl
no_number (object ms) e f = refl
no_number (number (unsigned m)) e f = absurd cc
no_number (number (negative y)) e f = absurd cc
no_number (number (float x)) e f = refl

-- a version that isn't the first
pub other_version : (v : ℕ) → (v ≡ 1 → ⊥) → (v == 1) ≡ false
other_version v h = grind (arith, nat_tests)
