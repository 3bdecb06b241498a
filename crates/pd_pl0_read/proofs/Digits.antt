-- The value of digits.
use Rattle.std.proofs.Common.{◌≡◌, ℕ, ◌+◌, ◌-◌, ◌*◌, ◌<◌, ◌≤◌, List, [], ◌∷◌, length, drop, get_or, Some, None, pos, refl, sym, ap, ◌∙◌, add-one, drop-cons, arith}
use Rattle.std.proofs.lemmas.Bool.{lt-ltb, le-ltb}
use Rattle.pd_pl0_spell.specs.Refusals.{largest}
use Rattle.pd_pl0_read.specs.Resolving.{value_within, value_of}
use Rattle.pd_pl0_read.specs.Tokens.{decimal}

pub decimal_grows : (n : ℕ) (bytes : List ℕ) → n ≤ decimal n bytes
decimal_grows n [] = omega arith
decimal_grows n (byte ∷ bytes) = omega (arith, decimal_grows (n * 10 + (byte - 48)) bytes)

pub decimal_next : (n i : ℕ) (bytes : List ℕ) → i < length bytes → decimal n (drop i bytes) ≡ decimal (n * 10 + (get_or bytes i 0 - 48)) (drop (i + 1) bytes)
decimal_next n i bytes lt = rw (add-one, drop-cons bytes i 0) refl

pub too_large : (n : ℕ) → largest < n → value_of n ≡ None
too_large n h = ap (λ b. value_within b n) (lt-ltb largest n h)

pub fits : (n : ℕ) → n ≤ largest → value_of n ≡ Some (pos n)
fits n h = ap (λ b. value_within b n) (le-ltb largest n h)

-- more digits, or the next one, make it too large
pub too_large_next : (n i : ℕ) (bytes all : List ℕ) → i < length bytes → decimal n (drop i bytes) ≡ decimal 0 all → largest < n * 10 + (get_or bytes i 0 - 48) → value_of (decimal 0 all) ≡ None
too_large_next n i bytes all lt e h = too_large (decimal 0 all) (omega (arith, sym e ∙ decimal_next n i bytes lt, decimal_grows (n * 10 + (get_or bytes i 0 - 48)) (drop (i + 1) bytes)))
