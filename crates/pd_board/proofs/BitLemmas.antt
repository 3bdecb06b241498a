-- The lowest bit of a shifted word.
use Rattle.std.proofs.Common.{◌≡◌, ℕ, ◌+◌, ◌-◌, ◌/◌, ◌%◌, ◌^◌, ◌<◌, ◌≤◌, sym, ◌∙◌, ap, arith}
use Rattle.std.proofs.Math.Nat.{div-div-eq-div-mul}
use Rattle.std.proofs.lemmas.Nat.{pow-add, shr_le}
use Rattle.std.proofs.lemmas.Nat.Bits.{bit_at-zero, bit_at-trailing_zeros, bit_at_above}
use Rattle.std.specs.Int.{bit_at, trailing_zeros, w64}
use Rattle.pd_board.specs.Bits.{IsLowestFrom}

pub bit_at-shr : (n k i : ℕ) → bit_at (n / 2 ^ k) i ≡ bit_at n (k + i)
bit_at-shr n k i = ap (λ m. m % 2) (div-div-eq-div-mul n (2 ^ k) (2 ^ i) ∙ ap (λ m. n / m) (sym (pow-add 2 k i)))

-- the same, at a place that is named
pub bit_at-shr_to : (n k i j : ℕ) → k + i ≡ j → bit_at (n / 2 ^ k) i ≡ bit_at n j
bit_at-shr_to n k i j e = bit_at-shr n k i ∙ ap (bit_at n) e

-- a word that is 0 from low on has no bit there
pub none_from : (word low : ℕ) → word / 2 ^ low ≡ 0 → (i : ℕ) → low ≤ i → bit_at word i ≡ 0
none_from word low none i above =
    sym (bit_at-shr_to word low (i - low) i (omega arith)) ∙ (ap (λ m. bit_at m (i - low)) none ∙ bit_at-zero (i - low))

-- a bit of a word that fits 64 bits is below 64
pub set_within : (word i : ℕ) → word < 2 ^ 64 → bit_at word i ≡ 1 → i < 64
set_within word i fits set = grind (arith, bit_at_above word 64 i)

pub lowest_found : (word low : ℕ) → word < 2 ^ 64 → 0 < word / 2 ^ low → IsLowestFrom word low (low + trailing_zeros w64 (word / 2 ^ low))
lowest_found word low fits some =
    let small : word / 2 ^ low < 2 ^ 64 = omega (arith, shr_le word low) in
    let lowest = bit_at-trailing_zeros w64 (word / 2 ^ low) some small in
    let set = sym (bit_at-shr word low (trailing_zeros w64 (word / 2 ^ low))) ∙ lowest.1 in
    record {
      from = omega arith;
      within = set_within word (low + trailing_zeros w64 (word / 2 ^ low)) fits set;
      set = set;
      clear = λ j above below. sym (bit_at-shr_to word low (j - low) j (omega arith)) ∙ lowest.2 (j - low) (omega arith);
    }

-- and none is set from 64 on
pub no_bit_above : (word i : ℕ) → word < 2 ^ 64 → 64 ≤ i → bit_at word i ≡ 0
no_bit_above word i fits above = bit_at_above word 64 i fits above
