-- What each step leaves of a word.
use Rattle.std.proofs.Common.{◌≡◌, ◌≢◌, ℕ, ◌+◌, ◌/◌, ◌%◌, ◌^◌, ◌<◌, true, false, ◌&&◌, ◌==◌, sym, refl, ◌∙◌, arith}
use Rattle.std.specs.Prelude.{bit_and, bit_or}
use Rattle.std.specs.Int.{w64}
use Rattle.std.specs.Int.Bits.{or_zero_r}
use Rattle.std.proofs.lemmas.Nat.{or_shr, and_shr, and_mask}
use Rattle.std.proofs.lemmas.Nat.Bits.{bit_at_lowest, bit_at_and, shr_and_one, bit_at_or, bit_at-lt, bit_at_set_same, bit_at_set_other, bit_at_clear_same, bit_at_clear_other}
use Rattle.std.proofs.lemmas.Bool.Decides.{nat_tests}
use Rattle.pd_core.specs.Words.{attached, disposed, off, sum_in, bit_of, live, only_bit, all_but}

-- what each step makes of a word
abbrev pub more : ℕ → ℕ
more w = (w + 8) % 2 ^ 64

abbrev pub with_attached : ℕ → ℕ
with_attached w = bit_or w 1

abbrev pub with_disposed : ℕ → ℕ
with_disposed w = bit_or w 2

abbrev pub with_off : ℕ → ℕ
with_off w = bit_or w 4

abbrev pub without_off : ℕ → ℕ
without_off w = bit_and w (all_but 2)

abbrev pub with_bit : ℕ → ℕ → ℕ
with_bit b w = bit_or w (only_bit b)

abbrev pub without_bit : ℕ → ℕ → ℕ
without_bit b w = bit_and w (all_but b)

pub attached_fits : (w : ℕ) → attached w < 2
unfolding attached
attached_fits w = bit_at-lt w 0

pub disposed_fits : (w : ℕ) → disposed w < 2
unfolding disposed
disposed_fits w = bit_at-lt w 1

pub bit_fits : (w b : ℕ) → bit_of w b < 2
unfolding bit_of
bit_fits w b = bit_at-lt w b

-- one more
pub more_fits : (w : ℕ) → sum_in w < 2 ^ 60 → more w ≡ w + 8
unfolding sum_in
more_fits w h = omega arith

pub attached-more : (w : ℕ) → sum_in w < 2 ^ 60 → attached (more w) ≡ attached w
unfolding attached sum_in
attached-more w h = omega arith

pub disposed-more : (w : ℕ) → sum_in w < 2 ^ 60 → disposed (more w) ≡ disposed w
unfolding disposed sum_in
disposed-more w h = omega arith

pub sum_in-more : (w : ℕ) → sum_in w < 2 ^ 60 → sum_in (more w) ≡ sum_in w + 1
unfolding sum_in
sum_in-more w h = omega arith

pub off_fits : (w : ℕ) → off w < 2
unfolding off
off_fits w = bit_at-lt w 2

pub off-more : (w : ℕ) → sum_in w < 2 ^ 60 → off (more w) ≡ off w
unfolding off sum_in
off-more w h = omega arith

-- attached
pub attached-with_attached : (w : ℕ) → attached (with_attached w) ≡ 1
unfolding attached
attached-with_attached w = omega (arith, bit_at_or w 1 0, bit_at-lt w 0)

pub disposed-with_attached : (w : ℕ) → disposed (with_attached w) ≡ disposed w
unfolding disposed
disposed-with_attached w = omega (arith, bit_at_or w 1 1)

pub sum_in-with_attached : (w : ℕ) → sum_in (with_attached w) ≡ sum_in w
unfolding sum_in
sum_in-with_attached w = or_shr w 1 3 ∙ or_zero_r (w / 8)

pub off-with_attached : (w : ℕ) → off (with_attached w) ≡ off w
unfolding off
off-with_attached w = omega (arith, bit_at_or w 1 2)

-- disposed
pub attached-with_disposed : (w : ℕ) → attached (with_disposed w) ≡ attached w
unfolding attached
attached-with_disposed w = omega (arith, bit_at_or w 2 0)

pub disposed-with_disposed : (w : ℕ) → disposed (with_disposed w) ≡ 1
unfolding disposed
disposed-with_disposed w = omega (arith, bit_at_or w 2 1, bit_at-lt w 1)

pub sum_in-with_disposed : (w : ℕ) → sum_in (with_disposed w) ≡ sum_in w
unfolding sum_in
sum_in-with_disposed w = or_shr w 2 3 ∙ or_zero_r (w / 8)

pub off-with_disposed : (w : ℕ) → off (with_disposed w) ≡ off w
unfolding off
off-with_disposed w = omega (arith, bit_at_or w 2 2)

-- a node's bits
pub bit_set_here : (w b : ℕ) → b < 64 → bit_of (with_bit b w) b ≡ 1
unfolding bit_of
bit_set_here w b h = bit_at_set_same w64 w b h

pub bit_set_else : (w b c : ℕ) → b < 64 → c ≢ b → bit_of (with_bit b w) c ≡ bit_of w c
unfolding bit_of
bit_set_else w b c h n = bit_at_set_other w64 w b h c n

pub bit_clear_here : (w b : ℕ) → b < 64 → bit_of (without_bit b w) b ≡ 0
unfolding bit_of
bit_clear_here w b h = bit_at_clear_same w64 w b h

pub bit_clear_else : (w b c : ℕ) → b < 64 → c < 64 → c ≢ b → bit_of (without_bit b w) c ≡ bit_of w c
unfolding bit_of
bit_clear_else w b c h k n = bit_at_clear_other w64 w b h c k n

pub live_is : (w : ℕ) → attached w ≡ 1 → disposed w ≡ 0 → live w ≡ true
unfolding live
live_is w a d = grind (arith, nat_tests)

pub gone_is : (w : ℕ) → disposed w ≡ 1 → live w ≡ false
unfolding live
gone_is w d = grind (arith, nat_tests)

pub not_attached_is : (w : ℕ) → attached w ≡ 0 → live w ≡ false
unfolding live
not_attached_is w d = grind (arith, nat_tests)

-- how code tests a word
pub attached_by : (w : ℕ) → attached w ≡ w % 2
unfolding attached
attached_by w = bit_at_lowest w

pub disposed_by : (w : ℕ) → disposed w ≡ w / 2 % 2
unfolding disposed
disposed_by w = refl

pub sum_by_code : (w : ℕ) → sum_in w ≡ w / 8
unfolding sum_in
sum_by_code w = refl

pub bit_by : (w b : ℕ) → bit_of w b ≡ bit_and (w / 2 ^ b) 1
unfolding bit_of
bit_by w b = sym (shr_and_one w b)

pub live_by : (w : ℕ) → live w ≡ ((w % 2 == 1) && (w / 2 % 2 == 0))
unfolding live
live_by w = λ i. (attached_by w i == 1) && (disposed_by w i == 0)

-- switched off and on
pub attached-with_off : (w : ℕ) → attached (with_off w) ≡ attached w
unfolding attached
attached-with_off w = omega (arith, bit_at_or w 4 0)

pub disposed-with_off : (w : ℕ) → disposed (with_off w) ≡ disposed w
unfolding disposed
disposed-with_off w = omega (arith, bit_at_or w 4 1)

pub sum_in-with_off : (w : ℕ) → sum_in (with_off w) ≡ sum_in w
unfolding sum_in
sum_in-with_off w = or_shr w 4 3 ∙ or_zero_r (w / 8)

pub attached-without_off : (w : ℕ) → attached (without_off w) ≡ attached w
unfolding attached
attached-without_off w = omega (arith, bit_at_and w 18446744073709551611 0, bit_at-lt w 0)

pub disposed-without_off : (w : ℕ) → disposed (without_off w) ≡ disposed w
unfolding disposed
disposed-without_off w = omega (arith, bit_at_and w 18446744073709551611 1, bit_at-lt w 1)

pub sum_in-without_off : (w : ℕ) → sum_in w < 2 ^ 61 → sum_in (without_off w) ≡ sum_in w
unfolding sum_in
sum_in-without_off w h = and_shr w 18446744073709551611 3 ∙ (and_mask (w / 8) 61 ∙ small_mod (w / 8) h)
  where
    small_mod : (n : ℕ) → n < 2 ^ 61 → n % 2 ^ 61 ≡ n
    small_mod n h = omega arith

pub off-with_off : (w : ℕ) → off (with_off w) ≡ 1
unfolding off
off-with_off w = omega (arith, bit_at_or w 4 2, bit_at-lt w 2)

pub off-without_off : (w : ℕ) → off (without_off w) ≡ 0
unfolding off
off-without_off w = omega (arith, bit_at_and w 18446744073709551611 2, bit_at-lt w 2)

pub off_by : (w : ℕ) → off w ≡ w / 4 % 2
unfolding off
off_by w = refl
