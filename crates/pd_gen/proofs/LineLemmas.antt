-- The lines of the functions of the workload.
use Rattle.std.proofs.Common.{◌≡◌, ◌++◌, ◌+◌, ◌*◌, ◌<◌, ◌≤◌, ℕ, zero, suc, List, refl, subst, sym, ◌∙◌, ap, length, mod-lt, arith}
use Rattle.std.proofs.lemmas.List.{append_assoc, length-append}
use Rattle.std.proofs.lemmas.Fmt.{length-decimal-le}
use Rattle.std.specs.Fmt.{decimal}
use Rattle.pd_gen.specs.Workload.{shift, first_line, chain_line, function_lines, main_line, sl_text, pl0_text}

-- one function more
pub lines_more : (number i : ℕ) → function_lines number (i + 1) ≡ function_lines number i ++ chain_line i (shift number (i + 1))
unfolding function_lines
lines_more number i =
    let P : ℕ → Type 0 = λ n. function_lines number n ≡ function_lines number i ++ chain_line i (shift number (i + 1)) in
    let next : suc i ≡ i + 1 = omega arith in
    subst P next refl

-- a text to which they were written, and then the next one
pub more_written : (number i by : ℕ) (before text after : List ℕ) → text ≡ before ++ function_lines number i → after ≡ text ++ chain_line i by
    → by ≡ shift number (i + 1) → after ≡ before ++ function_lines number (i + 1)
more_written number i by before text after so_far line is =
    line ∙ ap (λ written. written ++ chain_line i by) so_far ∙ append_assoc before (function_lines number i) (chain_line i by)
    ∙ ap (λ k. before ++ (function_lines number i ++ chain_line i k)) is ∙ ap (λ lines. before ++ lines) (sym (lines_more number i))

-- ---- how long they are

-- a number below 1,000 takes at most three digits
short_number : (n : ℕ) → n < 1000 → length (decimal n) ≤ 3
short_number n below = length-decimal-le 3 n (omega arith) below (omega arith)

-- function i + 1 takes at most 100 bytes
pub chain_short : (i by : ℕ) → i < 999 → by < 7 → length (chain_line i by) ≤ 100
unfolding chain_line
chain_short i by below least =
    let own = short_number (i + 1) (omega arith) in
    let before = short_number i (omega arith) in
    let number = short_number by (omega arith) in
    simp length-append (omega (arith, own, before, number))

-- the first one too
pub first_short : (by : ℕ) → by < 7 → length (first_line by) ≤ 100
unfolding first_line
first_short by least =
    let number = short_number by (omega arith) in
    simp length-append (omega (arith, number))

-- so functions 0 to n take at most 100 bytes each
pub lines_short : (number n : ℕ) → n < 999 → length (function_lines number n) ≤ 100 * (n + 1)
unfolding function_lines
lines_short number zero below = first_short (shift number 0) (mod-lt (number + 0) (omega arith))
lines_short number (suc n) below =
    let before = lines_short number n (omega arith) in
    let last = chain_short n (shift number (n + 1)) (omega arith) (mod-lt (number + (n + 1)) (omega arith)) in
    simp length-append (omega (arith, before, last))

-- and the whole text is short enough for a source
pub text_short : (number : ℕ) → length (sl_text number) ≤ 1048576
unfolding sl_text main_line
text_short number =
    let lines = lines_short number 199 (omega arith) in
    simp length-append (omega (arith, lines))

-- the other one too
pub pl0_short : length pl0_text ≤ 1048576
unfolding pl0_text
pl0_short = omega arith
