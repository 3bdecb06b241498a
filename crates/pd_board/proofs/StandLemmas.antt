-- Bits of nodes after a bit was set or cleared.
use Rattle.std.proofs.Common.{◌≡◌, ◌≢◌, ℕ, ◌+◌, ◌*◌, ◌/◌, ◌%◌, ◌^◌, ◌==◌, ◌<◌, ◌≤◌, ◌&&◌, ◌||◌, not, if◌then◌else◌, nat_lt, Bool, true, false, List, length, replicate, slice_index, slice_set, bit_and, bit_or, ◌∙◌, ap, subst, arith}
use Rattle.std.proofs.lemmas.Grind.{common_steps}
use Rattle.std.proofs.lemmas.Nat.{same_from_place}
use Rattle.std.proofs.lemmas.Nat.Bits.{bit_at-zero, bit_at_set_same, bit_at_set_other}
use Rattle.std.specs.Int.{bit_at, bit_not, w64}
use Rattle.pd_board.specs.NodeBits.{stands_in}
use Rattle.pd_board.proofs.ChainLemmas.{by_eq, by_lt, zeros, removed_same, removed_other}

pub stands_none : (len width n b : ℕ) → stands_in width (replicate len 0) n b ≡ false
stands_none len width n b = let z = zeros len (n * width + b / 64) in let h = bit_at-zero (b % 64) in grind arith

-- one word changed
stands_changed : (width : ℕ) (words : List ℕ) (n q word m c : ℕ) → q < width → n * width + q < length words
    → stands_in width (slice_set words (n * width + q) word) m c ≡ (if m == n && c / 64 == q then bit_at word (c % 64) == 1 else stands_in width words m c)
stands_changed width words n q word m c narrow within = by_lt (c / 64) width
    (λ (low : c / 64 < width). by_eq (m * width + c / 64) (n * width + q)
    (λ (same : m * width + c / 64 ≡ n * width + q). let p = same_from_place m (c / 64) n q width low narrow same in grind (arith, common_steps))
    (λ (other : m * width + c / 64 ≢ n * width + q).
    by_eq m n
    (λ (e : m ≡ n). by_eq (c / 64) q (λ (f : c / 64 ≡ q). absurd (other (ap (λ k. k * width + c / 64) e ∙ ap (λ k. n * width + k) f))) (λ (f : c / 64 ≢ q). grind (arith, common_steps)))
    (λ (e : m ≢ n). grind (arith, common_steps))))
    (λ (high : width ≤ c / 64). let f : c / 64 ≢ q = (λ (e : c / 64 ≡ q). omega arith) in grind (arith, common_steps))

added_same : (word b c : ℕ) → c ≡ b → b < 64 → (bit_at (bit_or word (1 * 2 ^ b % 2 ^ 64)) c == 1) ≡ true
added_same word b c e below = let h = bit_at_set_same w64 word b below in grind arith

added_other : (word b c : ℕ) → c ≢ b → b < 64 → (bit_at (bit_or word (1 * 2 ^ b % 2 ^ 64)) c == 1) ≡ (bit_at word c == 1)
added_other word b c e below = let h = bit_at_set_other w64 word b below c e in grind arith

stands-set : (width : ℕ) (words : List ℕ) (n b m c : ℕ) → b / 64 < width → n * width + b / 64 < length words
    → stands_in width (slice_set words (n * width + b / 64) (bit_or (slice_index words (n * width + b / 64)) (1 * 2 ^ (b % 64) % 2 ^ 64))) m c ≡ ((m == n && c == b) || stands_in width words m c)
stands-set width words n b m c narrow within =
    let word = slice_index words (n * width + b / 64) in
    let changed = stands_changed width words n (b / 64) (bit_or word (1 * 2 ^ (b % 64) % 2 ^ 64)) m c narrow within in
    by_eq m n
    (λ (e : m ≡ n). by_eq (c / 64) (b / 64)
    (λ (row : c / 64 ≡ b / 64). by_eq (c % 64) (b % 64)
    (λ (place : c % 64 ≡ b % 64). let same : c ≡ b = omega arith in let h = added_same word (b % 64) (c % 64) place (omega arith) in grind arith)
    (λ (place : c % 64 ≢ b % 64). let other : c ≢ b = (λ (f : c ≡ b). place (ap (λ k. k % 64) f)) in
    let at : m * width + c / 64 ≡ n * width + b / 64 = ap (λ k. k * width + c / 64) e ∙ ap (λ k. n * width + k) row in
    let h = added_other word (b % 64) (c % 64) place (omega arith) in grind arith))
    (λ (row : c / 64 ≢ b / 64). let other : c ≢ b = (λ (f : c ≡ b). row (ap (λ k. k / 64) f)) in grind arith))
    (λ (e : m ≢ n). grind arith)

stands-clear : (width : ℕ) (words : List ℕ) (n b m c : ℕ) → b / 64 < width → n * width + b / 64 < length words
    → stands_in width (slice_set words (n * width + b / 64) (bit_and (slice_index words (n * width + b / 64)) (bit_not w64 (1 * 2 ^ (b % 64) % 2 ^ 64)))) m c ≡ (not (m == n && c == b) && stands_in width words m c)
stands-clear width words n b m c narrow within =
    let word = slice_index words (n * width + b / 64) in
    let changed = stands_changed width words n (b / 64) (bit_and word (bit_not w64 (1 * 2 ^ (b % 64) % 2 ^ 64))) m c narrow within in
    by_eq m n
    (λ (e : m ≡ n). by_eq (c / 64) (b / 64)
    (λ (row : c / 64 ≡ b / 64). by_eq (c % 64) (b % 64)
    (λ (place : c % 64 ≡ b % 64). let same : c ≡ b = omega arith in let h = removed_same word (b % 64) (c % 64) place (omega arith) in grind arith)
    (λ (place : c % 64 ≢ b % 64). let other : c ≢ b = (λ (f : c ≡ b). place (ap (λ k. k % 64) f)) in
    let at : m * width + c / 64 ≡ n * width + b / 64 = ap (λ k. k * width + c / 64) e ∙ ap (λ k. n * width + k) row in
    let h = removed_other word (b % 64) (c % 64) place (omega arith) (omega arith) in grind arith))
    (λ (row : c / 64 ≢ b / 64). let other : c ≢ b = (λ (f : c ≡ b). row (ap (λ k. k / 64) f)) in grind arith))
    (λ (e : m ≢ n). grind arith)

-- the same, of a word that was read there
pub stands-set_read : (width : ℕ) (words : List ℕ) (n b word m c : ℕ) → b / 64 < width → n * width + b / 64 < length words → slice_index words (n * width + b / 64) ≡ word
    → stands_in width (slice_set words (n * width + b / 64) (bit_or word (1 * 2 ^ (b % 64) % 2 ^ 64))) m c ≡ ((m == n && c == b) || stands_in width words m c)
stands-set_read width words n b word m c narrow within read =
    subst (λ (w : ℕ). stands_in width (slice_set words (n * width + b / 64) (bit_or w (1 * 2 ^ (b % 64) % 2 ^ 64))) m c ≡ ((m == n && c == b) || stands_in width words m c)) read (stands-set width words n b m c narrow within)

-- the same, of a word that was read there
pub stands-clear_read : (width : ℕ) (words : List ℕ) (n b word m c : ℕ) → b / 64 < width → n * width + b / 64 < length words → slice_index words (n * width + b / 64) ≡ word
    → stands_in width (slice_set words (n * width + b / 64) (bit_and word (bit_not w64 (1 * 2 ^ (b % 64) % 2 ^ 64)))) m c ≡ (not (m == n && c == b) && stands_in width words m c)
stands-clear_read width words n b word m c narrow within read =
    subst (λ (w : ℕ). stands_in width (slice_set words (n * width + b / 64) (bit_and w (bit_not w64 (1 * 2 ^ (b % 64) % 2 ^ 64)))) m c ≡ (not (m == n && c == b) && stands_in width words m c)) read (stands-clear width words n b m c narrow within)

-- ---- the words of a node, one after the other

pub chain_step : (words : List ℕ) (first row word b : ℕ) (had : Bool) → slice_index words (first + row) ≡ word
    → had ≡ (nat_lt (b / 64) row && bit_at (slice_index words (first + b / 64)) (b % 64) == 1)
    → (if b / 64 == row then bit_at word (b % 64) == 1 else had) ≡ (nat_lt (b / 64) (row + 1) && bit_at (slice_index words (first + b / 64)) (b % 64) == 1)
chain_step words first row word b had read before = by_eq (b / 64) row
    (λ (e : b / 64 ≡ row). let at : slice_index words (first + b / 64) ≡ word = ap (λ k. slice_index words (first + k)) e ∙ read in grind arith)
    (λ (e : b / 64 ≢ row). grind arith)

pub chain_end : (width row b : ℕ) (set : Bool) → row ≡ width → (nat_lt (b / 64) row && set) ≡ (nat_lt (b / 64) width && set)
chain_end width row b set e = ap (λ k. nat_lt (b / 64) k && set) e
