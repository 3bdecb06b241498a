-- The bits of a chain's words and of its summary.
use Rattle.std.proofs.Common.{◌≡◌, ◌≢◌, ℕ, ◌+◌, ◌*◌, ◌/◌, ◌%◌, ◌^◌, ◌==◌, ◌<◌, ◌≤◌, ◌&&◌, not, Bool, false, if◌then◌else◌, List, length, replicate, slice_index, slice_set, bit_and, bit_or, inl, inr, ◌∙◌, ap, refl, arith}
use Rattle.std.proofs.lemmas.Bool.{cases_eq, cases_lt}
use Rattle.std.proofs.lemmas.Grind.{common_steps}
use Rattle.std.proofs.lemmas.Nat.Bits.{bit_at-zero, bit_at_set_same, bit_at_set_other, bit_at_clear_same, bit_at_clear_other}
use Rattle.std.specs.Int.{bit_at, bit_not, w64}
use Rattle.pd_board.specs.Bits.{IsLeastFrom, IsLowestFrom}

pub by_eq : {P : Type 0} (a b : ℕ) → (a ≡ b → P) → (a ≢ b → P) → P
by_eq {P} a b same other = elim (cases_eq a b) as (λ _. P) [ inl e ↦ same e | inr e ↦ other e ]

pub by_lt : {P : Type 0} (a b : ℕ) → (a < b → P) → (b ≤ a → P) → P
by_lt {P} a b below above = elim (cases_lt a b) as (λ _. P) [ inl e ↦ below e | inr e ↦ above e ]

-- ---- the summary

-- a bit of the summary is 0 exactly where the word is 0
abbrev pub Summed : ℕ → List ℕ → Type 0
Summed summary words = (row : ℕ) → row < 64 → (bit_at summary row == 0) ≡ (slice_index words row == 0)

pub zeros : (n row : ℕ) → slice_index (replicate n 0) row ≡ 0
zeros n row = grind (arith, common_steps)

summed_zeros : (n : ℕ) → Summed 0 (replicate n 0)
summed_zeros n row below = let z = zeros n row in let h = bit_at-zero row in grind arith

pub summed_new : Summed 0 (replicate 64 0)
summed_new = summed_zeros 64

summed_step : (new old : ℕ) (words : List ℕ) (at word : ℕ) → at < length words
    → (bit_at new at == 0) ≡ (word == 0) → ((row : ℕ) → row < 64 → row ≢ at → bit_at new row ≡ bit_at old row) → Summed old words
    → Summed new (slice_set words at word)
summed_step new old words at word within here there summed row below = by_eq row at
    (λ (e : row ≡ at). grind (arith, common_steps))
    (λ (e : row ≢ at). let h = there row below e in let g = summed row below in grind (arith, common_steps))

pub summed_clear : (summary : ℕ) (words : List ℕ) (at word : ℕ) → length words ≡ 64 → at < 64 → word ≡ 0 → Summed summary words
    → Summed (bit_and summary (bit_not w64 (1 * 2 ^ at % 2 ^ 64))) (slice_set words at word)
summed_clear summary words at word len within none summed =
    let h = bit_at_clear_same w64 summary at within in
    summed_step _ summary words at word (omega arith) (grind arith) (λ row below other. bit_at_clear_other w64 summary at within row below other) summed

pub summed_set : (summary : ℕ) (words : List ℕ) (at word : ℕ) → length words ≡ 64 → at < 64 → word ≢ 0 → Summed summary words
    → Summed (bit_or summary (1 * 2 ^ at % 2 ^ 64)) (slice_set words at word)
summed_set summary words at word len within some summed =
    let h = bit_at_set_same w64 summary at within in
    summed_step _ summary words at word (omega arith) (grind arith) (λ row below other. bit_at_set_other w64 summary at within row other) summed

pub word_none : (summary : ℕ) (words : List ℕ) (row : ℕ) → Summed summary words → row < 64 → bit_at summary row ≡ 0 → slice_index words row ≡ 0
word_none summary words row summed below none = let h = summed row below in grind arith

pub word_some : (summary : ℕ) (words : List ℕ) (row : ℕ) → Summed summary words → row < 64 → bit_at summary row ≡ 1 → 0 < slice_index words row
word_some summary words row summed below some = let h = summed row below in grind arith

-- ---- the bindings

-- whether these words have the binding's bit
abbrev pub held : List ℕ → ℕ → Bool
held words b = bit_at (slice_index words (b / 64)) (b % 64) == 1

pub held-set : (words : List ℕ) (row word b : ℕ) → length words ≡ 64 → row < 64
    → held (slice_set words row word) b ≡ (if b / 64 == row then bit_at word (b % 64) == 1 else held words b)
held-set words row word b len within = by_eq (b / 64) row
    (λ (e : b / 64 ≡ row). grind (arith, common_steps))
    (λ (e : b / 64 ≢ row). grind (arith, common_steps))

-- a binding whose bit is clear, whose word is 0, or whose word is past the last
pub held_clear : (words : List ℕ) (b : ℕ) → bit_at (slice_index words (b / 64)) (b % 64) ≡ 0 → held words b ≡ false
held_clear words b clear = grind arith

pub held_none : (words : List ℕ) (b : ℕ) → slice_index words (b / 64) ≡ 0 → held words b ≡ false
held_none words b none = held_clear words b (ap (λ w. bit_at w (b % 64)) none ∙ bit_at-zero (b % 64))

pub held_past : (words : List ℕ) (b : ℕ) → length words ≤ b / 64 → held words b ≡ false
held_past words b past = held_none words b (grind (arith, common_steps))

-- one bit less in the word of b
pub removed_same : (word b c : ℕ) → c ≡ b → b < 64 → (bit_at (bit_and word (bit_not w64 (1 * 2 ^ b % 2 ^ 64))) c == 1) ≡ false
removed_same word b c e below = let h = bit_at_clear_same w64 word b below in grind arith

pub removed_other : (word b c : ℕ) → c ≢ b → b < 64 → c < 64 → (bit_at (bit_and word (bit_not w64 (1 * 2 ^ b % 2 ^ 64))) c == 1) ≡ (bit_at word c == 1)
removed_other word b c e below within = let h = bit_at_clear_other w64 word b below c within e in grind arith

pub held-removed : (words : List ℕ) (b c : ℕ)
    → (if c / 64 == b / 64 then bit_at (bit_and (slice_index words (b / 64)) (bit_not w64 (1 * 2 ^ (b % 64) % 2 ^ 64))) (c % 64) == 1 else held words c) ≡ (not (c == b) && held words c)
held-removed words b c = by_eq (c / 64) (b / 64)
    (λ (row : c / 64 ≡ b / 64). by_eq (c % 64) (b % 64)
    (λ (place : c % 64 ≡ b % 64). let same : c ≡ b = omega arith in let h = removed_same (slice_index words (b / 64)) (b % 64) (c % 64) place (omega arith) in grind arith)
    (λ (place : c % 64 ≢ b % 64). let h = removed_other (slice_index words (b / 64)) (b % 64) (c % 64) place (omega arith) (omega arith) in grind arith))
    (λ (row : c / 64 ≢ b / 64). let other : c ≢ b = (λ (e : c ≡ b). row (ap (λ n. n / 64) e)) in grind arith)

-- ---- the first binding from some number on

held_at : (words : List ℕ) (row place b : ℕ) → b ≡ row * 64 + place → place < 64 → held words b ≡ (bit_at (slice_index words row) place == 1)
held_at words row place b e below =
    let r : b / 64 ≡ row = omega arith in
    let p : b % 64 ≡ place = omega arith in
    ap (λ q. bit_at (slice_index words q) (b % 64) == 1) r ∙ ap (λ q. bit_at (slice_index words row) q == 1) p

pub found_here : (words : List ℕ) (b place : ℕ) → IsLowestFrom (slice_index words (b / 64)) (b % 64) place → IsLeastFrom (held words) b (b / 64 * 64 + place)
found_here words b place l = record {
  from = let h = l.from in omega arith;
  passes = held_at words (b / 64) place (b / 64 * 64 + place) refl l.within ∙ ap (λ n. n == 1) l.set;
  least = λ c above below.
      let row : c / 64 ≡ b / 64 = let h = l.within in omega arith in
      held_clear words c (ap (λ q. bit_at (slice_index words q) (c % 64)) row ∙ l.clear (c % 64) (omega arith) (omega arith));
}

-- nothing in this word from b on, and nothing in the words behind it as far as the one of c
none_between : (summary : ℕ) (words : List ℕ) (b c : ℕ) → length words ≡ 64 → Summed summary words
    → ((i : ℕ) → b % 64 ≤ i → bit_at (slice_index words (b / 64)) i ≡ 0) → b ≤ c
    → (b / 64 < c / 64 → c / 64 < 64 → bit_at summary (c / 64) ≡ 0) → held words c ≡ false
none_between summary words b c len summed here above there = by_eq (c / 64) (b / 64)
    (λ (row : c / 64 ≡ b / 64). held_clear words c (ap (λ q. bit_at (slice_index words q) (c % 64)) row ∙ here (c % 64) (omega arith)))
    (λ (row : c / 64 ≢ b / 64). by_lt (c / 64) 64
    (λ (below : c / 64 < 64). held_none words c (word_none summary words (c / 64) summed below (there (omega arith) below)))
    (λ (past : 64 ≤ c / 64). held_past words c (omega arith)))

pub found_none : (summary : ℕ) (words : List ℕ) (b : ℕ) → length words ≡ 64 → Summed summary words
    → ((i : ℕ) → b % 64 ≤ i → bit_at (slice_index words (b / 64)) i ≡ 0) → ((i : ℕ) → b / 64 + 1 ≤ i → bit_at summary i ≡ 0)
    → (c : ℕ) → b ≤ c → held words c ≡ false
found_none summary words b len summed here behind c above =
    none_between summary words b c len summed here above (λ later _. behind (c / 64) (omega arith))

pub found_behind : (summary : ℕ) (words : List ℕ) (b next place : ℕ) → length words ≡ 64 → Summed summary words
    → ((i : ℕ) → b % 64 ≤ i → bit_at (slice_index words (b / 64)) i ≡ 0) → IsLowestFrom summary (b / 64 + 1) next
    → (place < 64) × (bit_at (slice_index words next) place ≡ 1) × ((i : ℕ) → i < place → bit_at (slice_index words next) i ≡ 0)
    → IsLeastFrom (held words) b (next * 64 + place)
found_behind summary words b next place len summed here l low =
    let within = low.0 in
    let later = l.from in
    record {
      from = omega arith;
      passes = held_at words next place (next * 64 + place) refl within ∙ ap (λ n. n == 1) low.1;
      least = λ c above below. by_eq (c / 64) next
          (λ (row : c / 64 ≡ next). held_clear words c (ap (λ q. bit_at (slice_index words q) (c % 64)) row ∙ low.2 (c % 64) (omega arith)))
          (λ (row : c / 64 ≢ next). none_between summary words b c len summed here above (λ later _. l.clear (c / 64) (omega arith) (omega arith)));
    }
