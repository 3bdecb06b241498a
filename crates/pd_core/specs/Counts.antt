-- Definition, which public contracts cite.
-- Sums over lists and over the numbers below one, and how often a number stands in a list.
use Rattle.std.specs.Prelude.{ℕ, zero, suc, ◌+◌, ◌*◌, List, [], ◌∷◌, eqb, ltb, cond, Bool, true, false}

-- the weights of all, added up
unfoldable pub total : {A : Type 0} → (A → ℕ) → List A → ℕ
total f [] = 0
total f (x ∷ xs) = f x + total f xs

-- f 0 + f 1 + .. below n
unfoldable pub added : (ℕ → ℕ) → ℕ → ℕ
added f zero = 0
added f (suc n) = added f n + f n

-- 1 where the numbers are the same, and else 0
unfoldable pub same : ℕ → ℕ → ℕ
same x y = cond (eqb x y) 1 0

-- how often x stands in the list
unfoldable pub times : ℕ → List ℕ → ℕ
times x xs = total (same x) xs

-- 1 where the pair has this first number, and else 0
unfoldable pub first_is : ℕ → ℕ × ℕ → ℕ
first_is x p = same x p.0

-- 1 where the pair is (x, y), and else 0
unfoldable pub pair_is : ℕ → ℕ → ℕ × ℕ → ℕ
pair_is x y p = same x p.0 * same y p.1

-- 1 for the numbers below n, and else 0
unfoldable pub once_below : ℕ → ℕ → ℕ
once_below x n = cond (ltb x n) 1 0

-- 1 where the test passes
abbrev pub one_if : Bool → ℕ
one_if true = 1
one_if false = 0

-- the value, where the test passes
abbrev pub only_if : {A : Type 0} → Bool → A → List A
only_if true x = x ∷ []
only_if false x = []
