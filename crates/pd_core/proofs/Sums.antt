-- Sums over lists, and a change of one term.
use Rattle.std.proofs.Common.{◌≡◌, ◌≢◌, ◌⊎◌, ℕ, zero, suc, ◌+◌, ◌*◌, ◌<◌, ◌≤◌, List, [], ◌∷◌, ◌++◌, set, Bool, true, false, cond, ⊎_elim, sym, refl, ap, ◌∙◌, inl, inr, arith, zero-add}
use mathlib.Core.Logic.{dite}
use mathlib.Core.Option.{some, some-ne-none, some-injective}
use native.Mathlib.Decide.{ℕ_discrete}
use Rattle.std.proofs.lemmas.Bool.Decides.{nat_tests}
use lib.ListN.{get_elem?}
use Rattle.pd_core.specs.Counts.{total, added, same, times, first_is, pair_is, once_below, only_if}
use Rattle.pd_core.specs.declared.view.Deeds.{Deeds}
use Rattle.pd_core.specs.Views.{over, no_deeds}

module _ {A : Type 0} (f : A → ℕ) where
  pub total-none : total f [] ≡ 0
  unfolding total
  total-none = refl

  pub total-one : (x : A) → total f (x ∷ []) ≡ f x
  unfolding total
  total-one x = omega arith

  pub total-append : (xs ys : List A) → total f (xs ++ ys) ≡ total f xs + total f ys
  unfolding total
  total-append [] ys = sym (zero-add (total f ys))
  total-append (x ∷ xs) ys = omega (arith, total-append xs ys)

  pub total_push : (xs : List A) (x : A) → total f (xs ++ x ∷ []) ≡ total f xs + f x
  total_push xs x = omega (arith, total-append xs (x ∷ []), total-one x)

  -- what all weigh after a change of one
  pub total-set : (xs : List A) (i : ℕ) (v w : A) → get_elem? xs i ≡ some v → total f (set xs i w) + f v ≡ total f xs + f w
  unfolding total
  total-set [] i v w e = absurd (some-ne-none v (sym e))
  total-set (x ∷ xs) zero v w e = let s : f x ≡ f v = ap f (some-injective x v e) in omega arith
  total-set (x ∷ xs) (suc i) v w e = omega (arith, total-set xs i v w e)

  pub total-at : (xs : List A) (i : ℕ) (v : A) → get_elem? xs i ≡ some v → f v ≤ total f xs
  unfolding total
  total-at [] i v e = absurd (some-ne-none v (sym e))
  total-at (x ∷ xs) zero v e = let s : f x ≡ f v = ap f (some-injective x v e) in omega arith
  total-at (x ∷ xs) (suc i) v e = omega (arith, total-at xs i v e)

pub same_here : (x y : ℕ) → x ≡ y → same x y ≡ 1
unfolding same
same_here x y e = grind (arith, nat_tests)

pub same_else : (x y : ℕ) → x ≢ y → same x y ≡ 0
unfolding same
same_else x y n = grind (arith, nat_tests)

pub same_cases : (x y : ℕ) → ((x ≡ y) × (same x y ≡ 1)) ⊎ ((x ≢ y) × (same x y ≡ 0))
same_cases x y = dite (ℕ_discrete x y) (λ e. inl (e, same_here x y e)) (λ n. inr (n, same_else x y n))

pub once_below_more : (x n : ℕ) → once_below x (n + 1) ≡ once_below x n + same x n
unfolding once_below same
once_below_more x n = grind (arith, nat_tests)

pub once_below_some : (x n : ℕ) → 0 < once_below x n → x < n
unfolding once_below
once_below_some x n h = grind (arith, nat_tests)

pub once_below_none : (x : ℕ) → once_below x 0 ≡ 0
unfolding once_below
once_below_none x = grind (arith, nat_tests)

pub times-none : (b : ℕ) → times b [] ≡ 0
unfolding times
times-none b = total-none (same b)

pub times-append : (b : ℕ) (xs ys : List ℕ) → times b (xs ++ ys) ≡ times b xs + times b ys
unfolding times
times-append b xs ys = total-append (same b) xs ys

pub times-one : (b x : ℕ) → times b (x ∷ []) ≡ same b x
unfolding times
times-one b x = total-one (same b) x

pub added_same : (f g : ℕ → ℕ) (n : ℕ) → ((j : ℕ) → j < n → f j ≡ g j) → added f n ≡ added g n
unfolding added
added_same f g zero h = refl
added_same f g (suc n) h = let here = h n (omega arith) in omega (arith, added_same f g n (λ j l. h j (omega arith)))

-- the sum after a change of one term
pub added_change : (f g : ℕ → ℕ) (n k : ℕ) → k < n → ((j : ℕ) → j < n → j ≢ k → g j ≡ f j) → added g n + f k ≡ added f n + g k
unfolding added
added_change f g zero k l h = absurd (omega arith)
added_change f g (suc n) k l h = dite (ℕ_discrete k n)
    (λ e. let rest : added g n ≡ added f n = added_same g f n (λ j m. h j (omega arith) (λ q. omega arith)) in let x : f k ≡ f n = ap f e in let y : g k ≡ g n = ap g e in omega arith)
    (λ ne. let here : g n ≡ f n = h n (omega arith) (λ q. ne (sym q)) in omega (arith, added_change f g n k (omega arith) (λ j m. h j (omega arith))))

pub added-at : (f : ℕ → ℕ) (n k : ℕ) → k < n → f k ≤ added f n
unfolding added
added-at f zero k l = absurd (omega arith)
added-at f (suc n) k l = dite (ℕ_discrete k n) (λ e. let x : f k ≡ f n = ap f e in omega arith) (λ ne. omega (arith, added-at f n k (omega arith)))

-- a list with one more, if the test passes
pub times_if : (c b : ℕ) (xs : List ℕ) (t : Bool) → times c (xs ++ only_if t b) ≡ times c xs + cond t (same c b) 0
times_if c b xs true = omega (arith, times-append c xs (b ∷ []), times-one c b)
times_if c b xs false = omega (arith, times-append c xs [], times-none c)

pub times_some : (c b : ℕ) (xs : List ℕ) (t : Bool) → 0 < times c (xs ++ only_if t b) → (0 < times c xs) ⊎ ((t ≡ true) × (c ≡ b))
times_some c b xs true h = ⊎_elim (λ (e : (c ≡ b) × (same c b ≡ 1)). inr (refl, e.0)) (λ (e : (c ≢ b) × (same c b ≡ 0)). inl (omega (arith, times_if c b xs true, e.1))) (same_cases c b)
times_some c b xs false h = inl (omega (arith, times_if c b xs false))

pub times_push_some : (c b : ℕ) (xs : List ℕ) → 0 < times c (xs ++ b ∷ []) → (0 < times c xs) ⊎ (c ≡ b)
times_push_some c b xs h = ⊎_elim (λ s. inl s) (λ e. inr e.1) (times_some c b xs true h)

pub times_grows : (c b : ℕ) (xs : List ℕ) (t : Bool) → times c xs ≤ times c (xs ++ only_if t b)
times_grows c b xs t = omega (arith, times_if c b xs t)

pub times_else : (c b : ℕ) (xs : List ℕ) (t : Bool) → c ≢ b → times c (xs ++ only_if t b) ≡ times c xs
times_else c b xs true ne = omega (arith, times_if c b xs true, same_else c b ne)
times_else c b xs false ne = omega (arith, times_if c b xs false)

pub times_here : (c b : ℕ) (xs : List ℕ) → c ≡ b → 0 < times c (xs ++ b ∷ [])
times_here c b xs e = omega (arith, times_if c b xs true, same_here c b e)

pub total_if : {A : Type 0} (f : A → ℕ) (xs : List A) (t : Bool) (x : A) → total f (xs ++ only_if t x) ≡ total f xs + cond t (f x) 0
total_if f xs true x = total_push f xs x
total_if f xs false x = omega (arith, total-append f xs [], total-none f)

pub cond_some : (t : Bool) (n : ℕ) → 0 < cond t n 0 → (t ≡ true) × (0 < n)
cond_some true n h = (refl, h)
cond_some false n h = absurd (omega arith)

pub same_some : (x y : ℕ) → 0 < same x y → x ≡ y
same_some x y h = ⊎_elim (λ (d : (x ≡ y) × (same x y ≡ 1)). d.0) (λ (d : (x ≢ y) × (same x y ≡ 0)). absurd (omega (arith, d.1))) (same_cases x y)

-- pairs of numbers
pub first_is-here : (x y n : ℕ) → x ≡ y → first_is x (y, n) ≡ 1
unfolding first_is
first_is-here x y n e = same_here x y e

pub first_is-else : (x y n : ℕ) → x ≢ y → first_is x (y, n) ≡ 0
unfolding first_is
first_is-else x y n ne = same_else x y ne

pub first_is-one : (x y n : ℕ) → first_is x (y, n) ≤ 1
unfolding first_is
first_is-one x y n = ⊎_elim (λ (d : (x ≡ y) × (same x y ≡ 1)). omega (arith, d.1)) (λ (d : (x ≢ y) × (same x y ≡ 0)). omega (arith, d.1)) (same_cases x y)

pub pair_is-here : (x y m n : ℕ) → x ≡ m → pair_is x y (m, n) ≡ same y n
unfolding pair_is
pair_is-here x y m n e = ap (λ k. k * same y n) (same_here x m e) ∙ omega arith

pub pair_is-else : (x y m n : ℕ) → x ≢ m → pair_is x y (m, n) ≡ 0
unfolding pair_is
pair_is-else x y m n ne = ap (λ k. k * same y n) (same_else x m ne) ∙ omega arith

pub pair_is-some : (x y m n : ℕ) → 0 < pair_is x y (m, n) → (x ≡ m) × (y ≡ n)
pair_is-some x y m n h = ⊎_elim
    (λ (d : (x ≡ m) × (same x m ≡ 1)). ⊎_elim (λ (e : (y ≡ n) × (same y n ≡ 1)). (d.0, e.0)) (λ (e : (y ≢ n) × (same y n ≡ 0)). absurd (omega (arith, pair_is-here x y m n d.0, e.1))) (same_cases y n))
    (λ (d : (x ≢ m) × (same x m ≡ 0)). absurd (omega (arith, pair_is-else x y m n d.0))) (same_cases x m)

-- what was done by one and by those that it took in
module _ (f : Deeds → ℕ) where
  pub over_own : (d e : Deeds) (ds : List Deeds) → over f e ds + f d ≡ over f d ds + f e
  unfolding over
  over_own d e ds = omega arith

  pub over_same : (d e : Deeds) (ds : List Deeds) → f e ≡ f d → over f e ds ≡ over f d ds
  over_same d e ds h = omega (arith, over_own d e ds)

  pub over_joined : (d e : Deeds) (ds es : List Deeds) → over f d (ds ++ e ∷ es) ≡ over f d ds + over f e es
  unfolding over total
  over_joined d e ds es = omega (arith, total-append f ds (e ∷ es))

  pub over_none : f no_deeds ≡ 0 → over f no_deeds [] ≡ 0
  unfolding over total
  over_none h = omega arith
