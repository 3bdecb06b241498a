-- A stretch of a list between two places at which tests turn.
use Rattle.std.proofs.Common.{◌≡◌, ℕ, ◌-◌, zero, suc, List, [], ◌∷◌, length, take, drop, Bool, true, false, cond, not, ◌&&◌, refl, ap, sym, ◌∙◌, arith}
use Rattle.std.specs.List.{filter, AllWithin}
use Rattle.std.specs.List.Sorted.{IsPartitionPoint}

front_tail : {X : Type 0} (P : X → Type 0) (x : X) (xs : List X) (s : ℕ) → AllWithin P (x ∷ xs) 0 (suc s) → AllWithin P xs 0 s
front_tail P x xs s h k d low high = h (suc k) d (omega arith) (omega (arith, high))

back_tail : {X : Type 0} (P : X → Type 0) (x : X) (xs : List X) (s : ℕ) → AllWithin P (x ∷ xs) (suc s) (length (x ∷ xs)) → AllWithin P xs s (length xs)
back_tail P x xs s h k d low high = h (suc k) d (omega (arith, low)) (omega (arith, high))

whole_tail : {X : Type 0} (P : X → Type 0) (x : X) (xs : List X) → AllWithin P (x ∷ xs) 0 (length (x ∷ xs)) → AllWithin P xs 0 (length xs)
whole_tail P x xs h k d low high = h (suc k) d (omega arith) (omega (arith, high))

-- whether the test of the second kind holds and that of the first does not
abbrev pub both : {X : Type 0} → (X → Bool) → (X → Bool) → X → Bool
both p q x = not (p x) && q x

skips : {X : Type 0} (p q : X → Bool) (x : X) (xs : List X) → p x ≡ true → filter (both p q) (x ∷ xs) ≡ filter (both p q) xs
skips p q x xs passes = ap (λ b. cond (not b && q x) (x ∷ filter (both p q) xs) (filter (both p q) xs)) passes

drops : {X : Type 0} (p q : X → Bool) (x : X) (xs : List X) → p x ≡ false → q x ≡ false → filter (both p q) (x ∷ xs) ≡ filter (both p q) xs
drops p q x xs fails other =
    ap (λ b. cond (not b && q x) (x ∷ filter (both p q) xs) (filter (both p q) xs)) fails
    ∙ ap (λ b. cond b (x ∷ filter (both p q) xs) (filter (both p q) xs)) other

keeps : {X : Type 0} (p q : X → Bool) (x : X) (xs : List X) → p x ≡ false → q x ≡ true → filter (both p q) (x ∷ xs) ≡ x ∷ filter (both p q) xs
keeps p q x xs fails passes =
    ap (λ b. cond (not b && q x) (x ∷ filter (both p q) xs) (filter (both p q) xs)) fails
    ∙ ap (λ b. cond b (x ∷ filter (both p q) xs) (filter (both p q) xs)) passes

drop-nil : {X : Type 0} (n : ℕ) → drop {A = X} n [] ≡ []
drop-nil zero = refl
drop-nil (suc n) = refl

take-nil : {X : Type 0} (n : ℕ) → take {A = X} n [] ≡ []
take-nil zero = refl
take-nil (suc n) = refl

-- p holds up to s and q up to e: so those where q holds and p does not stand from s to e
pub cut : {X : Type 0} (p q : X → Bool) (xs : List X) (s e : ℕ)
    → IsPartitionPoint (λ x. p x ≡ true) (λ x. p x ≡ false) xs s
    → IsPartitionPoint (λ x. q x ≡ true) (λ x. q x ≡ false) xs e
    → filter (both p q) xs ≡ take (e - s) (drop s xs)
cut p q [] s e starts ends = sym (ap (take (e - s)) (drop-nil s) ∙ take-nil (e - s))
cut p q (x ∷ xs) zero zero starts ends =
    drops p q x xs (starts.1 0 x (omega arith) (omega arith)) (ends.1 0 x (omega arith) (omega arith))
    ∙ cut p q xs zero zero ((λ k d low high. absurd (omega (arith, high))), whole_tail (λ y. p y ≡ false) x xs starts.1) ((λ k d low high. absurd (omega (arith, high))), whole_tail (λ y. q y ≡ false) x xs ends.1)
cut p q (x ∷ xs) zero (suc e) starts ends =
    let rest = cut p q xs zero e ((λ k d low high. absurd (omega (arith, high))), whole_tail (λ y. p y ≡ false) x xs starts.1) (front_tail (λ y. q y ≡ true) x xs e ends.0, back_tail (λ y. q y ≡ false) x xs e ends.1) in
    let less : e - 0 ≡ e = omega arith in
    let more : suc e ≡ suc e - 0 = omega arith in
    keeps p q x xs (starts.1 0 x (omega arith) (omega arith)) (ends.0 0 x (omega arith) (omega arith))
    ∙ ap (λ ys. x ∷ ys) (rest ∙ ap (λ n. take n xs) less)
    ∙ ap (λ n. take n (x ∷ xs)) more
cut p q (x ∷ xs) (suc s) zero starts ends =
    let none : zero - s ≡ zero - suc s = omega arith in
    skips p q x xs (starts.0 0 x (omega arith) (omega arith))
    ∙ cut p q xs s zero (front_tail (λ y. p y ≡ true) x xs s starts.0, back_tail (λ y. p y ≡ false) x xs s starts.1) ((λ k d low high. absurd (omega (arith, high))), whole_tail (λ y. q y ≡ false) x xs ends.1)
    ∙ ap (λ n. take n (drop s xs)) none
cut p q (x ∷ xs) (suc s) (suc e) starts ends =
    let same : e - s ≡ suc e - suc s = omega arith in
    skips p q x xs (starts.0 0 x (omega arith) (omega arith))
    ∙ cut p q xs s e (front_tail (λ y. p y ≡ true) x xs s starts.0, back_tail (λ y. p y ≡ false) x xs s starts.1) (front_tail (λ y. q y ≡ true) x xs e ends.0, back_tail (λ y. q y ≡ false) x xs e ends.1)
    ∙ ap (λ n. take n (drop s xs)) same
