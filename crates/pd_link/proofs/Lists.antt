-- Lists that are read from the front, and stretches of a list that grows.
use Rattle.std.proofs.Common.{◌≡◌, refl, sym, ◌∙◌, ap, ℕ, zero, suc, ◌+◌, ◌<◌, ◌≤◌, List, [], ◌∷◌, ◌++◌, length, take, drop, arith, add-one, get_or, ◌-◌, drop-cons}

-- what is dropped next
drop-next_suc : {A : Type 0} (k : ℕ) (xs : List A) (x : A) (rest : List A) → drop k xs ≡ x ∷ rest → drop (suc k) xs ≡ rest
drop-next_suc zero [] x rest e = cc
drop-next_suc zero (y ∷ ys) x rest e = cc
drop-next_suc (suc k) [] x rest e = cc
drop-next_suc (suc k) (y ∷ ys) x rest e = drop-next_suc k ys x rest e

take-next_suc : {A : Type 0} (k : ℕ) (xs : List A) (x : A) (rest : List A) → drop k xs ≡ x ∷ rest → take (suc k) xs ≡ take k xs ++ x ∷ []
take-next_suc zero [] x rest e = cc
take-next_suc zero (y ∷ ys) x rest e = cc
take-next_suc (suc k) [] x rest e = cc
take-next_suc (suc k) (y ∷ ys) x rest e = ap (λ zs. y ∷ zs) (take-next_suc k ys x rest e)

pub drop-next : {A : Type 0} (k : ℕ) (xs : List A) (x : A) (rest : List A) → drop k xs ≡ x ∷ rest → drop (k + 1) xs ≡ rest
drop-next k xs x rest e = rw add-one (drop-next_suc k xs x rest e)

pub take-next : {A : Type 0} (k : ℕ) (xs : List A) (x : A) (rest : List A) → drop k xs ≡ x ∷ rest → take (k + 1) xs ≡ take k xs ++ x ∷ []
take-next k xs x rest e = rw add-one (take-next_suc k xs x rest e)

-- a stretch that ends within a list is the same when the list grows
pub stretch-grow : {A : Type 0} (from len : ℕ) (xs ys : List A) → from + len ≤ length xs → take len (drop from (xs ++ ys)) ≡ take len (drop from xs)
stretch-grow zero zero xs ys h = refl
stretch-grow zero (suc len) [] ys h = absurd (omega arith)
stretch-grow zero (suc len) (x ∷ xs) ys h = ap (λ zs. x ∷ zs) (stretch-grow zero len xs ys (omega arith))
stretch-grow (suc from) len [] ys h = absurd (omega arith)
stretch-grow (suc from) len (x ∷ xs) ys h = stretch-grow from len xs ys (omega arith)

-- what stands behind the end
pub drop-end : {A : Type 0} (xs ys : List A) → drop (length xs) (xs ++ ys) ≡ ys
drop-end [] ys = refl
drop-end (x ∷ xs) ys = drop-end xs ys

pub take-twice : {A : Type 0} (n : ℕ) (xs : List A) → take n (take n xs) ≡ take n xs
take-twice zero xs = refl
take-twice (suc n) [] = refl
take-twice (suc n) (x ∷ xs) = ap (λ zs. x ∷ zs) (take-twice n xs)

-- the list from a place on, read from its end
pub drop-before : {A : Type 0} (n : ℕ) (xs : List A) (x : A) → 0 < n → n ≤ length xs → x ≡ get_or xs (n - 1) x → drop (n - 1) xs ≡ x ∷ drop n xs
drop-before zero xs x h k e = absurd (omega arith)
drop-before (suc n) xs x h k e =
    let back : suc n - 1 ≡ n = omega arith in
    let inside : n < length xs = omega arith in
    rw back (drop-cons xs n x inside ∙ ap (λ y. y ∷ drop (suc n) xs) (sym (rw back at e)))
