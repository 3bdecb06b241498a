-- Merged logs are their entries in the order of places.
use Rattle.std.proofs.Common.{◌≡◌, ◌≢◌, ◌⊎◌, inl, inr, ⊎_elim, ◌∙◌, ℕ, suc, ◌+◌, ◌<◌, ◌≤◌, ◌==◌, nat_le, Bool, true, false, List, [], ◌∷◌, length, refl, sym, ap, arith, subst, count_by, if◌then◌else◌}
use Rattle.std.specs.List.{AllByRecursion}
use Rattle.std.proofs.lemmas.List.Elements.{All-from_recursion, recursion_from_All}
use Rattle.std.proofs.lemmas.List.Sums.{sum_by-cons}
use Rattle.std.proofs.lemmas.List.Sorted.{All-permutation, IsPermutation-sym}
use Rattle.pd_log.specs.declared.Entry.{Entry}
use Rattle.pd_log.specs.Pairing.{entry_at}
use Rattle.pd_log.specs.Merging.{PlacesDiffer, IsMerged}
use Rattle.pd_report.specs.Logs.{put, by_place}

-- each of these has a greater place
abbrev IsBelow : Entry → List Entry → Type 0
IsBelow x ys = AllByRecursion (λ y. x.place < y.place) ys

-- none of these has the same place
abbrev IsApart : Entry → List Entry → Type 0
IsApart x ys = AllByRecursion (λ y. x.place ≢ y.place) ys

abbrev Rises : List Entry → Type 0
Rises [] = Unit {0}
Rises (x ∷ xs) = IsBelow x xs × Rises xs

abbrev AreApart : List Entry → Type 0
AreApart [] = Unit {0}
AreApart (x ∷ xs) = IsApart x xs × AreApart xs

abbrev IsIn : Entry → List Entry → Type 0
IsIn z [] = ⊥
IsIn z (x ∷ xs) = (z ≡ x) ⊎ IsIn z xs

weaker : (P Q : Entry → Type 0) (xs : List Entry) → ((x : Entry) → P x → Q x) → AllByRecursion P xs → AllByRecursion Q xs
weaker P Q [] f h = tt
weaker P Q (x ∷ xs) f h = (f x h.0, weaker P Q xs f h.1)

-- ---- what was put in the order of places

either : (P : List Entry → Type 0) (b : Bool) (xs ys : List Entry) → P xs → P ys → P (if b then xs else ys)
either P true xs ys h g = h
either P false xs ys h g = g

put_all : (P : Entry → Type 0) (e : Entry) (xs : List Entry) → P e → AllByRecursion P xs → AllByRecursion P (put e xs)
put_all P e [] p h = (p, tt)
put_all P e (x ∷ xs) p h = either (AllByRecursion P) (nat_le e.place x.place) (e ∷ x ∷ xs) (x ∷ put e xs) (p, h) (h.0, put_all P e xs p h.1)

by_place_all : (P : Entry → Type 0) (xs : List Entry) → AllByRecursion P xs → AllByRecursion P (by_place xs)
by_place_all P [] h = tt
by_place_all P (x ∷ xs) h = put_all P x (by_place xs) h.0 (by_place_all P xs h.1)

higher : (x y : Entry) (zs : List Entry) → x.place < y.place → IsBelow y zs → IsBelow x zs
higher x y zs lt h = weaker (λ z. y.place < z.place) (λ z. x.place < z.place) zs (λ z more. omega (arith, lt, more)) h

put_step : (b : Bool) (e x : Entry) (xs : List Entry) → nat_le e.place x.place ≡ b → IsApart e (x ∷ xs) → Rises (x ∷ xs) → Rises (put e xs) → Rises (if b then e ∷ x ∷ xs else x ∷ put e xs)
put_step true e x xs is apart h rest =
    let other : e.place ≢ x.place = apart.0 in
    let lt : e.place < x.place = grind (arith, is, other) in ((lt, higher e x xs lt h.0), h)
put_step false e x xs is apart h rest =
    let lt : x.place < e.place = grind (arith, is) in (put_all (λ z. x.place < z.place) e xs lt h.0, rest)

put_rises : (e : Entry) (xs : List Entry) → IsApart e xs → Rises xs → Rises (put e xs)
put_rises e [] apart h = (tt, tt)
put_rises e (x ∷ xs) apart h = put_step (nat_le e.place x.place) e x xs refl apart h (put_rises e xs apart.1 h.1)

by_place_rises : (xs : List Entry) → AreApart xs → Rises (by_place xs)
by_place_rises [] h = tt
by_place_rises (x ∷ xs) h = put_rises x (by_place xs) (by_place_all (λ y. x.place ≢ y.place) xs h.0) (by_place_rises xs h.1)

in_put_self : (e : Entry) (xs : List Entry) → IsIn e (put e xs)
in_put_self e [] = inl refl
in_put_self e (x ∷ xs) = either (IsIn e) (nat_le e.place x.place) (e ∷ x ∷ xs) (x ∷ put e xs) (inl refl) (inr (in_put_self e xs))

in_put : (z e : Entry) (xs : List Entry) → IsIn z xs → IsIn z (put e xs)
in_put z e [] h = absurd h
in_put z e (x ∷ xs) h = either (IsIn z) (nat_le e.place x.place) (e ∷ x ∷ xs) (x ∷ put e xs) (inr h) (⊎_elim (λ (same : z ≡ x). inl same) (λ (rest : IsIn z xs). inr (in_put z e xs rest)) h)

all_in : (xs : List Entry) → AllByRecursion (λ z. IsIn z (by_place xs)) xs
all_in [] = tt
all_in (x ∷ xs) = (in_put_self x (by_place xs), weaker (λ z. IsIn z (by_place xs)) (λ z. IsIn z (put x (by_place xs))) xs (λ z h. in_put z x (by_place xs) h) (all_in xs))

-- ---- rising lists with the same entries

self : (xs : List Entry) → AllByRecursion (λ z. IsIn z xs) xs
self [] = tt
self (x ∷ xs) = (inl refl, weaker (λ z. IsIn z xs) (λ z. IsIn z (x ∷ xs)) xs (λ z h. inr h) (self xs))

above : (x z : Entry) (ys : List Entry) → IsBelow x ys → IsIn z ys → x.place < z.place
above x z [] h is = absurd is
above x z (y ∷ ys) h is = ⊎_elim (λ (same : z ≡ y). let place = ap (λ (e : Entry). e.place) same in let lt = h.0 in omega (arith, place, lt)) (λ (rest : IsIn z ys). above x z ys h.1 rest) is

heads : (x y : Entry) (xs ys : List Entry) → IsBelow x xs → IsBelow y ys → IsIn x (y ∷ ys) → IsIn y (x ∷ xs) → x ≡ y
heads x y xs ys bx by ix iy =
    ⊎_elim (λ (same : x ≡ y). same) (λ (later : IsIn x ys). ⊎_elim (λ (same : y ≡ x). sym same) (λ (after : IsIn y xs).
    let one = above y x ys by later in let two = above x y xs bx after in absurd (omega (arith, one, two))) iy) ix

tails : (x y : Entry) (zs ys : List Entry) → x ≡ y → IsBelow x zs → AllByRecursion (λ z. IsIn z (y ∷ ys)) zs → AllByRecursion (λ z. IsIn z ys) zs
tails x y [] ys same below h = tt
tails x y (z ∷ zs) ys same below h = (
  ⊎_elim (λ (first : z ≡ y). let place = ap (λ (e : Entry). e.place) (first ∙ sym same) in let lt = below.0 in absurd (omega (arith, place, lt))) (λ (rest : IsIn z ys). rest) h.0,
  tails x y zs ys same below.1 h.1,
)

same_lists : (xs ys : List Entry) → Rises xs → Rises ys → AllByRecursion (λ z. IsIn z ys) xs → AllByRecursion (λ z. IsIn z xs) ys → xs ≡ ys
same_lists [] [] rx ry ix iy = refl
same_lists [] (y ∷ ys) rx ry ix iy = absurd iy.0
same_lists (x ∷ xs) [] rx ry ix iy = absurd ix.0
same_lists (x ∷ xs) (y ∷ ys) rx ry ix iy =
    let first = heads x y xs ys rx.0 ry.0 ix.0 iy.0 in
    let rest = same_lists xs ys rx.1 ry.1 (tails x y xs ys first rx.0 ix.1) (tails y x ys xs (sym first) ry.0 iy.1) in
    ap (λ z. z ∷ xs) first ∙ ap (λ zs. y ∷ zs) rest

-- ---- from what a merge promises

-- each is below the next one
abbrev Climbs : List Entry → Type 0
Climbs xs = (i : ℕ) → i + 1 < length xs → (entry_at xs i).place < (entry_at xs (i + 1)).place

climbs_behind : (x : Entry) (xs : List Entry) → Climbs (x ∷ xs) → Climbs xs
climbs_behind x xs h i below = subst (λ k. (entry_at xs i).place < (entry_at (x ∷ xs) k).place) (same i) (h (suc i) (omega (arith, below)))
  where
    same : (i : ℕ) → suc i + 1 ≡ suc (i + 1)
    same i = omega arith

rises_from : (xs : List Entry) → Climbs xs → Rises xs
rises_from [] h = tt
rises_from (x ∷ []) h = (tt, tt)
rises_from (x ∷ y ∷ ys) h =
    let lt : x.place < y.place = h 0 (omega arith) in
    let rest : Rises (y ∷ ys) = rises_from (y ∷ ys) (climbs_behind x (y ∷ ys) h) in
    ((lt, higher x y ys lt rest.0), rest)

-- how many have the place
abbrev having : ℕ → List Entry → ℕ
having p xs = count_by (λ (e : Entry). e.place == p) xs

having_more : (p : ℕ) (x : Entry) (xs : List Entry) → having p (x ∷ xs) ≡ (if x.place == p then 1 else 0) + having p xs
having_more p x xs = sum_by-cons (λ (e : Entry). if e.place == p then 1 else 0) x xs

none_step : (b : Bool) (p : ℕ) (x : Entry) (n : ℕ) → (x.place == p) ≡ b → (if b then 1 else 0) + n ≤ 0 → p ≢ x.place
none_step true p x n is few = absurd (omega (arith, few))
none_step false p x n is few = grind (arith, is)

none : (p : ℕ) (xs : List Entry) → having p xs ≤ 0 → AllByRecursion (λ x. p ≢ x.place) xs
none p [] few = tt
none p (x ∷ xs) few =
    let more = having_more p x xs in
    (none_step (x.place == p) p x (having p xs) refl (omega (arith, few, more)), none p xs (omega (arith, few, more)))

one_less : (x : Entry) (n : ℕ) → (if x.place == x.place then 1 else 0) + n ≤ 1 → n ≤ 0
one_less x n few = let same : (x.place == x.place) ≡ true = grind arith in let one = ap (λ b. (if b then 1 else 0) + n) same in omega (arith, one, few)

apart : (xs : List Entry) → PlacesDiffer xs → AreApart xs
apart [] h = tt
apart (x ∷ xs) h = (
  let more = having_more x.place x xs in let few = h x.place in none x.place xs (one_less x (having x.place xs) (omega (arith, few, more))),
  apart xs (λ p. let more = having_more p x xs in let few = h p in omega (arith, few, more)),
)

-- the merged log is the entries by place
pub merged_is : (xs ys : List Entry) → PlacesDiffer xs → IsMerged xs ys → ys ≡ by_place xs
merged_is xs ys differ merged =
    same_lists ys (by_place xs) (rises_from ys merged.rising) (by_place_rises xs (apart xs differ))
    (recursion_from_All (λ z. IsIn z (by_place xs)) ys (All-permutation (λ z. IsIn z (by_place xs)) xs ys merged.same (All-from_recursion (λ z. IsIn z (by_place xs)) xs (all_in xs))))
    (by_place_all (λ z. IsIn z ys) xs (recursion_from_All (λ z. IsIn z ys) xs (All-permutation (λ z. IsIn z ys) ys xs (IsPermutation-sym xs ys merged.same) (All-from_recursion (λ z. IsIn z ys) ys (self ys)))))
