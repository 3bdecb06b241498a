-- Paths are compared from their first node on.
use Rattle.std.proofs.Common.{◌≡◌, ℕ, ◌+◌, ◌<◌, ◌≤◌, Bool, true, false, cond, List, [], ◌∷◌, length, drop, refl, sym, ap, ◌∙◌, arith, ⊎_elim}
use Rattle.std.specs.Prelude.{nat_lt, ◌==◌, ◌&&◌, ◌||◌, slice_index_or}
use Rattle.std.specs.Ordering.{is_lt, nat_cmp}
use Rattle.std.specs.declared.cmp.Ordering.TheVariants.{Less, Equal, Greater}
use Rattle.std.proofs.lemmas.Bool.{cases_Bool}
use Rattle.std.proofs.lemmas.Bool.Decides.{nat_tests}
use Rattle.std.proofs.lemmas.List.{drop_more, drop_all}
use Rattle.pd_paths.specs.Tree.{is_before}

lt_is : (x y : ℕ) → is_lt (nat_cmp x y) ≡ nat_lt x y
lt_is x y = by (nat_lt x y) (x == y)
  where
    by : (b e : Bool) → is_lt (cond b Less (cond e Equal Greater)) ≡ b
    by true e = refl
    by false true = refl
    by false false = refl

differs : (x y : ℕ) (r : Bool) → (x ≡ y → ⊥) → (nat_lt x y || ((x == y) && r)) ≡ nat_lt x y
differs x y r h = by (nat_lt x y) (x == y) apart
  where
    apart : (x == y) ≡ false
    apart = ⊎_elim (λ (e : (x == y) ≡ true). absurd (h (same e))) (λ (e : (x == y) ≡ false). e) (cases_Bool (x == y))
      where
        same : (x == y) ≡ true → x ≡ y
        same e = grind (arith, nat_tests, e)

    by : (b e : Bool) → e ≡ false → (b || (e && r)) ≡ b
    by true e f = refl
    by false true f = cc
    by false false f = refl

agrees : (x y : ℕ) (r : Bool) → x ≡ y → (nat_lt x y || ((x == y) && r)) ≡ r
agrees x y r h = by (nat_lt x y) (x == y) not_less same
  where
    not_less : nat_lt x y ≡ false
    not_less = grind (arith, nat_tests, h)

    same : (x == y) ≡ true
    same = grind (arith, nat_tests, h)

    by : (b e : Bool) → b ≡ false → e ≡ true → (b || (e && r)) ≡ r
    by true e f g = cc
    by false true f g = refl
    by false false f g = cc

-- at the first node that differs
pub at_difference : (a b : List ℕ) (i x y : ℕ) → i < length a → i < length b → x ≡ slice_index_or a i x → y ≡ slice_index_or b i y → (x ≡ y → ⊥)
    → is_before a b ≡ is_before (drop i a) (drop i b) → is_lt (nat_cmp x y) ≡ is_before a b
at_difference a b i x y h k e f apart same =
    let left : drop i a ≡ x ∷ drop (i + 1) a = drop_more a i x h ∙ ap (λ z. z ∷ drop (i + 1) a) (sym e) in
    let right : drop i b ≡ y ∷ drop (i + 1) b = drop_more b i y k ∙ ap (λ z. z ∷ drop (i + 1) b) (sym f) in
    lt_is x y ∙ sym (differs x y (is_before (drop (i + 1) a) (drop (i + 1) b)) apart)
    ∙ sym (ap (λ q. is_before q (drop i b)) left ∙ ap (is_before (x ∷ drop (i + 1) a)) right) ∙ sym same

-- at a node that is the same
pub at_same : (a b : List ℕ) (i x y : ℕ) → i < length a → i < length b → x ≡ slice_index_or a i x → y ≡ slice_index_or b i y → x ≡ y
    → is_before a b ≡ is_before (drop i a) (drop i b) → is_before a b ≡ is_before (drop (i + 1) a) (drop (i + 1) b)
at_same a b i x y h k e f agree same =
    let left : drop i a ≡ x ∷ drop (i + 1) a = drop_more a i x h ∙ ap (λ z. z ∷ drop (i + 1) a) (sym e) in
    let right : drop i b ≡ y ∷ drop (i + 1) b = drop_more b i y k ∙ ap (λ z. z ∷ drop (i + 1) b) (sym f) in
    same ∙ ap (λ q. is_before q (drop i b)) left ∙ ap (is_before (x ∷ drop (i + 1) a)) right ∙ agrees x y (is_before (drop (i + 1) a) (drop (i + 1) b)) agree

by_length : (a b : List ℕ) (i : ℕ) → i ≤ length a → i ≤ length b → (i < length a → i < length b → ⊥) → is_before (drop i a) (drop i b) ≡ nat_lt (length a) (length b)
by_length a b i l m over = ⊎_elim
    (λ (h : nat_lt i (length a) ≡ true).
    let longer : i < length a = less i (length a) h in
    let first = drop_more a i 0 longer in
    let none : drop i b ≡ [] = drop_all i b (up longer) in
    ap (λ q. is_before q (drop i b)) first ∙ ap (is_before (slice_index_or a i 0 ∷ drop (i + 1) a)) none ∙ sym (not_less (length a) (length b) (omega (arith, longer, m, up longer))))
    (λ (h : nat_lt i (length a) ≡ false).
    let none : drop i a ≡ [] = drop_all i a (not_below i (length a) h) in
    ap (λ q. is_before q (drop i b)) none ∙ ⊎_elim
    (λ (k : nat_lt i (length b) ≡ true).
    let longer : i < length b = less i (length b) k in
    ap (is_before []) (drop_more b i 0 longer) ∙ sym (is_less (length a) (length b) (let g = not_below i (length a) h in omega (arith, g, longer))))
    (λ (k : nat_lt i (length b) ≡ false).
    let g = not_below i (length b) k in
    ap (is_before []) (drop_all i b g) ∙ sym (not_less (length a) (length b) (omega (arith, g, l))))
    (cases_Bool (nat_lt i (length b))))
    (cases_Bool (nat_lt i (length a)))
  where
    less : (x y : ℕ) → nat_lt x y ≡ true → x < y
    less x y h = grind (arith, nat_tests, h)

    not_below : (x y : ℕ) → nat_lt x y ≡ false → y ≤ x
    not_below x y h = grind (arith, nat_tests, h)

    not_less : (x y : ℕ) → y ≤ x → nat_lt x y ≡ false
    not_less x y h = grind (arith, nat_tests, h)

    is_less : (x y : ℕ) → x < y → nat_lt x y ≡ true
    is_less x y h = grind (arith, nat_tests, h)

    up : i < length a → length b ≤ i
    up h = ⊎_elim (λ (e : nat_lt i (length b) ≡ true). absurd (over h (less i (length b) e))) (λ (e : nat_lt i (length b) ≡ false). not_below i (length b) e) (cases_Bool (nat_lt i (length b)))

-- where one path has ended
pub at_end : (a b : List ℕ) (i : ℕ) → i ≤ length a → i ≤ length b → (i < length a → i < length b → ⊥) → is_before a b ≡ is_before (drop i a) (drop i b) → is_lt (nat_cmp (length a) (length b)) ≡ is_before a b
at_end a b i l m over same = lt_is (length a) (length b) ∙ sym (by_length a b i l m over) ∙ sym same
