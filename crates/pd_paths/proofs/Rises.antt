-- The order of paths, and lists of paths in order.
use Rattle.std.proofs.Common.{◌≡◌, ℕ, ◌<◌, Bool, true, false, ◌&&◌, ◌||◌, List, [], ◌∷◌, refl, sym, ap, subst, ◌∙◌, arith, ⊎_elim}
use Rattle.std.specs.Prelude.{bytes_eq, nat_lt, ◌==◌}
use Rattle.std.specs.List.{list_all, AllByRecursion}
use Rattle.std.proofs.lemmas.Bool.{cases_Bool, and_parts, and_from, or_cases, or_left, or_right}
use Rattle.std.proofs.lemmas.Bool.Decides.{nat_tests}
use Rattle.std.proofs.lemmas.Slice.Eq.{bytes_eq-Decides}
use Rattle.pd_paths.specs.declared.PathCount.{PathCount}
use Rattle.pd_paths.specs.Tree.{is_before, paths_rise, has_path}
use Rattle.pd_paths.specs.Tally.{weigh, amount}

-- ---- the order of paths

first_of : (x y : ℕ) → (nat_lt x y ≡ true) → (xs ys : List ℕ) → is_before (x ∷ xs) (y ∷ ys) ≡ true
first_of x y h xs ys = or_left (nat_lt x y) _ h

same_first : (x y : ℕ) (xs ys : List ℕ) → x ≡ y → is_before xs ys ≡ true → is_before (x ∷ xs) (y ∷ ys) ≡ true
same_first x y xs ys e h = or_right (nat_lt x y) _ (and_from _ _ (self x y e) h)
  where
    self : (x y : ℕ) → x ≡ y → (x == y) ≡ true
    self x y e = grind (arith, nat_tests, e)

-- what stands before: by the first number, or by the rest
before_cases : {P : Type 0} (x y : ℕ) (xs ys : List ℕ) → is_before (x ∷ xs) (y ∷ ys) ≡ true → (x < y → P) → (x ≡ y → is_before xs ys ≡ true → P) → P
before_cases x y xs ys h f g = ⊎_elim
    (λ (l : nat_lt x y ≡ true). f (less x y l))
    (λ (r : ((x == y) && is_before xs ys) ≡ true). let parts = and_parts (x == y) (is_before xs ys) r in g (same x y parts.0) parts.1)
    (or_cases (nat_lt x y) ((x == y) && is_before xs ys) h)
  where
    less : (x y : ℕ) → nat_lt x y ≡ true → x < y
    less x y l = grind (arith, nat_tests, l)

    same : (x y : ℕ) → (x == y) ≡ true → x ≡ y
    same x y e = grind (arith, nat_tests, e)

lt_test : (x y : ℕ) → x < y → nat_lt x y ≡ true
lt_test x y h = grind (arith, nat_tests, h)

pub before_trans : (a b c : List ℕ) → is_before a b ≡ true → is_before b c ≡ true → is_before a c ≡ true
before_trans [] [] c h k = cc
before_trans [] (y ∷ ys) [] h k = cc
before_trans [] (y ∷ ys) (z ∷ zs) h k = refl
before_trans (x ∷ xs) [] c h k = cc
before_trans (x ∷ xs) (y ∷ ys) [] h k = cc
before_trans (x ∷ xs) (y ∷ ys) (z ∷ zs) h k =
    before_cases x y xs ys h
    (λ l. before_cases y z ys zs k
    (λ m. first_of x z (lt_test x z (omega (arith, l, m))) xs zs)
    (λ e r. first_of x z (lt_test x z (omega (arith, l, e))) xs zs))
    (λ e r. before_cases y z ys zs k
    (λ m. first_of x z (lt_test x z (omega (arith, e, m))) xs zs)
    (λ f q. same_first x z xs zs (e ∙ f) (before_trans xs ys zs r q)))

pub before_irrefl : (a : List ℕ) → is_before a a ≡ true → ⊥
before_irrefl [] h = cc
before_irrefl (x ∷ xs) h = before_cases x x xs xs h (λ l. omega (arith, l)) (λ e r. before_irrefl xs r)

-- of two different paths one stands before the other
pub before_total : (a b : List ℕ) → bytes_eq b a ≡ false → is_before a b ≡ false → is_before b a ≡ true
before_total a b differ h = ⊎_elim (λ (e : is_before b a ≡ true). e) (λ (e : is_before b a ≡ false). absurd (cc (differ, (bytes_eq-Decides b a).1 (neither a b h e)))) (cases_Bool (is_before b a))
  where
    neither : (a b : List ℕ) → is_before a b ≡ false → is_before b a ≡ false → b ≡ a
    neither [] [] h k = refl
    neither [] (y ∷ ys) h k = cc
    neither (x ∷ xs) [] h k = cc
    neither (x ∷ xs) (y ∷ ys) h k =
        let a = or_none (nat_lt x y) ((x == y) && is_before xs ys) h in
        let b = or_none (nat_lt y x) ((y == x) && is_before ys xs) k in
        let e : x ≡ y = both x y a.0 b.0 in
        let f : is_before xs ys ≡ false = and_false (x == y) (is_before xs ys) (self x y e) a.1 in
        let g : is_before ys xs ≡ false = and_false (y == x) (is_before ys xs) (self y x (sym e)) b.1 in
        cc (e, neither xs ys f g)
      where
        or_none : (a b : Bool) → (a || b) ≡ false → (a ≡ false) × (b ≡ false)
        or_none true b h = cc
        or_none false b h = (refl, h)

        and_false : (a b : Bool) → a ≡ true → (a && b) ≡ false → b ≡ false
        and_false true b e h = h
        and_false false b e h = cc

        both : (x y : ℕ) → nat_lt x y ≡ false → nat_lt y x ≡ false → x ≡ y
        both x y h k = grind (arith, nat_tests, h, k)

        self : (x y : ℕ) → x ≡ y → (x == y) ≡ true
        self x y e = grind (arith, nat_tests, e)

-- ---- which paths are there

pub path_self : (q : List ℕ) → bytes_eq q q ≡ true
path_self q = (bytes_eq-Decides q q).1 refl

-- ---- each path stands once

module _ (number : PathCount → ℕ) where
  none_of : (q : List ℕ) (xs : List PathCount) → list_all (λ y. is_before q y.path) xs ≡ true → amount number (λ r. bytes_eq r q) xs ≡ 0
  none_of q [] h = refl
  none_of q (y ∷ ys) h =
      let parts = and_parts (is_before q y.path) (list_all (λ y. is_before q y.path) ys) h in
      let here : weigh (bytes_eq y.path q) (number y) ≡ 0 = ⊎_elim
      (λ (e : bytes_eq y.path q ≡ true). absurd (before_irrefl q (subst (λ z. is_before q z ≡ true) ((bytes_eq-Decides y.path q).0 e) parts.0)))
      (λ (e : bytes_eq y.path q ≡ false). ap (λ b. weigh b (number y)) e)
      (cases_Bool (bytes_eq y.path q)) in
      omega (arith, here, none_of q ys parts.1)

  lifted : (x : PathCount) (zs ys : List PathCount) → list_all (λ y. is_before x.path y.path) ys ≡ true
      → AllByRecursion (λ y. amount number (λ r. bytes_eq r y.path) zs ≡ number y) ys → AllByRecursion (λ y. amount number (λ r. bytes_eq r y.path) (x ∷ zs) ≡ number y) ys
  lifted x zs [] h k = tt
  lifted x zs (y ∷ ys) h k =
      let parts = and_parts (is_before x.path y.path) (list_all (λ y. is_before x.path y.path) ys) h in
      let here : weigh (bytes_eq x.path y.path) (number x) ≡ 0 = ⊎_elim
      (λ (e : bytes_eq x.path y.path ≡ true). absurd (before_irrefl y.path (subst (λ z. is_before z y.path ≡ true) ((bytes_eq-Decides x.path y.path).0 e) parts.0)))
      (λ (e : bytes_eq x.path y.path ≡ false). ap (λ b. weigh b (number x)) e)
      (cases_Bool (bytes_eq x.path y.path)) in
      (omega (arith, here, k.0), lifted x zs ys parts.1 k.1)

  pub each_once : (tree : List PathCount) → paths_rise tree ≡ true → AllByRecursion (λ y. amount number (λ r. bytes_eq r y.path) tree ≡ number y) tree
  each_once [] h = tt
  each_once (x ∷ xs) h =
      let parts = and_parts (list_all (λ y. is_before x.path y.path) xs) (paths_rise xs) h in
      let here : weigh (bytes_eq x.path x.path) (number x) ≡ number x = ap (λ b. weigh b (number x)) (path_self x.path) in
      (omega (arith, here, none_of x.path xs parts.0), lifted x xs xs parts.0 (each_once xs parts.1))

  -- a path with a number is there
  pub is_there : (q : List ℕ) (tree : List PathCount) → 0 < amount number (λ r. bytes_eq r q) tree → has_path q tree ≡ true
  is_there q [] h = absurd (omega (arith, h))
  is_there q (x ∷ xs) h = ⊎_elim
      (λ (e : bytes_eq x.path q ≡ true). or_left _ _ e)
      (λ (e : bytes_eq x.path q ≡ false).
      let here : weigh (bytes_eq x.path q) (number x) ≡ 0 = ap (λ b. weigh b (number x)) e in
      or_right _ _ (is_there q xs (omega (arith, here, h))))
      (cases_Bool (bytes_eq x.path q))
