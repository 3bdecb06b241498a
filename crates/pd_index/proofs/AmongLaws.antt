-- Those of some numbers that pass a test are those of all, where all that pass are among them.
use Rattle.std.proofs.Common.{◌≡◌, ℕ, ◌+◌, ◌<◌, ◌≤◌, zero, suc, List, [], ◌∷◌, Bool, true, false, cond, ◌||◌, refl, ap, sym, ◌∙◌, subst, inl, inr, arith}
use Rattle.std.specs.Prelude.{◌==◌}
use Rattle.std.specs.List.{range_with_len, filter, list_any, AllByRecursion}
use Rattle.std.proofs.lemmas.Bool.{ne_eqb}
use Rattle.std.proofs.lemmas.Bool.Decides.{eqb_tells}
use Rattle.pd_index.specs.Among.{RisesFrom, IsAmong}

-- a number below those of a rising list isn't in it
none_before : (a b : ℕ) (ns : List ℕ) → a < b → RisesFrom b ns → list_any (λ n. n == a) ns ≡ false
none_before a b [] lt rises = refl
none_before a b (x ∷ xs) lt rises =
    let apart : (x == a) ≡ false = ne_eqb x a (λ e. absurd (omega (arith, lt, rises.0, e))) in
    ap (λ t. t || list_any (λ n. n == a) xs) apart ∙ none_before a (x + 1) xs (omega (arith, lt, rises.0)) rises.1

-- a test that can't be passed isn't
fails : (b : Bool) → (b ≡ true → false ≡ true) → b ≡ false
fails true never = sym (never refl)
fails false never = refl

-- none of a range passes
pub none_passes : (test : ℕ → Bool) (a n : ℕ) → ((m : ℕ) → a ≤ m → m < a + n → test m ≡ false) → filter test (range_with_len a n) ≡ []
none_passes test a zero none = refl
none_passes test a (suc n) none =
    ap (λ b. cond b (a ∷ filter test (range_with_len (a + 1) n)) (filter test (range_with_len (a + 1) n))) (none a (omega arith) (omega arith))
    ∙ none_passes test (a + 1) n (λ m from to. none m (omega (arith, from)) (omega (arith, to)))

among_from : (test : ℕ → Bool) (a n count : ℕ) → a + n ≡ count → (ns : List ℕ) → RisesFrom a ns → AllByRecursion (λ m. m < count) ns
    → ((m : ℕ) → a ≤ m → m < count → test m ≡ true → list_any (λ k. k == m) ns ≡ true)
    → filter test ns ≡ filter test (range_with_len a n)
among_from test a zero count total [] rises below whole = refl
among_from test a zero count total (x ∷ xs) rises below whole = absurd (omega (arith, total, rises.0, below.0))
among_from test a (suc n) count total [] rises below whole =
    sym (none_passes test a (suc n) (λ m from to. fails (test m) (whole m from (omega (arith, total, to)))))
among_from test a (suc n) count total (x ∷ xs) rises below whole = elim (eqb_tells x a) [
  | inl at ↦
      let later = among_from test (a + 1) n count (omega (arith, total)) xs (subst (λ y. RisesFrom (y + 1) xs) at.1 rises.1) below.1
      (λ m from to passes.
      sym (ap (λ t. t || list_any (λ k. k == m) xs) (ne_eqb x m (λ e. absurd (omega (arith, from, at.1, e)))))
      ∙ whole m (omega (arith, from)) to passes) in
      ap (λ y. cond (test y) (y ∷ filter test xs) (filter test xs)) at.1
      ∙ ap (λ ys. cond (test a) (a ∷ ys) ys) later
  | inr at ↦
      let up : a + 1 ≤ x = omega (arith, rises.0, at.1) in
      let later = among_from test (a + 1) n count (omega (arith, total)) (x ∷ xs) (up, rises.1) below
      (λ m from to passes. whole m (omega (arith, from)) to passes) in
      let misses = fails (test a) (λ passes.
      sym (none_before a (a + 1) (x ∷ xs) (omega arith) (up, rises.1)) ∙ whole a (omega arith) (omega (arith, total)) passes) in
      later ∙ sym (ap (λ b. cond b (a ∷ filter test (range_with_len (a + 1) n)) (filter test (range_with_len (a + 1) n))) misses)
]

pub among : (test : ℕ → Bool) (count : ℕ) (ns : List ℕ) → IsAmong count test ns → filter test ns ≡ filter test (range_with_len 0 count)
among test count ns is =
    among_from test 0 count count (omega arith) ns is.rising is.below (λ m from to passes. is.whole m to passes)
