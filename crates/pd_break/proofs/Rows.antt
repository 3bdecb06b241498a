-- Rows and least lines over one node more.
use Rattle.std.proofs.Common.{◌≡◌, ℕ, ◌+◌, zero, suc, List, [], ◌∷◌, ◌++◌, Bool, true, false, cond, ap, ◌∙◌, refl, arith, append-nil}
use Rattle.std.specs.List.{range_with_len, filter}
use Rattle.pd_tree.specs.Program.{Program, node_at}
use Rattle.pd_break.specs.declared.resolving.Resolved.{Resolved}
use Rattle.pd_break.specs.declared.resolving.Resolved.TheVariants.{Line, Unresolved}
use Rattle.pd_break.specs.Resolving.{lesser, least_line}

-- a range with one number more
pub range_more : (a n : ℕ) → range_with_len a (suc n) ≡ range_with_len a n ++ (a + n) ∷ []
range_more a zero = ap (λ k. k ∷ []) (omega arith)
range_more a (suc n) = ap (λ ks. a ∷ ks) (range_more (a + 1) n ∙ ap (λ k. range_with_len (a + 1) n ++ k ∷ []) (omega arith))

pub filter-more : {A : Type 0} (test : A → Bool) (xs : List A) (x : A) → filter test (xs ++ x ∷ []) ≡ filter test xs ++ cond (test x) (x ∷ []) []
filter-more test [] x = elim (test x) as (λ b. cond b (x ∷ []) [] ≡ cond b (x ∷ []) []) [ true ↦ refl | false ↦ refl ]
filter-more test (y ∷ ys) x =
    elim (test y) as (λ b. cond b (y ∷ filter test (ys ++ x ∷ [])) (filter test (ys ++ x ∷ [])) ≡ cond b (y ∷ filter test ys) (filter test ys) ++ cond (test x) (x ∷ []) [])
    [ true ↦ ap (λ zs. y ∷ zs) (filter-more test ys x) | false ↦ filter-more test ys x ]

-- the numbers that pass a test, of one number more
pub passing_more : (test : ℕ → Bool) (n : ℕ) → filter test (range_with_len 0 (n + 1)) ≡ filter test (range_with_len 0 n) ++ cond (test n) (n ∷ []) []
passing_more test n =
    let next : n + 1 ≡ suc n = omega arith in
    let last : 0 + n ≡ n = omega arith in
    ap (λ m. filter test (range_with_len 0 m)) next
    ∙ ap (filter test) (range_more 0 n)
    ∙ ap (λ m. filter test (range_with_len 0 n ++ m ∷ [])) last
    ∙ filter-more test (range_with_len 0 n) n

-- where that one passes, it comes behind the others
pub passing_more-yes : (test : ℕ → Bool) (n : ℕ) → test n ≡ true → filter test (range_with_len 0 (n + 1)) ≡ filter test (range_with_len 0 n) ++ n ∷ []
passing_more-yes test n passes = passing_more test n ∙ ap (λ b. filter test (range_with_len 0 n) ++ cond b (n ∷ []) []) passes

pub passing_more-no : (test : ℕ → Bool) (n : ℕ) → test n ≡ false → filter test (range_with_len 0 (n + 1)) ≡ filter test (range_with_len 0 n)
passing_more-no test n fails = passing_more test n ∙ ap (λ b. filter test (range_with_len 0 n) ++ cond b (n ∷ []) []) fails ∙ append-nil (filter test (range_with_len 0 n))

pub lesser-swap : (a b : ℕ) (least : Resolved) → lesser a (lesser b least) ≡ lesser b (lesser a least)
lesser-swap a b Unresolved = ap (λ m. Line m) (omega arith)
lesser-swap a b (Line c) = ap (λ m. Line m) (omega arith)

-- the least line of one node more
pub least_line-more : (p : Program) (ns : List ℕ) (n : ℕ) → least_line p (ns ++ n ∷ []) ≡ lesser (node_at p n).line (least_line p ns)
least_line-more p [] n = refl
least_line-more p (m ∷ ms) n =
    ap (lesser (node_at p m).line) (least_line-more p ms n) ∙ lesser-swap (node_at p m).line (node_at p n).line (least_line p ms)
