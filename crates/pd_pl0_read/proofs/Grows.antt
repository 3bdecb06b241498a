-- The parts of a tree have words of their own.
use Rattle.std.proofs.Common.{◌≡◌, ℕ, ◌+◌, ◌*◌, ◌≤◌, List, [], ◌∷◌, ◌++◌, length, Option, Some, None, refl, ap, length-append, arith}
use Rattle.pd_pl0_spell.specs.Words.{Multiplying, Constant, Tree, name, number, parens, signed, sum, product, odd, compared, empty, assign, call, write, sequence, conditional, while, block, procedure, Trees, none, also, with_last}
use Rattle.pd_pl0_spell.specs.Machine
use Rattle.pd_pl0_spell.specs.Machine.{Waiting, Parts, Around, Main, Within, Holder, InBlock, InSequence, InBody, Stack, AsAssigned, AsWritten, AsOdd, AsLeft, AsRight, InParens}
use Rattle.pd_pl0_read.specs.Places.{constants_end, variables_end, declarations_end, end_of, statements_end, procedures_end, count}
use Rattle.pd_pl0_read.specs.Behind.{around_place, parts_place, behind_sum, behind_product, term_place, factor_place}

pub constants_grow : (i : ℕ) (cs : List Constant) → i + 4 * length cs ≤ constants_end i cs
constants_grow i [] = omega arith
constants_grow i (c ∷ cs) = omega arith

pub variables_grow : (i : ℕ) (vs : List (List ℕ)) → i + 2 * length vs ≤ variables_end i vs
variables_grow i [] = omega arith
variables_grow i (x ∷ xs) = omega arith

pub declarations_grow : (i : ℕ) (cs : List Constant) (vs : List (List ℕ)) → (i + 4 * length cs) + 2 * length vs ≤ declarations_end i cs vs
declarations_grow i cs vs = omega (arith, constants_grow i cs, variables_grow (constants_end i cs) vs)

mutual
  pub tree_grows : (i : ℕ) (t : Tree) → i ≤ end_of i t
  tree_grows i (name x) = omega arith
  tree_grows i (number n) = omega arith
  tree_grows i (parens e) = omega (arith, tree_grows (i + 1) e)
  tree_grows i (signed o e) = omega (arith, tree_grows (i + 1) e)
  tree_grows i (sum o a b) = omega (arith, tree_grows i a, tree_grows (end_of i a + 1) b)
  tree_grows i (product o a b) = omega (arith, tree_grows i a, tree_grows (end_of i a + 1) b)
  tree_grows i (odd e) = omega (arith, tree_grows (i + 1) e)
  tree_grows i (compared o a b) = omega (arith, tree_grows i a, tree_grows (end_of i a + 1) b)
  tree_grows i empty = omega arith
  tree_grows i (assign x e) = omega (arith, tree_grows ((i + 1) + 1) e)
  tree_grows i (call x) = omega arith
  tree_grows i (write e) = omega (arith, tree_grows (i + 1) e)
  tree_grows i (sequence ss) = omega (arith, statements_grow i ss)
  tree_grows i (conditional c a) = omega (arith, tree_grows (i + 1) c, tree_grows (end_of (i + 1) c + 1) a)
  tree_grows i (while c a) = omega (arith, tree_grows (i + 1) c, tree_grows (end_of (i + 1) c + 1) a)
  tree_grows i (block cs vs ps a) = omega (arith, declarations_grow i cs vs, procedures_grow (declarations_end i cs vs) ps, tree_grows (procedures_end (declarations_end i cs vs) ps) a)
  tree_grows i (procedure x b) = omega (arith, tree_grows (((i + 1) + 1) + 1) b)

  pub statements_grow : (i : ℕ) (ts : Trees) → i + count ts ≤ statements_end i ts
  statements_grow i none = omega arith
  statements_grow i (also t ts) = omega (arith, tree_grows (i + 1) t, statements_grow (end_of (i + 1) t) ts)

  pub procedures_grow : (i : ℕ) (ts : Trees) → i + count ts ≤ procedures_end i ts
  procedures_grow i none = omega arith
  procedures_grow i (also t ts) = omega (arith, tree_grows i t, procedures_grow (end_of i t + 1) ts)

pub parts_grow : (p : Parts) (o : Around) → ((around_place o + 4 * length p.constants) + 2 * length p.variables) + count p.procedures ≤ parts_place p o
parts_grow p o = omega (arith, declarations_grow (around_place o) p.constants p.variables, procedures_grow (declarations_end (around_place o) p.constants p.variables) p.procedures)

pub factor_grows : (i : ℕ) (p : Waiting) → i ≤ factor_place i p
factor_grows i p = omega (arith, sum_grows p.sum, product_grows (term_place i p) p.product)
  where
    sum_grows : (b : Machine.Before) → i ≤ behind_sum i b
    sum_grows Machine.Nothing = omega arith
    sum_grows (Machine.Sign o) = omega arith
    sum_grows (Machine.Left o a) = omega (arith, tree_grows i a)

    product_grows : (j : ℕ) (b : Option (Multiplying × Tree)) → j ≤ behind_product j b
    product_grows j None = omega arith
    product_grows j (Some a) = omega (arith, tree_grows j a.1)

-- One more.
pub count_last : (ts : Trees) (t : Tree) → count (with_last ts t) ≡ count ts + 1
count_last none t = refl
count_last (also s ss) t = ap (λ n. n + 1) (count_last ss t)

pub statements_end_last : (i : ℕ) (ts : Trees) (t : Tree) → statements_end i (with_last ts t) ≡ end_of (statements_end i ts + 1) t
statements_end_last i none t = refl
statements_end_last i (also s ss) t = statements_end_last (end_of (i + 1) s) ss t

pub procedures_end_last : (i : ℕ) (ts : Trees) (t : Tree) → procedures_end i (with_last ts t) ≡ end_of (procedures_end i ts) t + 1
procedures_end_last i none t = refl
procedures_end_last i (also s ss) t = procedures_end_last (end_of i s + 1) ss t

pub length_last : {A : Type 0} → (xs : List A) (x : A) → length (xs ++ x ∷ []) ≡ length xs + 1
length_last xs x = simp length-append (omega arith)
