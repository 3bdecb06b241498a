-- Each node of a tree has as many parts as its kind asks for.
use Rattle.std.proofs.Common.{ℕ, ◌+◌, ◌≤◌, List, [], ◌∷◌, ◌++◌, refl, arith}
use Rattle.pd_turn.specs.declared.Node.{Node}
use Rattle.pd_turn.specs.Turned
use Rattle.pd_turn.specs.Turned.{Rose, rose, Roses, pre, pres}
use Rattle.pd_pl0_spell.specs.Words.{Adding, Plus, Minus, Tree, name, number, parens, signed, sum, product, odd, compared, empty, assign, call, write, sequence, conditional, while, block, procedure, Trees, none, also}
use Rattle.pd_pl0_spell.specs.Names.{AProcedure, Scope, declare, entered}
use Rattle.pd_pl0_read.specs.declared.names.Found.{Found}
use Rattle.pd_pl0_read.specs.declared.names.Declared.{Declared}
use Rattle.pd_pl0_read.specs.declared.names.Declared.TheVariants as declared
use Rattle.std.proofs.Common.{Option, Some, None}
use Rattle.pd_pl0_read.specs.declared.parts.Part.{Part}
use Rattle.pd_pl0_read.specs.Resolving.{constants_declared, variables_declared, procedures_declared, declared_by, resolved, factor_as, factor_of}
use Rattle.pd_pl0_read.specs.Places.{declarations_end, end_of, procedures_end, sign, one, two, tree, procedure_trees, statement_trees}
use Rattle.pd_pl0_parse.specs.Fits.{Fits, AllFit}

all_fit : (xs ys : List (Node Part)) → AllFit xs → AllFit ys → AllFit (xs ++ ys)
all_fit [] ys h g = g
all_fit (x ∷ xs) ys h g = (h.0, all_fit xs ys h.1 g)

alone : (a : Rose Part) → AllFit (pre a) → AllFit (pres (one a))
alone a h = all_fit (pre a) [] h tt

pair : (a b : Rose Part) → AllFit (pre a) → AllFit (pre b) → AllFit (pres (two a b))
pair a b h g = all_fit (pre a) _ h (alone b g)

factor_fits : (f : Option Found) → Fits (factor_of f) 0
factor_fits None = refl
factor_fits (Some f) = go f.what
  where
    go : (d : Declared) → Fits (factor_as f.up d) 0
    go (declared.Constant v) = refl
    go (declared.Variable n) = refl
    go declared.Procedure = refl

sign_fits : (o : Adding) → Fits (sign o) 1
sign_fits Plus = refl
sign_fits Minus = refl

some_parts : (s : Scope) (i : ℕ) (ps : Trees) (b : Rose Part) → 1 ≤ Turned.count (procedure_trees s i ps b)
some_parts s i none b = omega arith
some_parts s i (also t ts) b = omega arith

mutual
  pub fits : (s : Scope) (i : ℕ) (t : Tree) → AllFit (pre (tree s i t))
  fits s i (name x) = (factor_fits (resolved x s), tt)
  fits s i (number n) = (refl, tt)
  fits s i (parens e) = fits s (i + 1) e
  fits s i (signed o e) = (sign_fits o, alone (tree s (i + 1) e) (fits s (i + 1) e))
  fits s i (sum o a b) = (refl, pair (tree s i a) (tree s (end_of i a + 1) b) (fits s i a) (fits s (end_of i a + 1) b))
  fits s i (product o a b) = (refl, pair (tree s i a) (tree s (end_of i a + 1) b) (fits s i a) (fits s (end_of i a + 1) b))
  fits s i (odd e) = (refl, alone (tree s (i + 1) e) (fits s (i + 1) e))
  fits s i (compared o a b) = (refl, pair (tree s i a) (tree s (end_of i a + 1) b) (fits s i a) (fits s (end_of i a + 1) b))
  fits s i empty = (refl, tt)
  fits s i (assign x e) = (refl, alone (tree s ((i + 1) + 1) e) (fits s ((i + 1) + 1) e))
  fits s i (call x) = (refl, tt)
  fits s i (write e) = (refl, alone (tree s (i + 1) e) (fits s (i + 1) e))
  fits s i (sequence none) = (refl, tt)
  fits s i (sequence (also t ts)) = (omega arith, all_fit (pre (tree s (i + 1) t)) _ (fits s (i + 1) t) (statements_fit s (end_of (i + 1) t) ts))
  fits s i (conditional c a) = (refl, pair (tree s (i + 1) c) (tree s (end_of (i + 1) c + 1) a) (fits s (i + 1) c) (fits s (end_of (i + 1) c + 1) a))
  fits s i (while c a) = (refl, pair (tree s (i + 1) c) (tree s (end_of (i + 1) c + 1) a) (fits s (i + 1) c) (fits s (end_of (i + 1) c + 1) a))
  fits s i (block cs vs ps a) =
      let inside = variables_declared vs (constants_declared cs s) in
      let first = declarations_end i cs vs in
      let body = procedures_end first ps in
      (some_parts inside first ps _, procedures_fit inside first ps _ (refl, alone (tree (procedures_declared ps inside) body a) (fits (procedures_declared ps inside) body a)))
  fits s i (procedure x (block cs vs ps a)) =
      let inside = variables_declared vs (constants_declared cs (entered (declare x AProcedure s))) in
      let first = declarations_end (((i + 1) + 1) + 1) cs vs in
      let body = procedures_end first ps in
      (some_parts inside first ps _, procedures_fit inside first ps _ (refl, alone (tree (procedures_declared ps inside) body a) (fits (procedures_declared ps inside) body a)))
  fits s i (procedure x b) = fits s (((i + 1) + 1) + 1) b

  procedures_fit : (s : Scope) (i : ℕ) (ps : Trees) (b : Rose Part) → AllFit (pre b) → AllFit (pres (procedure_trees s i ps b))
  procedures_fit s i none b h = alone b h
  procedures_fit s i (also t ts) b h = all_fit (pre (tree s i t)) _ (fits s i t) (procedures_fit (declared_by t s) (end_of i t + 1) ts b h)

  statements_fit : (s : Scope) (i : ℕ) (ts : Trees) → AllFit (pres (statement_trees s i ts))
  statements_fit s i none = tt
  statements_fit s i (also t ts) = all_fit (pre (tree s (i + 1) t)) _ (fits s (i + 1) t) (statements_fit s (end_of (i + 1) t) ts)
