-- What a node's name means is a variable or nothing, before the sources are linked.
use Rattle.std.proofs.Common.{ℕ, ◌+◌, List, [], ◌∷◌, ◌++◌}
use Rattle.pd_turn.specs.declared.Node.{Node}
use Rattle.pd_turn.specs.Turned.{Rose, pre, pres}
use Rattle.pd_pl0_spell.specs.Words.{Adding, Plus, Minus, Tree, name, number, parens, signed, sum, product, odd, compared, empty, assign, call, write, sequence, conditional, while, block, procedure, Trees, none, also}
use Rattle.pd_pl0_spell.specs.Names.{AProcedure, Scope, no_declarations, declare, entered}
use Rattle.pd_pl0_read.specs.declared.names.Found.{Found}
use Rattle.pd_pl0_read.specs.declared.names.Declared.{Declared}
use Rattle.pd_pl0_read.specs.declared.names.Declared.TheVariants as declared
use Rattle.std.proofs.Common.{Option, Some, None}
use Rattle.pd_pl0_read.specs.declared.parts.Part.{Part}
use Rattle.pd_pl0_read.specs.Resolving.{constants_declared, variables_declared, procedures_declared, declared_by, resolved, meaning_as, meaning_of, factor_as, factor_of}
use Rattle.pd_pl0_read.specs.Places.{declarations_end, end_of, procedures_end, sign, one, two, tree, procedure_trees, statement_trees, program_trees}
use Rattle.pd_tree.specs.declared.kind.Meaning.{Meaning}
use Rattle.pd_tree.specs.declared.kind.Meaning.TheVariants.{Local, Item, Nothing}
use Rattle.pd_pl0_parse.specs.Additions.{meaning_in}

abbrev pub IsOwn : Meaning → Type 0
IsOwn (Local up slot) = Unit {0}
IsOwn (Item i) = ⊥
IsOwn Nothing = Unit {0}

abbrev pub AllOwn : List (Node Part) → Type 0
AllOwn [] = Unit {0}
AllOwn (x ∷ xs) = IsOwn (meaning_in x.what.shape) × AllOwn xs

all_own : (xs ys : List (Node Part)) → AllOwn xs → AllOwn ys → AllOwn (xs ++ ys)
all_own [] ys h g = g
all_own (x ∷ xs) ys h g = (h.0, all_own xs ys h.1 g)

alone : (a : Rose Part) → AllOwn (pre a) → AllOwn (pres (one a))
alone a h = all_own (pre a) [] h tt

pair : (a b : Rose Part) → AllOwn (pre a) → AllOwn (pre b) → AllOwn (pres (two a b))
pair a b h g = all_own (pre a) _ h (alone b g)

meaning_own : (f : Option Found) → IsOwn (meaning_of f)
meaning_own None = tt
meaning_own (Some f) = go f.what
  where
    go : (d : Declared) → IsOwn (meaning_as f.up d)
    go (declared.Constant v) = tt
    go (declared.Variable n) = tt
    go declared.Procedure = tt

factor_own : (f : Option Found) → IsOwn (meaning_in (factor_of f))
factor_own None = tt
factor_own (Some f) = go f.what
  where
    go : (d : Declared) → IsOwn (meaning_in (factor_as f.up d))
    go (declared.Constant v) = tt
    go (declared.Variable n) = tt
    go declared.Procedure = tt

sign_own : (o : Adding) → IsOwn (meaning_in (sign o))
sign_own Plus = tt
sign_own Minus = tt

mutual
  pub own : (s : Scope) (i : ℕ) (t : Tree) → AllOwn (pre (tree s i t))
  own s i (name x) = (factor_own (resolved x s), tt)
  own s i (number n) = (tt, tt)
  own s i (parens e) = own s (i + 1) e
  own s i (signed o e) = (sign_own o, alone (tree s (i + 1) e) (own s (i + 1) e))
  own s i (sum o a b) = (tt, pair (tree s i a) (tree s (end_of i a + 1) b) (own s i a) (own s (end_of i a + 1) b))
  own s i (product o a b) = (tt, pair (tree s i a) (tree s (end_of i a + 1) b) (own s i a) (own s (end_of i a + 1) b))
  own s i (odd e) = (tt, alone (tree s (i + 1) e) (own s (i + 1) e))
  own s i (compared o a b) = (tt, pair (tree s i a) (tree s (end_of i a + 1) b) (own s i a) (own s (end_of i a + 1) b))
  own s i empty = (tt, tt)
  own s i (assign x e) = (meaning_own (resolved x s), alone (tree s ((i + 1) + 1) e) (own s ((i + 1) + 1) e))
  own s i (call x) = (tt, tt)
  own s i (write e) = (tt, alone (tree s (i + 1) e) (own s (i + 1) e))
  own s i (sequence none) = (tt, tt)
  own s i (sequence (also t ts)) = (tt, all_own (pre (tree s (i + 1) t)) _ (own s (i + 1) t) (statements_own s (end_of (i + 1) t) ts))
  own s i (conditional c a) = (tt, pair (tree s (i + 1) c) (tree s (end_of (i + 1) c + 1) a) (own s (i + 1) c) (own s (end_of (i + 1) c + 1) a))
  own s i (while c a) = (tt, pair (tree s (i + 1) c) (tree s (end_of (i + 1) c + 1) a) (own s (i + 1) c) (own s (end_of (i + 1) c + 1) a))
  own s i (block cs vs ps a) =
      let inside = variables_declared vs (constants_declared cs s) in
      let first = declarations_end i cs vs in
      let body = procedures_end first ps in
      (tt, procedures_own inside first ps _ (tt, alone (tree (procedures_declared ps inside) body a) (own (procedures_declared ps inside) body a)))
  own s i (procedure x (block cs vs ps a)) =
      let inside = variables_declared vs (constants_declared cs (entered (declare x AProcedure s))) in
      let first = declarations_end (((i + 1) + 1) + 1) cs vs in
      let body = procedures_end first ps in
      (tt, procedures_own inside first ps _ (tt, alone (tree (procedures_declared ps inside) body a) (own (procedures_declared ps inside) body a)))
  own s i (procedure x b) = own s (((i + 1) + 1) + 1) b

  procedures_own : (s : Scope) (i : ℕ) (ps : Trees) (b : Rose Part) → AllOwn (pre b) → AllOwn (pres (procedure_trees s i ps b))
  procedures_own s i none b h = alone b h
  procedures_own s i (also t ts) b h = all_own (pre (tree s i t)) _ (own s i t) (procedures_own (declared_by t s) (end_of i t + 1) ts b h)

  statements_own : (s : Scope) (i : ℕ) (ts : Trees) → AllOwn (pres (statement_trees s i ts))
  statements_own s i none = tt
  statements_own s i (also t ts) = all_own (pre (tree s (i + 1) t)) _ (own s (i + 1) t) (statements_own s (end_of (i + 1) t) ts)

pub program_own : (T : Tree) → AllOwn (pres (program_trees T))
program_own T = alone (tree no_declarations 0 T) (own no_declarations 0 T)
