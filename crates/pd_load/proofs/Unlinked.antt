-- No node of a PL/0 source means an item before linking, and the first one is the main block.
use Rattle.std.proofs.Common.{◌≡◌, ℕ, ◌+◌, true, List, [], ◌∷◌, ◌++◌, Option, Some, None, sym, ap, subst}
use Rattle.pd_sections.specs.declared.Token.{Token}
use Rattle.pd_tree.specs.declared.addition.Addition.{Addition}
use Rattle.pd_tree.specs.Kinds.{is_root}
use Rattle.pd_turn.specs.declared.Node.{Node}
use Rattle.pd_turn.specs.Turned.{Rose, pre, pres}
use Rattle.pd_pl0_spell.specs.Words.{Adding, Plus, Minus, Tree, name, number, parens, signed, sum, product, odd, compared, empty, assign, call, write, sequence, conditional, while, block, procedure, Trees, none, also, Word}
use Rattle.pd_pl0_spell.specs.Names.{AProcedure, Scope, no_declarations, declare, entered, every_rule}
use Rattle.pd_pl0_spell.specs.Grammar.{Program, a_program, a_block}
use Rattle.pd_pl0_read.specs.declared.names.Declared.{Declared}
use Rattle.pd_pl0_read.specs.declared.names.Declared.TheVariants as declared
use Rattle.pd_pl0_read.specs.declared.names.Found.{Found}
use Rattle.pd_pl0_read.specs.declared.parts.Part.{Part}
use Rattle.pd_pl0_read.specs.Resolving.{constants_declared, variables_declared, procedures_declared, declared_by, resolved, meaning_as, meaning_of, factor_as, factor_of}
use Rattle.pd_pl0_read.specs.Places.{declarations_end, end_of, procedures_end, sign, one, two, tree, procedure_trees, statement_trees, program_trees}
use Rattle.pd_pl0_parse.specs.Additions.{AreAdditionsOf, meaning_in}
use Rattle.pd_link.specs.Linking.{IsUnlinked, AllUnlinked}

abbrev AllFree : List (Node Part) → Type 0
AllFree [] = Unit {0}
AllFree (x ∷ xs) = IsUnlinked (meaning_in x.what.shape) × AllFree xs

all_free : (xs ys : List (Node Part)) → AllFree xs → AllFree ys → AllFree (xs ++ ys)
all_free [] ys h g = g
all_free (x ∷ xs) ys h g = (h.0, all_free xs ys h.1 g)

alone : (a : Rose Part) → AllFree (pre a) → AllFree (pres (one a))
alone a h = all_free (pre a) [] h tt

pair : (a b : Rose Part) → AllFree (pre a) → AllFree (pre b) → AllFree (pres (two a b))
pair a b h g = all_free (pre a) _ h (alone b g)

meaning_free : (up : ℕ) (d : Declared) → IsUnlinked (meaning_as up d)
meaning_free up (declared.Constant v) = tt
meaning_free up (declared.Variable n) = tt
meaning_free up declared.Procedure = tt

found_free : (f : Option Found) → IsUnlinked (meaning_of f)
found_free None = tt
found_free (Some f) = meaning_free f.up f.what

factor_free : (f : Option Found) → IsUnlinked (meaning_in (factor_of f))
factor_free None = tt
factor_free (Some f) = go f.what
  where
    go : (d : Declared) → IsUnlinked (meaning_in (factor_as f.up d))
    go (declared.Constant v) = tt
    go (declared.Variable n) = tt
    go declared.Procedure = tt

sign_free : (o : Adding) → IsUnlinked (meaning_in (sign o))
sign_free Plus = tt
sign_free Minus = tt

mutual
  free : (s : Scope) (i : ℕ) (t : Tree) → AllFree (pre (tree s i t))
  free s i (name x) = (factor_free (resolved x s), tt)
  free s i (number n) = (tt, tt)
  free s i (parens e) = free s (i + 1) e
  free s i (signed o e) = (sign_free o, alone (tree s (i + 1) e) (free s (i + 1) e))
  free s i (sum o a b) = (tt, pair (tree s i a) (tree s (end_of i a + 1) b) (free s i a) (free s (end_of i a + 1) b))
  free s i (product o a b) = (tt, pair (tree s i a) (tree s (end_of i a + 1) b) (free s i a) (free s (end_of i a + 1) b))
  free s i (odd e) = (tt, alone (tree s (i + 1) e) (free s (i + 1) e))
  free s i (compared o a b) = (tt, pair (tree s i a) (tree s (end_of i a + 1) b) (free s i a) (free s (end_of i a + 1) b))
  free s i empty = (tt, tt)
  free s i (assign x e) = (found_free (resolved x s), alone (tree s ((i + 1) + 1) e) (free s ((i + 1) + 1) e))
  free s i (call x) = (tt, tt)
  free s i (write e) = (tt, alone (tree s (i + 1) e) (free s (i + 1) e))
  free s i (sequence none) = (tt, tt)
  free s i (sequence (also t ts)) = (tt, all_free (pre (tree s (i + 1) t)) _ (free s (i + 1) t) (statements_free s (end_of (i + 1) t) ts))
  free s i (conditional c a) = (tt, pair (tree s (i + 1) c) (tree s (end_of (i + 1) c + 1) a) (free s (i + 1) c) (free s (end_of (i + 1) c + 1) a))
  free s i (while c a) = (tt, pair (tree s (i + 1) c) (tree s (end_of (i + 1) c + 1) a) (free s (i + 1) c) (free s (end_of (i + 1) c + 1) a))
  free s i (block cs vs ps a) =
      let inside = variables_declared vs (constants_declared cs s) in
      let first = declarations_end i cs vs in
      let body = procedures_end first ps in
      (tt, procedures_free inside first ps _ (tt, alone (tree (procedures_declared ps inside) body a) (free (procedures_declared ps inside) body a)))
  free s i (procedure x (block cs vs ps a)) =
      let inside = variables_declared vs (constants_declared cs (entered (declare x AProcedure s))) in
      let first = declarations_end (((i + 1) + 1) + 1) cs vs in
      let body = procedures_end first ps in
      (tt, procedures_free inside first ps _ (tt, alone (tree (procedures_declared ps inside) body a) (free (procedures_declared ps inside) body a)))
  free s i (procedure x b) = free s (((i + 1) + 1) + 1) b

  procedures_free : (s : Scope) (i : ℕ) (ps : Trees) (b : Rose Part) → AllFree (pre b) → AllFree (pres (procedure_trees s i ps b))
  procedures_free s i none b h = alone b h
  procedures_free s i (also t ts) b h = all_free (pre (tree s i t)) _ (free s i t) (procedures_free (declared_by t s) (end_of i t + 1) ts b h)

  statements_free : (s : Scope) (i : ℕ) (ts : Trees) → AllFree (pres (statement_trees s i ts))
  statements_free s i none = tt
  statements_free s i (also t ts) = all_free (pre (tree s (i + 1) t)) _ (free s (i + 1) t) (statements_free s (end_of (i + 1) t) ts)

additions_free : (bytes : List ℕ) (tokens : List Token) (source : ℕ) (nodes : List (Node Part)) (all : List Addition) → AllFree nodes → AreAdditionsOf bytes tokens source nodes all → AllUnlinked all
additions_free bytes tokens source [] [] f h = tt
additions_free bytes tokens source [] (a ∷ all) f h = absurd h
additions_free bytes tokens source (x ∷ nodes) [] f h = absurd h
additions_free bytes tokens source (x ∷ nodes) (a ∷ all) f h = (subst IsUnlinked (sym h.0.meaning) f.0, additions_free bytes tokens source nodes all f.1 h.1)

pub pl0_unlinked : (bytes : List ℕ) (tokens : List Token) (source : ℕ) (T : Tree) (all : List Addition) → AreAdditionsOf bytes tokens source (pres (program_trees T)) all → AllUnlinked all
pl0_unlinked bytes tokens source T all h =
    additions_free bytes tokens source (pres (program_trees T)) all (alone (tree no_declarations 0 T) (free no_declarations 0 T)) h

-- the tree begins with a node that is an item
abbrev pub BeginsWithItem : List Addition → Type 0
BeginsWithItem [] = ⊥
BeginsWithItem (a ∷ rest) = is_root a.kind ≡ true

pub main_first : (bytes : List ℕ) (tokens : List Token) (source : ℕ) (ws : List Word) (T : Tree) (all : List Addition) → Program every_rule ws T → AreAdditionsOf bytes tokens source (pres (program_trees T)) all
    → BeginsWithItem all
main_first bytes tokens source ws T [] (a_program (a_block c v p s)) h = absurd h
main_first bytes tokens source ws T (a ∷ rest) (a_program (a_block c v p s)) h = ap is_root h.0.kind.1
