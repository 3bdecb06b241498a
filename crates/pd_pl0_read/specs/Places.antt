-- Definition: where the parts of a program stand, by the numbers of its words, and its nodes, each after its parts.
use Rattle.std.specs.Prelude.{ℕ, ◌+◌, ◌*◌, List, [], ◌∷◌, ◌++◌, length}
use Rattle.pd_tree.specs.declared.kind.Operator.{Operator}
use Rattle.pd_tree.specs.declared.kind.Operator.TheVariants as operators
use Rattle.pd_turn.specs.declared.Node.{Node}
use Rattle.pd_turn.specs.Turned
use Rattle.pd_turn.specs.Turned.{Rose, rose, Roses}
use Rattle.pd_pl0_spell.specs.Words.{Comparing, Equal, NotEqual, Less, LessEq, Greater, GreaterEq, Adding, Plus, Minus, Multiplying, Times, Over, Constant, Tree, name, number, parens, signed, sum, product, odd, compared, empty, assign, call, write, sequence, conditional, while, block, procedure, Trees, none, also}
use Rattle.pd_pl0_spell.specs.Names.{AProcedure, Scope, no_declarations, declare, entered}
use Rattle.pd_pl0_read.specs.declared.parts.Part.{Part}
use Rattle.pd_pl0_read.specs.declared.parts.Shape.{Shape}
use Rattle.pd_pl0_read.specs.declared.parts.Shape.TheVariants as shapes
use Rattle.pd_pl0_read.specs.Resolving.{value_of, literal, constants_declared, variables_declared, procedures_declared, declared_by, resolved, meaning_of, factor_of}

-- a node of this shape from its first word up to `end`, with so many parts
abbrev pub node : Shape → ℕ → ℕ → ℕ → Node Part
node shape first end parts = record { what = record { shape = shape; first = first; end = end }; parts = parts }

-- the operator of a comparison
abbrev pub comparison : Comparing → Operator
comparison Equal = operators.Equal
comparison NotEqual = operators.NotEqual
comparison Less = operators.Less
comparison LessEq = operators.LessEq
comparison Greater = operators.Greater
comparison GreaterEq = operators.GreaterEq

-- the operator of a `+` or `-`
abbrev pub addition : Adding → Operator
addition Plus = operators.Add
addition Minus = operators.Sub

-- the shape of a sign
abbrev pub sign : Adding → Shape
sign Plus = shapes.Plus
sign Minus = shapes.Minus

-- the operator of a `*` or `/`
abbrev pub multiplication : Multiplying → Operator
multiplication Times = operators.Mul
multiplication Over = operators.Div

-- the place after a block's constants: `const`, and four words for each
abbrev pub constants_end : ℕ → List Constant → ℕ
constants_end i [] = i
constants_end i (c ∷ cs) = (i + 4 * length (c ∷ cs)) + 1

-- the place after a block's variables: `var`, and two words for each
abbrev pub variables_end : ℕ → List (List ℕ) → ℕ
variables_end i [] = i
variables_end i (x ∷ xs) = (i + 2 * length (x ∷ xs)) + 1

-- the place after the declarations of constants and variables of a block that begins at `i`
abbrev pub declarations_end : ℕ → List Constant → List (List ℕ) → ℕ
declarations_end i cs vs = variables_end (constants_end i cs) vs

-- The place after a tree whose first word is at `i`. An empty statement has no word.
abbrev mutual
  pub end_of : ℕ → Tree → ℕ
  end_of i (name x) = i + 1
  end_of i (number n) = i + 1
  end_of i (parens e) = end_of (i + 1) e + 1
  end_of i (signed o e) = end_of (i + 1) e
  end_of i (sum o a b) = end_of (end_of i a + 1) b
  end_of i (product o a b) = end_of (end_of i a + 1) b
  end_of i (odd e) = end_of (i + 1) e
  end_of i (compared o a b) = end_of (end_of i a + 1) b
  end_of i empty = i
  end_of i (assign x e) = end_of ((i + 1) + 1) e
  end_of i (call x) = (i + 1) + 1
  end_of i (write e) = end_of (i + 1) e
  end_of i (sequence ss) = statements_end i ss + 1
  end_of i (conditional c a) = end_of (end_of (i + 1) c + 1) a
  end_of i (while c a) = end_of (end_of (i + 1) c + 1) a
  end_of i (block cs vs ps a) = end_of (procedures_end (declarations_end i cs vs) ps) a
  end_of i (procedure x b) = end_of (((i + 1) + 1) + 1) b

  -- after statements, each of which has `begin` or `;` before it
  pub statements_end : ℕ → Trees → ℕ
  statements_end i none = i
  statements_end i (also t ts) = statements_end (end_of (i + 1) t) ts

  -- after procedures, each with its `;`
  pub procedures_end : ℕ → Trees → ℕ
  procedures_end i none = i
  procedures_end i (also t ts) = procedures_end (end_of i t + 1) ts

-- the number of the trees
abbrev pub count : Trees → ℕ
count none = 0
count (also t ts) = count ts + 1

-- The nodes of a tree whose first word is at `i`, where `s` are the declarations in scope.
-- A node's section runs from its first word to its last, and that of an empty statement has no word.
-- A block is a procedure's or the main one, whose section runs to the period.
abbrev mutual
  pub post : Scope → ℕ → Tree → List (Node Part)
  post s i (name x) = node (factor_of (resolved x s)) i (i + 1) 0 ∷ []
  post s i (number n) = node (shapes.Number (literal (value_of n))) i (i + 1) 0 ∷ []
  post s i (parens e) = post s (i + 1) e
  post s i (signed o e) = post s (i + 1) e ++ node (sign o) i (end_of (i + 1) e) 1 ∷ []
  post s i (sum o a b) = (post s i a ++ post s (end_of i a + 1) b) ++ node (shapes.Binary (addition o)) i (end_of (end_of i a + 1) b) 2 ∷ []
  post s i (product o a b) = (post s i a ++ post s (end_of i a + 1) b) ++ node (shapes.Binary (multiplication o)) i (end_of (end_of i a + 1) b) 2 ∷ []
  post s i (odd e) = post s (i + 1) e ++ node shapes.Odd i (end_of (i + 1) e) 1 ∷ []
  post s i (compared o a b) = (post s i a ++ post s (end_of i a + 1) b) ++ node (shapes.Binary (comparison o)) i (end_of (end_of i a + 1) b) 2 ∷ []
  post s i empty = node shapes.Empty i i 0 ∷ []
  post s i (assign x e) = post s ((i + 1) + 1) e ++ node (shapes.Assign (meaning_of (resolved x s))) i (end_of ((i + 1) + 1) e) 1 ∷ []
  post s i (call x) = node shapes.Call i ((i + 1) + 1) 0 ∷ []
  post s i (write e) = post s (i + 1) e ++ node shapes.Write i (end_of (i + 1) e) 1 ∷ []
  -- a `begin` has a statement
  post s i (sequence none) = node shapes.Empty i (i + 1) 0 ∷ []
  post s i (sequence (also t ts)) =
      statement_posts s i (also t ts) ++ node shapes.Begin i (statements_end i (also t ts) + 1) (count (also t ts)) ∷ []
  post s i (conditional c a) = (post s (i + 1) c ++ post s (end_of (i + 1) c + 1) a) ++ node shapes.If i (end_of (end_of (i + 1) c + 1) a) 2 ∷ []
  post s i (while c a) = (post s (i + 1) c ++ post s (end_of (i + 1) c + 1) a) ++ node shapes.While i (end_of (end_of (i + 1) c + 1) a) 2 ∷ []
  post s i (block cs vs ps a) =
      let inside = variables_declared vs (constants_declared cs s) in
      let first = declarations_end i cs vs in
      let body = procedures_end first ps in
      ((procedure_posts inside first ps ++ post (procedures_declared ps inside) body a) ++ node shapes.Body body (end_of body a) 1 ∷ [])
      ++ node (shapes.Main (length cs) (length vs)) i (end_of body a + 1) (count ps + 1) ∷ []
  post s i (procedure x (block cs vs ps a)) =
      let inside = variables_declared vs (constants_declared cs (entered (declare x AProcedure s))) in
      let first = declarations_end (((i + 1) + 1) + 1) cs vs in
      let body = procedures_end first ps in
      ((procedure_posts inside first ps ++ post (procedures_declared ps inside) body a) ++ node shapes.Body body (end_of body a) 1 ∷ [])
      ++ node (shapes.Procedure (length cs) (length vs)) i (end_of body a) (count ps + 1) ∷ []
  -- a procedure has a block
  post s i (procedure x b) = post s (((i + 1) + 1) + 1) b

  -- and of statements, each with `begin` or `;` before it
  pub statement_posts : Scope → ℕ → Trees → List (Node Part)
  statement_posts s i none = []
  statement_posts s i (also t ts) = post s (i + 1) t ++ statement_posts s (end_of (i + 1) t) ts

  -- and of procedures, each with its `;`
  pub procedure_posts : Scope → ℕ → Trees → List (Node Part)
  procedure_posts s i none = []
  procedure_posts s i (also t ts) = post s i t ++ procedure_posts (declared_by t s) (end_of i t + 1) ts

-- The nodes of a tree as a tree: each with what it is and its words. Parentheses make none.
abbrev pub part : Shape → ℕ → ℕ → Part
part s first end = record { shape = s; first = first; end = end }

-- one part
abbrev pub one : Rose Part → Roses Part
one a = Turned.also a Turned.none

-- two parts
abbrev pub two : Rose Part → Rose Part → Roses Part
two a b = Turned.also a (one b)

abbrev mutual
  pub tree : Scope → ℕ → Tree → Rose Part
  tree s i (name x) = rose (part (factor_of (resolved x s)) i (i + 1)) Turned.none
  tree s i (number n) = rose (part (shapes.Number (literal (value_of n))) i (i + 1)) Turned.none
  tree s i (parens e) = tree s (i + 1) e
  tree s i (signed o e) = rose (part (sign o) i (end_of (i + 1) e)) (one (tree s (i + 1) e))
  tree s i (sum o a b) = rose (part (shapes.Binary (addition o)) i (end_of (end_of i a + 1) b)) (two (tree s i a) (tree s (end_of i a + 1) b))
  tree s i (product o a b) = rose (part (shapes.Binary (multiplication o)) i (end_of (end_of i a + 1) b)) (two (tree s i a) (tree s (end_of i a + 1) b))
  tree s i (odd e) = rose (part shapes.Odd i (end_of (i + 1) e)) (one (tree s (i + 1) e))
  tree s i (compared o a b) = rose (part (shapes.Binary (comparison o)) i (end_of (end_of i a + 1) b)) (two (tree s i a) (tree s (end_of i a + 1) b))
  tree s i empty = rose (part shapes.Empty i i) Turned.none
  tree s i (assign x e) = rose (part (shapes.Assign (meaning_of (resolved x s))) i (end_of ((i + 1) + 1) e)) (one (tree s ((i + 1) + 1) e))
  tree s i (call x) = rose (part shapes.Call i ((i + 1) + 1)) Turned.none
  tree s i (write e) = rose (part shapes.Write i (end_of (i + 1) e)) (one (tree s (i + 1) e))
  tree s i (sequence none) = rose (part shapes.Empty i (i + 1)) Turned.none
  tree s i (sequence (also t ts)) = rose (part shapes.Begin i (statements_end i (also t ts) + 1)) (statement_trees s i (also t ts))
  tree s i (conditional c a) = rose (part shapes.If i (end_of (end_of (i + 1) c + 1) a)) (two (tree s (i + 1) c) (tree s (end_of (i + 1) c + 1) a))
  tree s i (while c a) = rose (part shapes.While i (end_of (end_of (i + 1) c + 1) a)) (two (tree s (i + 1) c) (tree s (end_of (i + 1) c + 1) a))
  tree s i (block cs vs ps a) =
      let inside = variables_declared vs (constants_declared cs s) in
      let first = declarations_end i cs vs in
      let body = procedures_end first ps in
      rose (part (shapes.Main (length cs) (length vs)) i (end_of body a + 1))
      (procedure_trees inside first ps (rose (part shapes.Body body (end_of body a)) (one (tree (procedures_declared ps inside) body a))))
  tree s i (procedure x (block cs vs ps a)) =
      let inside = variables_declared vs (constants_declared cs (entered (declare x AProcedure s))) in
      let first = declarations_end (((i + 1) + 1) + 1) cs vs in
      let body = procedures_end first ps in
      rose (part (shapes.Procedure (length cs) (length vs)) i (end_of body a))
      (procedure_trees inside first ps (rose (part shapes.Body body (end_of body a)) (one (tree (procedures_declared ps inside) body a))))
  tree s i (procedure x b) = tree s (((i + 1) + 1) + 1) b

  -- procedures, and the body after them
  pub procedure_trees : Scope → ℕ → Trees → Rose Part → Roses Part
  procedure_trees s i none body = one body
  procedure_trees s i (also t ts) body = Turned.also (tree s i t) (procedure_trees (declared_by t s) (end_of i t + 1) ts body)

  -- and of statements, each with `begin` or `;` before it
  pub statement_trees : Scope → ℕ → Trees → Roses Part
  statement_trees s i none = Turned.none
  statement_trees s i (also t ts) = Turned.also (tree s (i + 1) t) (statement_trees s (end_of (i + 1) t) ts)

-- a program's nodes after their parts, and as a tree
abbrev pub program_posts : Tree → List (Node Part)
program_posts T = post no_declarations 0 T

-- a program as one tree
abbrev pub program_trees : Tree → Roses Part
program_trees T = one (tree no_declarations 0 T)
