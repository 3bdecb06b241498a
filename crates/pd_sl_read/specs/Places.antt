-- Definition: where the parts of a program stand, by the numbers of its words, and its nodes, each after its parts.
use Rattle.std.specs.Prelude.{ℕ, ◌+◌, ℤ, pos, Bool, true, false, nat_lt, List, [], ◌∷◌, ◌++◌, Option, Some, None}
use Rattle.pd_tree.specs.declared.kind.Operator.{Operator}
use Rattle.pd_tree.specs.declared.kind.Operator.TheVariants as operators
use Rattle.pd_turn.specs.declared.Node.{Node}
use Rattle.pd_turn.specs.Turned
use Rattle.pd_turn.specs.Turned.{Rose, rose, Roses}
use Rattle.pd_sl_spell.specs.Words.{Comparing, Equal, NotEqual, Less, LessEq, Greater, GreaterEq, Adding, Plus, Minus, Multiplying, Times, Over, Tree, name, number, text, parens, call, assign, either, both, compared, sum, product, while, conditional, conditional_else, return_nothing, return, break, continue, debugger, expression_statement, block, function, Trees, none, also}
use Rattle.pd_sl_spell.specs.Refusals.{largest}
use Rattle.pd_sl_read.specs.declared.parts.Part.{Part}
use Rattle.pd_sl_read.specs.declared.parts.Shape.{Shape}
use Rattle.pd_sl_read.specs.declared.parts.Shape.TheVariants as shapes
use Rattle.pd_sl_read.specs.Held.{node, literal}

-- the operator of a comparison
abbrev pub comparison : Comparing → Operator
comparison Equal = operators.Equal
comparison NotEqual = operators.NotEqual
comparison Less = operators.Less
comparison LessEq = operators.LessEq
comparison Greater = operators.Greater
comparison GreaterEq = operators.GreaterEq

-- the operator of a `+` or `-`
abbrev pub addition : Adding → Operator
addition Plus = operators.Add
addition Minus = operators.Sub

-- the operator of a `*` or `/`
abbrev pub multiplication : Multiplying → Operator
multiplication Times = operators.Mul
multiplication Over = operators.Div

-- the value n, unless it is too large
abbrev pub value_within : Bool → ℕ → Option ℤ
value_within true n = None
value_within false n = Some (pos n)

-- the value of a number of 64 bits
abbrev pub value_of : ℕ → Option ℤ
value_of n = value_within (nat_lt largest n) n

-- the place after the parameters and their `)`
abbrev pub more_parameters_end : ℕ → List (List ℕ) → ℕ
more_parameters_end i [] = i
more_parameters_end i (x ∷ xs) = more_parameters_end ((i + 1) + 1) xs

-- the place after the parameters, from after the `(` on
abbrev pub parameters_end : ℕ → List (List ℕ) → ℕ
parameters_end i [] = i
parameters_end i (x ∷ xs) = more_parameters_end (i + 1) xs

-- the place of a function's body
abbrev pub body_place : ℕ → List (List ℕ) → ℕ
body_place i xs = parameters_end (((i + 1) + 1) + 1) xs + 1

-- The place after a tree whose first word is at `i`.
abbrev mutual
  pub end_of : ℕ → Tree → ℕ
  end_of i (name x) = i + 1
  end_of i (number n) = i + 1
  end_of i (text s) = i + 1
  end_of i (parens e) = end_of (i + 1) e + 1
  end_of i (call c es) = arguments_end (end_of i c + 1) es
  end_of i (assign x e) = end_of ((i + 1) + 1) e
  end_of i (either a b) = end_of (end_of i a + 1) b
  end_of i (both a b) = end_of (end_of i a + 1) b
  end_of i (compared o a b) = end_of (end_of i a + 1) b
  end_of i (sum o a b) = end_of (end_of i a + 1) b
  end_of i (product o a b) = end_of (end_of i a + 1) b
  end_of i (while c b) = end_of (end_of ((i + 1) + 1) c + 1) b
  end_of i (conditional c b) = end_of (end_of ((i + 1) + 1) c + 1) b
  end_of i (conditional_else c b d) = end_of (end_of (end_of ((i + 1) + 1) c + 1) b + 1) d
  end_of i return_nothing = (i + 1) + 1
  end_of i (return e) = end_of (i + 1) e + 1
  end_of i break = (i + 1) + 1
  end_of i continue = (i + 1) + 1
  end_of i debugger = (i + 1) + 1
  end_of i (expression_statement e) = end_of i e + 1
  end_of i (block ss) = trees_end (i + 1) ss + 1
  end_of i (function x xs b) = end_of (body_place i xs) b

  -- after the `)` of a call's arguments, from after its `(` on
  pub arguments_end : ℕ → Trees → ℕ
  arguments_end i none = i + 1
  arguments_end i (also e es) = more_arguments_end (end_of i e) es

  -- and after further arguments, each with the `,` before it
  pub more_arguments_end : ℕ → Trees → ℕ
  more_arguments_end i none = i + 1
  more_arguments_end i (also e es) = more_arguments_end (end_of (i + 1) e) es

  -- and after trees, one after another
  pub trees_end : ℕ → Trees → ℕ
  trees_end i none = i
  trees_end i (also t ts) = trees_end (end_of i t) ts

-- the number of the trees
abbrev pub count : Trees → ℕ
count none = 0
count (also t ts) = count ts + 1

-- the number of the names
abbrev pub length_of : List (List ℕ) → ℕ
length_of [] = 0
length_of (x ∷ xs) = length_of xs + 1

-- The nodes of a tree whose first word is at `i`; `s` is what it is where it is a block.
-- A node's section runs from its first word to its last; the `;` of a statement isn't in it.
abbrev mutual
  pub post_as : Shape → ℕ → Tree → List (Node Part)
  post_as s i (name x) = node shapes.Name i (i + 1) 0 ∷ []
  post_as s i (number n) = node (shapes.Number (literal (value_of n))) i (i + 1) 0 ∷ []
  post_as s i (text t) = node shapes.Text i (i + 1) 0 ∷ []
  post_as s i (parens e) = post_as shapes.Block (i + 1) e
  post_as s i (call c es) = (post_as shapes.Block i c ++ argument_posts (end_of i c + 1) es) ++ node shapes.Call i (arguments_end (end_of i c + 1) es) (count es + 1) ∷ []
  post_as s i (assign x e) = post_as shapes.Block ((i + 1) + 1) e ++ node shapes.Assign i (end_of ((i + 1) + 1) e) 1 ∷ []
  post_as s i (either a b) = (post_as shapes.Block i a ++ post_as shapes.Block (end_of i a + 1) b) ++ node shapes.Or i (end_of (end_of i a + 1) b) 2 ∷ []
  post_as s i (both a b) = (post_as shapes.Block i a ++ post_as shapes.Block (end_of i a + 1) b) ++ node shapes.And i (end_of (end_of i a + 1) b) 2 ∷ []
  post_as s i (compared o a b) = (post_as shapes.Block i a ++ post_as shapes.Block (end_of i a + 1) b) ++ node (shapes.Binary (comparison o)) i (end_of (end_of i a + 1) b) 2 ∷ []
  post_as s i (sum o a b) = (post_as shapes.Block i a ++ post_as shapes.Block (end_of i a + 1) b) ++ node (shapes.Binary (addition o)) i (end_of (end_of i a + 1) b) 2 ∷ []
  post_as s i (product o a b) = (post_as shapes.Block i a ++ post_as shapes.Block (end_of i a + 1) b) ++ node (shapes.Binary (multiplication o)) i (end_of (end_of i a + 1) b) 2 ∷ []
  post_as s i (while c b) = (post_as shapes.Block ((i + 1) + 1) c ++ post_as shapes.Block (end_of ((i + 1) + 1) c + 1) b) ++ node shapes.While i (end_of (end_of ((i + 1) + 1) c + 1) b) 2 ∷ []
  post_as s i (conditional c b) = (post_as shapes.Block ((i + 1) + 1) c ++ post_as shapes.Block (end_of ((i + 1) + 1) c + 1) b) ++ node shapes.If i (end_of (end_of ((i + 1) + 1) c + 1) b) 2 ∷ []
  post_as s i (conditional_else c b d) = ((post_as shapes.Block ((i + 1) + 1) c ++ post_as shapes.Block (end_of ((i + 1) + 1) c + 1) b) ++ post_as shapes.Block (end_of (end_of ((i + 1) + 1) c + 1) b + 1) d) ++ node shapes.If i (end_of (end_of (end_of ((i + 1) + 1) c + 1) b + 1) d) 3 ∷ []
  post_as s i return_nothing = node shapes.Return i (i + 1) 0 ∷ []
  post_as s i (return e) = post_as shapes.Block (i + 1) e ++ node shapes.Return i (end_of (i + 1) e) 1 ∷ []
  post_as s i break = node shapes.Break i (i + 1) 0 ∷ []
  post_as s i continue = node shapes.Continue i (i + 1) 0 ∷ []
  post_as s i debugger = node shapes.Debugger i (i + 1) 0 ∷ []
  post_as s i (expression_statement e) = post_as shapes.Block i e
  post_as s i (block ss) = posts (i + 1) ss ++ node s i (trees_end (i + 1) ss + 1) (count ss) ∷ []
  post_as s i (function x xs b) = post_as shapes.Body (body_place i xs) b ++ node (shapes.Function (length_of xs)) i (end_of (body_place i xs) b) 1 ∷ []

  -- and of the arguments of a call
  pub argument_posts : ℕ → Trees → List (Node Part)
  argument_posts i none = []
  argument_posts i (also e es) = post_as shapes.Block i e ++ more_argument_posts (end_of i e) es

  -- and of further arguments, each with a `,` before it
  pub more_argument_posts : ℕ → Trees → List (Node Part)
  more_argument_posts i none = []
  more_argument_posts i (also e es) = post_as shapes.Block (i + 1) e ++ more_argument_posts (end_of (i + 1) e) es

  -- and of trees, one after another
  pub posts : ℕ → Trees → List (Node Part)
  posts i none = []
  posts i (also t ts) = post_as shapes.Block i t ++ posts (end_of i t) ts

-- the nodes of a tree whose first word is at `i`, each after its parts
abbrev pub post : ℕ → Tree → List (Node Part)
post i t = post_as shapes.Block i t

-- The nodes of a tree as a tree: each with what it is and its words. Parentheses make none.
abbrev pub part : Shape → ℕ → ℕ → Part
part s first end = record { shape = s; first = first; end = end }

-- two parts
abbrev pub two : Rose Part → Rose Part → Roses Part
two a b = Turned.also a (Turned.also b Turned.none)

abbrev mutual
  pub rose_as : Shape → ℕ → Tree → Rose Part
  rose_as s i (name x) = rose (part shapes.Name i (i + 1)) Turned.none
  rose_as s i (number n) = rose (part (shapes.Number (literal (value_of n))) i (i + 1)) Turned.none
  rose_as s i (text t) = rose (part shapes.Text i (i + 1)) Turned.none
  rose_as s i (parens e) = rose_as shapes.Block (i + 1) e
  rose_as s i (call c es) = rose (part shapes.Call i (arguments_end (end_of i c + 1) es)) (Turned.also (rose_as shapes.Block i c) (argument_roses (end_of i c + 1) es))
  rose_as s i (assign x e) = rose (part shapes.Assign i (end_of ((i + 1) + 1) e)) (Turned.also (rose_as shapes.Block ((i + 1) + 1) e) Turned.none)
  rose_as s i (either a b) = rose (part shapes.Or i (end_of (end_of i a + 1) b)) (two (rose_as shapes.Block i a) (rose_as shapes.Block (end_of i a + 1) b))
  rose_as s i (both a b) = rose (part shapes.And i (end_of (end_of i a + 1) b)) (two (rose_as shapes.Block i a) (rose_as shapes.Block (end_of i a + 1) b))
  rose_as s i (compared o a b) = rose (part (shapes.Binary (comparison o)) i (end_of (end_of i a + 1) b)) (two (rose_as shapes.Block i a) (rose_as shapes.Block (end_of i a + 1) b))
  rose_as s i (sum o a b) = rose (part (shapes.Binary (addition o)) i (end_of (end_of i a + 1) b)) (two (rose_as shapes.Block i a) (rose_as shapes.Block (end_of i a + 1) b))
  rose_as s i (product o a b) = rose (part (shapes.Binary (multiplication o)) i (end_of (end_of i a + 1) b)) (two (rose_as shapes.Block i a) (rose_as shapes.Block (end_of i a + 1) b))
  rose_as s i (while c b) = rose (part shapes.While i (end_of (end_of ((i + 1) + 1) c + 1) b)) (two (rose_as shapes.Block ((i + 1) + 1) c) (rose_as shapes.Block (end_of ((i + 1) + 1) c + 1) b))
  rose_as s i (conditional c b) = rose (part shapes.If i (end_of (end_of ((i + 1) + 1) c + 1) b)) (two (rose_as shapes.Block ((i + 1) + 1) c) (rose_as shapes.Block (end_of ((i + 1) + 1) c + 1) b))
  rose_as s i (conditional_else c b d) = rose (part shapes.If i (end_of (end_of (end_of ((i + 1) + 1) c + 1) b + 1) d)) (Turned.also (rose_as shapes.Block ((i + 1) + 1) c) (two (rose_as shapes.Block (end_of ((i + 1) + 1) c + 1) b) (rose_as shapes.Block (end_of (end_of ((i + 1) + 1) c + 1) b + 1) d)))
  rose_as s i return_nothing = rose (part shapes.Return i (i + 1)) Turned.none
  rose_as s i (return e) = rose (part shapes.Return i (end_of (i + 1) e)) (Turned.also (rose_as shapes.Block (i + 1) e) Turned.none)
  rose_as s i break = rose (part shapes.Break i (i + 1)) Turned.none
  rose_as s i continue = rose (part shapes.Continue i (i + 1)) Turned.none
  rose_as s i debugger = rose (part shapes.Debugger i (i + 1)) Turned.none
  rose_as s i (expression_statement e) = rose_as shapes.Block i e
  rose_as s i (block ss) = rose (part s i (trees_end (i + 1) ss + 1)) (roses (i + 1) ss)
  rose_as s i (function x xs b) = rose (part (shapes.Function (length_of xs)) i (end_of (body_place i xs) b)) (Turned.also (rose_as shapes.Body (body_place i xs) b) Turned.none)

  -- and of the arguments of a call
  pub argument_roses : ℕ → Trees → Roses Part
  argument_roses i none = Turned.none
  argument_roses i (also e es) = Turned.also (rose_as shapes.Block i e) (more_argument_roses (end_of i e) es)

  -- and of further arguments, each with a `,` before it
  pub more_argument_roses : ℕ → Trees → Roses Part
  more_argument_roses i none = Turned.none
  more_argument_roses i (also e es) = Turned.also (rose_as shapes.Block (i + 1) e) (more_argument_roses (end_of (i + 1) e) es)

  -- and of trees, one after another
  pub roses : ℕ → Trees → Roses Part
  roses i none = Turned.none
  roses i (also t ts) = Turned.also (rose_as shapes.Block i t) (roses (end_of i t) ts)
