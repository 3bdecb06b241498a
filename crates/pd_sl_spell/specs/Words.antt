-- Definition: the words of a source, and the trees that they spell.
use Rattle.std.specs.Prelude.{ℕ, List}

-- the comparisons
pub data Comparing : Type 0 where
  Equal : Comparing
  NotEqual : Comparing
  Less : Comparing
  LessEq : Comparing
  Greater : Comparing
  GreaterEq : Comparing

-- `+` and `-`
pub data Adding : Type 0 where
  Plus : Adding
  Minus : Adding

-- `*` and `/`
pub data Multiplying : Type 0 where
  Times : Multiplying
  Over : Multiplying

-- a token, as far as the grammar is concerned: the bytes of a name or a text, the value of a number
pub data Word : Type 0 where
  Name : List ℕ → Word
  Number : ℕ → Word
  Text : List ℕ → Word
  Or : Word
  And : Word
  Compares : Comparing → Word
  Adds : Adding → Word
  Multiplies : Multiplying → Word
  Becomes : Word
  Open : Word
  Close : Word
  OpenBlock : Word
  CloseBlock : Word
  Comma : Word
  Semicolon : Word
  FunctionKey : Word
  WhileKey : Word
  IfKey : Word
  ElseKey : Word
  ReturnKey : Word
  BreakKey : Word
  ContinueKey : Word
  DebuggerKey : Word

-- A tree keeps the parentheses of its expressions, and says where an expression is a statement, so that it determines its words.
mutual
  -- a node of the source's tree, with its parts; `parens` keeps a pair of parentheses, which makes no node
  pub data Tree : Type 0 where
    name : List ℕ → Tree
    number : ℕ → Tree
    text : List ℕ → Tree
    parens : Tree → Tree
    call : Tree → Trees → Tree
    assign : List ℕ → Tree → Tree
    either : Tree → Tree → Tree
    both : Tree → Tree → Tree
    compared : Comparing → Tree → Tree → Tree
    sum : Adding → Tree → Tree → Tree
    product : Multiplying → Tree → Tree → Tree
    while : Tree → Tree → Tree
    conditional : Tree → Tree → Tree
    conditional_else : Tree → Tree → Tree → Tree
    return_nothing : Tree
    return : Tree → Tree
    break : Tree
    continue : Tree
    debugger : Tree
    expression_statement : Tree → Tree
    block : Trees → Tree
    function : List ℕ → List (List ℕ) → Tree → Tree

  -- trees in order
  pub data Trees : Type 0 where
    none : Trees
    also : Tree → Trees → Trees

-- one list of trees after another
abbrev pub joined : Trees → Trees → Trees
joined none ys = ys
joined (also x xs) ys = also x (joined xs ys)

-- the trees, and one more
abbrev pub with_last : Trees → Tree → Trees
with_last xs x = joined xs (also x none)
