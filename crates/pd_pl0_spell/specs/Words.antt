-- Definition: the words of a source, and the trees that they spell.
use Rattle.std.specs.Prelude.{ℕ, List}

-- the comparisons
pub data Comparing : Type 0 where
  Equal : Comparing
  NotEqual : Comparing
  Less : Comparing
  LessEq : Comparing
  Greater : Comparing
  GreaterEq : Comparing

-- `+` and `-`, between operands and as signs
pub data Adding : Type 0 where
  Plus : Adding
  Minus : Adding

-- `*` and `/`
pub data Multiplying : Type 0 where
  Times : Multiplying
  Over : Multiplying

-- a token, as far as the grammar is concerned: the bytes of a name, the value of a number
pub data Word : Type 0 where
  Name : List ℕ → Word
  Number : ℕ → Word
  Compares : Comparing → Word
  Adds : Adding → Word
  Multiplies : Multiplying → Word
  Becomes : Word
  Writes : Word
  Open : Word
  Close : Word
  Comma : Word
  Semicolon : Word
  Period : Word
  ConstKey : Word
  VarKey : Word
  ProcedureKey : Word
  CallKey : Word
  BeginKey : Word
  EndKey : Word
  IfKey : Word
  ThenKey : Word
  WhileKey : Word
  DoKey : Word
  OddKey : Word

-- a constant's name and its value
pub record Constant : Type 0 where
  pub name : List ℕ
  pub value : ℕ

-- A tree keeps the parentheses of its expressions, so that it determines its words.
-- A block has constants, variables, procedures and a statement; the tree of a program is its block.
mutual
  -- a node of the source's tree, with its parts; `parens` keeps a pair of parentheses, which makes no node
  pub data Tree : Type 0 where
    name : List ℕ → Tree
    number : ℕ → Tree
    parens : Tree → Tree
    signed : Adding → Tree → Tree
    sum : Adding → Tree → Tree → Tree
    product : Multiplying → Tree → Tree → Tree
    odd : Tree → Tree
    compared : Comparing → Tree → Tree → Tree
    empty : Tree
    assign : List ℕ → Tree → Tree
    call : List ℕ → Tree
    write : Tree → Tree
    sequence : Trees → Tree
    conditional : Tree → Tree → Tree
    while : Tree → Tree → Tree
    block : List Constant → List (List ℕ) → Trees → Tree → Tree
    procedure : List ℕ → Tree → Tree

  -- trees in order
  pub data Trees : Type 0 where
    none : Trees
    also : Tree → Trees → Trees

-- one list of trees after another
abbrev pub joined : Trees → Trees → Trees
joined none ys = ys
joined (also x xs) ys = also x (joined xs ys)

-- the trees, and one more
abbrev pub with_last : Trees → Tree → Trees
with_last xs x = joined xs (also x none)
