-- Definition: what refuses a source, by its words: the first breach of a rule, and at one word the first rule in this
-- order.
use Rattle.std.specs.Prelude.{◌≡◌, ℕ, ◌+◌, ◌<◌, ◌≤◌, Bool, true, false, List, [], ◌∷◌, ◌++◌, length, Result, Ok, Err}
use Rattle.pd_pl0_spell.specs.Words.{Word, Number, Open, Close, Semicolon, Period, ConstKey, VarKey, ProcedureKey, BeginKey, EndKey, IfKey, WhileKey, Tree, parens, signed, sum, product, odd, compared, assign, write, sequence, conditional, while, block, procedure, Trees, none, also}
use Rattle.pd_pl0_spell.specs.Names.{Rule, Unexpected, LiteralTooLarge, Doubled, Undeclared, NotAssignable, NotAProcedure, NotAValue, TooDeep, TooManyNodes, Rules, no_rule, every_rule, only}
use Rattle.pd_pl0_spell.specs.Grammar.{Program}

-- What is open after some words: a `(` or `begin`, an `if` or `while`, the block of a procedure.
pub data Opener : Type 0 where
  Bracket : Opener
  Heading : Opener
  Procedure : Opener

-- what is open after some words
pub record Opened : Type 0 where
  -- from the inside
  pub openers : List Opener
  -- a `const`, `var` or `procedure` stands before the next `;`, so that this ends no statement
  pub declaring : Bool

-- An `if` and a `while` end with the statement inside, at the word after it.
abbrev pub without_headings : List Opener → List Opener
without_headings [] = []
without_headings (Heading ∷ os) = without_headings os
without_headings (Bracket ∷ os) = Bracket ∷ os
without_headings (Procedure ∷ os) = Procedure ∷ os

-- without the innermost of what is open
abbrev pub without_bracket : List Opener → List Opener
without_bracket [] = []
without_bracket (x ∷ os) = os

-- a `;` after a statement that stands in no `begin` ends the procedure's block
abbrev pub without_procedure : List Opener → List Opener
without_procedure [] = []
without_procedure (Bracket ∷ os) = Bracket ∷ os
without_procedure (Heading ∷ os) = Heading ∷ os
without_procedure (Procedure ∷ os) = os

-- what is open after a `;`; in a declaration it ends no statement
abbrev pub behind_semicolon : Bool → List Opener → List Opener
behind_semicolon true os = os
behind_semicolon false os = without_procedure (without_headings os)

-- what is open after one more word
abbrev pub opened : Opened → Word → Opened
opened o Open = record { openers = Bracket ∷ o.openers; declaring = o.declaring }
opened o Close = record { openers = without_bracket o.openers; declaring = o.declaring }
opened o BeginKey = record { openers = Bracket ∷ o.openers; declaring = o.declaring }
opened o EndKey = record { openers = without_bracket (without_headings o.openers); declaring = o.declaring }
opened o IfKey = record { openers = Heading ∷ o.openers; declaring = o.declaring }
opened o WhileKey = record { openers = Heading ∷ o.openers; declaring = o.declaring }
opened o ConstKey = record { openers = o.openers; declaring = true }
opened o VarKey = record { openers = o.openers; declaring = true }
opened o ProcedureKey = record { openers = Procedure ∷ o.openers; declaring = true }
opened o Semicolon = record { openers = behind_semicolon o.declaring o.openers; declaring = false }
opened o Period = record { openers = without_headings o.openers; declaring = o.declaring }
opened o w = o

-- what is open after these words
abbrev pub opened_behind : Opened → List Word → Opened
opened_behind o [] = o
opened_behind o (w ∷ ws) = opened_behind (opened o w) ws

-- before the first word
abbrev pub nothing_open : Opened
nothing_open = record { openers = []; declaring = false }

-- how much is open after these words
abbrev pub nesting : List Word → ℕ
nesting ws = length (opened_behind nothing_open ws).openers

-- the words begin a program of the grammar in which these rules on names are kept
abbrev pub Begins : Rules → List Word → Type 0
Begins rules ws = (more : List Word) × (T : Tree) × Program rules (ws ++ more) T

-- 2^63 - 1, the largest number that a source may have
abbrev pub largest : ℕ
largest = 9223372036854775807

-- the word is a number above that
abbrev pub IsTooLarge : Word → Type 0
IsTooLarge (Number v) = largest < v
IsTooLarge _ = ⊥

-- The word breaks the rule, where these words stand before it. A rule on names is broken where the words up to this one
-- begin no program in which this rule is kept.
abbrev pub Breaches : List Word → Word → Rule → Type 0
Breaches before w Unexpected = Begins no_rule (before ++ w ∷ []) → ⊥
Breaches before w LiteralTooLarge = IsTooLarge w
Breaches before w Doubled = Begins (only Doubled) (before ++ w ∷ []) → ⊥
Breaches before w Undeclared = Begins (only Undeclared) (before ++ w ∷ []) → ⊥
Breaches before w NotAssignable = Begins (only NotAssignable) (before ++ w ∷ []) → ⊥
Breaches before w NotAProcedure = Begins (only NotAProcedure) (before ++ w ∷ []) → ⊥
Breaches before w NotAValue = Begins (only NotAValue) (before ++ w ∷ []) → ⊥
Breaches before w TooDeep = 200 < nesting (before ++ w ∷ [])
Breaches before w TooManyNodes = ⊥

-- no word breaks a rule
abbrev pub IsClean : List Word → Type 0
IsClean ws = (before after : List Word) (w : Word) → ws ≡ before ++ w ∷ after → (rule : Rule) → Breaches before w rule → ⊥

-- no number is too large, and nothing is nested too deep
abbrev pub IsWithinLimits : List Word → Type 0
IsWithinLimits ws = (before after : List Word) (w : Word) → ws ≡ before ++ w ∷ after → (IsTooLarge w → ⊥) × (nesting (before ++ w ∷ []) ≤ 200)

-- the place of a rule in the order in which they are tried
abbrev pub rank : Rule → ℕ
rank Unexpected = 0
rank LiteralTooLarge = 1
rank Doubled = 2
rank Undeclared = 3
rank NotAssignable = 4
rank NotAProcedure = 5
rank NotAValue = 6
rank TooDeep = 7
rank TooManyNodes = 8

-- of two rules that one word breaks, the first is told
abbrev pub Precedes : Rule → Rule → Type 0
Precedes r s = rank r < rank s

-- the words before are clean, and the word breaks this rule, and none that precedes it
pub record FirstBreach (ws : List Word) (rule : Rule) (at : ℕ) : Type 0 where
  pub before : List Word
  pub word : Word
  pub after : List Word
  pub whole : ws ≡ before ++ word ∷ after
  pub place : length before ≡ at
  pub clean : IsClean before
  pub breach : Breaches before word rule
  pub first : (other : Rule) → Precedes other rule → Breaches before word other → ⊥

-- Parentheses make no node. A block is the node of its procedure and that of its body.
abbrev mutual
  pub nodes : Tree → ℕ
  nodes (parens e) = nodes e
  nodes (signed o e) = 1 + nodes e
  nodes (sum o a b) = 1 + nodes a + nodes b
  nodes (product o a b) = 1 + nodes a + nodes b
  nodes (odd e) = 1 + nodes e
  nodes (compared o a b) = 1 + nodes a + nodes b
  nodes (assign x e) = 1 + nodes e
  nodes (write e) = 1 + nodes e
  nodes (sequence ss) = 1 + all_nodes ss
  nodes (conditional c a) = 1 + nodes c + nodes a
  nodes (while c a) = 1 + nodes c + nodes a
  nodes (block cs vs ps a) = 2 + all_nodes ps + nodes a
  nodes (procedure x b) = nodes b
  nodes _ = 1

  pub all_nodes : Trees → ℕ
  all_nodes none = 0
  all_nodes (also t ts) = nodes t + all_nodes ts

-- Why a source is refused: a word breaks a rule, or the words end too early, or make too many nodes.
-- The place after the last word is the number of words.
pub data Refuses (room : ℕ) (ws : List Word) (rule : Rule) (at : ℕ) : Type 0 where
  at_word : FirstBreach ws rule at → Refuses room ws rule at
  at_end : IsClean ws → ((T : Tree) → Program no_rule ws T → ⊥) → rule ≡ Unexpected → at ≡ length ws → Refuses room ws rule at
  too_many : (T : Tree) → IsClean ws → Program every_rule ws T → room < nodes T → rule ≡ TooManyNodes → at ≡ length ws → Refuses room ws rule at

-- A tree is the answer exactly where it is spelled, with the declarations in scope, and no rule is broken. No other tree is spelled, whatever its names mean.
pub record Accepts (room : ℕ) (ws : List Word) (T : Tree) : Type 0 where
  pub spelled : Program every_rule ws T
  pub only_one : (other : Tree) → Program no_rule ws other → other ≡ T
  pub clean : IsClean ws
  pub fits : nodes T ≤ room

-- the answer is the tree that the words spell within the rules, or the first breach
abbrev pub Answers : ℕ → List Word → Result Tree (Rule × ℕ) → Type 0
Answers room ws (Ok T) = Accepts room ws T
Answers room ws (Err e) = Refuses room ws e.0 e.1
