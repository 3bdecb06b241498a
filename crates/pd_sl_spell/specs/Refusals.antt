-- Definition: what refuses a source, by its words: the first breach of a rule, and at one word the first rule in this
-- order.
use Rattle.std.specs.Prelude.{◌≡◌, ℕ, ◌+◌, ◌<◌, ◌≤◌, List, [], ◌∷◌, ◌++◌, length, Result, Ok, Err}
use Rattle.pd_sl_spell.specs.Words.{Word, Number, Becomes, Open, Close, OpenBlock, CloseBlock, Comma, Semicolon, Tree, parens, call, assign, either, both, compared, sum, product, while, conditional, conditional_else, return, expression_statement, block, function, Trees, none, also}
use Rattle.pd_sl_spell.specs.Grammar.{Program}

-- the rules by which a source is refused
pub data Rule : Type 0 where
  Unexpected : Rule
  LiteralTooLarge : Rule
  TooDeep : Rule
  TooManyNodes : Rule

-- What is open after some words: brackets, and assignments whose right side is being read.
pub data Opener : Type 0 where
  Bracket : Opener
  Assignment : Opener

-- an assignment ends with the bracket that it stands in, and at a `,` or `;`
abbrev pub without_assignments : List Opener → List Opener
without_assignments [] = []
without_assignments (Assignment ∷ os) = without_assignments os
without_assignments (Bracket ∷ os) = Bracket ∷ os

-- without the innermost of what is open
abbrev pub without_bracket : List Opener → List Opener
without_bracket [] = []
without_bracket (x ∷ os) = os

-- what is open after one more word
abbrev pub opened : List Opener → Word → List Opener
opened os Open = Bracket ∷ os
opened os OpenBlock = Bracket ∷ os
opened os Becomes = Assignment ∷ os
opened os Close = without_bracket (without_assignments os)
opened os CloseBlock = without_bracket (without_assignments os)
opened os Comma = without_assignments os
opened os Semicolon = without_assignments os
opened os w = os

-- what is open after these words, where this was open before them
abbrev pub open_behind : List Opener → List Word → List Opener
open_behind os [] = os
open_behind os (w ∷ ws) = open_behind (opened os w) ws

-- how much is open after these words
abbrev pub nesting : List Word → ℕ
nesting ws = length (open_behind [] ws)

-- the words begin a program of the grammar
abbrev pub Begins : List Word → Type 0
Begins ws = (more : List Word) × (T : Trees) × Program (ws ++ more) T

-- 2^63 - 1, the largest number that a source may have
abbrev pub largest : ℕ
largest = 9223372036854775807

-- the word is a number above that
abbrev pub IsTooLarge : Word → Type 0
IsTooLarge (Number n) = largest < n
IsTooLarge _ = ⊥

-- the word breaks the rule, where these words stand before it
abbrev pub Breaches : List Word → Word → Rule → Type 0
Breaches before w Unexpected = Begins (before ++ w ∷ []) → ⊥
Breaches before w LiteralTooLarge = IsTooLarge w
Breaches before w TooDeep = 200 < nesting (before ++ w ∷ [])
Breaches before w TooManyNodes = ⊥

-- no word breaks a rule
abbrev pub IsClean : List Word → Type 0
IsClean ws = (before after : List Word) (w : Word) → ws ≡ before ++ w ∷ after → (rule : Rule) → Breaches before w rule → ⊥

-- of two rules that one word breaks, the first is told
abbrev pub Precedes : Rule → Rule → Type 0
Precedes Unexpected LiteralTooLarge = Unit {0}
Precedes Unexpected TooDeep = Unit {0}
Precedes LiteralTooLarge TooDeep = Unit {0}
Precedes _ _ = ⊥

-- the words before are clean, and the word breaks this rule, and none that precedes it
pub record FirstBreach (ws : List Word) (rule : Rule) (at : ℕ) : Type 0 where
  pub before : List Word
  pub word : Word
  pub after : List Word
  pub whole : ws ≡ before ++ word ∷ after
  pub place : length before ≡ at
  pub clean : IsClean before
  pub breach : Breaches before word rule
  pub first : (other : Rule) → Precedes other rule → Breaches before word other → ⊥

-- Parentheses make no node. A function's block and body are one.
abbrev mutual
  pub nodes : Tree → ℕ
  nodes (parens e) = nodes e
  nodes (call c es) = 1 + nodes c + all_nodes es
  nodes (assign x e) = 1 + nodes e
  nodes (either a b) = 1 + nodes a + nodes b
  nodes (both a b) = 1 + nodes a + nodes b
  nodes (compared o a b) = 1 + nodes a + nodes b
  nodes (sum o a b) = 1 + nodes a + nodes b
  nodes (product o a b) = 1 + nodes a + nodes b
  nodes (while c b) = 1 + nodes c + nodes b
  nodes (conditional c b) = 1 + nodes c + nodes b
  nodes (conditional_else c b b') = 1 + nodes c + nodes b + nodes b'
  nodes (return e) = 1 + nodes e
  nodes (expression_statement e) = nodes e
  nodes (block ss) = 1 + all_nodes ss
  nodes (function x xs b) = 1 + nodes b
  nodes _ = 1

  pub all_nodes : Trees → ℕ
  all_nodes none = 0
  all_nodes (also t ts) = nodes t + all_nodes ts

-- Why a source is refused: a word breaks a rule, or the words end too early, or make too many nodes.
-- The place after the last word is the number of words.
pub data Refuses (room : ℕ) (ws : List Word) (rule : Rule) (at : ℕ) : Type 0 where
  at_word : FirstBreach ws rule at → Refuses room ws rule at
  at_end : IsClean ws → ((T : Trees) → Program ws T → ⊥) → rule ≡ Unexpected → at ≡ length ws → Refuses room ws rule at
  too_many : (T : Trees) → IsClean ws → Program ws T → room < all_nodes T → rule ≡ TooManyNodes → at ≡ length ws → Refuses room ws rule at

-- A tree is the answer exactly where it is spelled and no rule is broken.
pub record Accepts (room : ℕ) (ws : List Word) (T : Trees) : Type 0 where
  pub spelled : Program ws T
  pub only : (other : Trees) → Program ws other → other ≡ T
  pub clean : IsClean ws
  pub fits : all_nodes T ≤ room

-- the answer is the trees that the words spell within the rules, or the first breach
abbrev pub Answers : ℕ → List Word → Result Trees (Rule × ℕ) → Type 0
Answers room ws (Ok T) = Accepts room ws T
Answers room ws (Err e) = Refuses room ws e.0 e.1
