-- Definition: the nodes of a source as they are added to its tree.
use Rattle.std.specs.Prelude.{◌≡◌, ℕ, ◌+◌, ◌*◌, ◌<◌, ◌^◌, List, [], ◌∷◌, ◌++◌, length, slice_index_or, codes}
use Rattle.std.specs.Str.{IsUtf8}
use Rattle.pd_sections.specs.declared.Token.{Token}
use Rattle.pd_sections.specs.Positions.{line_at, column_at}
use Rattle.pd_tree.specs.declared.addition.Addition.{Addition}
use Rattle.pd_tree.specs.declared.kind.Meaning.{Meaning}
use Rattle.pd_tree.specs.declared.kind.Meaning.TheVariants.{Nothing}
use Rattle.pd_tree.specs.declared.kind.Kind.{Kind}
use Rattle.pd_tree.specs.declared.kind.Kind.TheVariants.{PlProcedure, PlBody, PlEmpty, PlBegin, PlIf, PlWhile, PlAssign, PlCall, PlWrite, PlOdd, PlBinary, PlPlus, PlMinus, PlName, PlNumber}
use Rattle.pd_tree.specs.Linked.{names_in}
use Rattle.pd_turn.specs.declared.Node.{Node}
use Rattle.pd_turn.specs.Turned.{pres}
use Rattle.pd_pl0_spell.specs.Words.{Tree}
use Rattle.pd_pl0_spell.specs.Refusals.{Accepts}
use Rattle.pd_pl0_read.specs.declared.parts.Part.{Part}
use Rattle.pd_pl0_read.specs.declared.parts.Shape.{Shape}
use Rattle.pd_pl0_read.specs.declared.parts.Shape.TheVariants as shapes
use Rattle.pd_pl0_read.specs.Places.{program_trees}
use Rattle.pd_pl0_read.specs.Tokens.{words_of}
use Rattle.pd_pl0_parse.specs.Texts.{token_at, text_at, section_of, first_constant, first_variable}

-- the characters of these bytes, which are UTF-8
abbrev pub IsText : List ℕ → List ℕ → Type 0
IsText bytes text = IsUtf8 bytes → text ≡ bytes

-- `n` names, of which the first is this token, and each next one `step` tokens on
pub record AreNames (bytes : List ℕ) (tokens : List Token) (first step n : ℕ) (names : List (List ℕ)) : Type 0 where
  pub many : length names ≡ n
  pub each : (k : ℕ) → k < n → IsText (text_at bytes tokens (first + step * k)) (slice_index_or names k [])

-- the variables of a block that begins at `first` and has `m` constants and `n` variables
abbrev pub AreVariables : List ℕ → List Token → ℕ → ℕ → ℕ → List (List ℕ) → Type 0
AreVariables bytes tokens first m n names = AreNames bytes tokens (first_variable first m) 2 n names

-- the kind of a node with this shape whose first token is `first`, with the texts of its own tokens
abbrev pub KindIs : List ℕ → List Token → Shape → ℕ → Kind → Type 0
KindIs bytes tokens (shapes.Main m n) first k = (names : List (List ℕ)) × (k ≡ PlProcedure (codes "main") names) × AreVariables bytes tokens first m n names
KindIs bytes tokens (shapes.Procedure m n) first k =
    (name : List ℕ) × (names : List (List ℕ)) × (k ≡ PlProcedure name names) × IsText (text_at bytes tokens (first + 1)) name × AreVariables bytes tokens (first + 3) m n names
KindIs bytes tokens shapes.Body first k = k ≡ PlBody
KindIs bytes tokens shapes.Empty first k = k ≡ PlEmpty
KindIs bytes tokens shapes.Begin first k = k ≡ PlBegin
KindIs bytes tokens shapes.If first k = k ≡ PlIf
KindIs bytes tokens shapes.While first k = k ≡ PlWhile
KindIs bytes tokens (shapes.Assign m) first k = (name : List ℕ) × (k ≡ PlAssign name) × IsText (text_at bytes tokens first) name
KindIs bytes tokens shapes.Call first k = (name : List ℕ) × (k ≡ PlCall name) × IsText (text_at bytes tokens (first + 1)) name
KindIs bytes tokens shapes.Write first k = k ≡ PlWrite
KindIs bytes tokens shapes.Odd first k = k ≡ PlOdd
KindIs bytes tokens (shapes.Binary o) first k = k ≡ PlBinary o
KindIs bytes tokens shapes.Plus first k = k ≡ PlPlus
KindIs bytes tokens shapes.Minus first k = k ≡ PlMinus
KindIs bytes tokens (shapes.Name m) first k = (name : List ℕ) × (k ≡ PlName name) × IsText (text_at bytes tokens first) name
KindIs bytes tokens (shapes.Number v) first k = k ≡ PlNumber v

-- what a node's name means, where its shape says it
abbrev pub meaning_in : Shape → Meaning
meaning_in (shapes.Assign m) = m
meaning_in (shapes.Name m) = m
meaning_in _ = Nothing

-- the constants that a procedure's block declares
abbrev pub ConstantsAre : List ℕ → List Token → Shape → ℕ → List (List ℕ) → Type 0
ConstantsAre bytes tokens (shapes.Main m n) first names = AreNames bytes tokens (first_constant first) 4 m names
ConstantsAre bytes tokens (shapes.Procedure m n) first names = AreNames bytes tokens (first_constant (first + 3)) 4 m names
ConstantsAre bytes tokens _ first names = names ≡ []

-- the addition of a node
pub record IsAdditionOf (bytes : List ℕ) (tokens : List Token) (source : ℕ) (node : Node Part) (a : Addition) : Type 0 where
  pub kind : KindIs bytes tokens node.what.shape node.what.first a.kind
  pub section : a.section ≡ section_of source tokens node.what
  pub line : a.line ≡ line_at bytes (token_at tokens node.what.first).start
  pub column : a.column ≡ column_at bytes (token_at tokens node.what.first).start
  pub meaning : a.meaning ≡ meaning_in node.what.shape
  pub children : a.children ≡ node.parts
  pub constants : ConstantsAre bytes tokens node.what.shape node.what.first a.constants

-- the additions of nodes in the order of their text
abbrev pub AreAdditionsOf : List ℕ → List Token → ℕ → List (Node Part) → List Addition → Type 0
AreAdditionsOf bytes tokens source [] [] = Unit {0}
AreAdditionsOf bytes tokens source (x ∷ xs) (a ∷ as') = IsAdditionOf bytes tokens source x a × AreAdditionsOf bytes tokens source xs as'
AreAdditionsOf bytes tokens source _ _ = ⊥

-- a node's addition is the last one
abbrev pub IsAdded : List ℕ → List Token → ℕ → Node Part → List Addition → List Addition → Type 0
IsAdded bytes tokens source node before after =
    (a : Addition) × (after ≡ before ++ a ∷ []) × IsAdditionOf bytes tokens source node a × (length (names_in a.kind) < 2 ^ 32)

-- the tree of the one program that the tokens spell within the rules
abbrev pub IsTreeOf : ℕ → List ℕ → List Token → ℕ → List Addition → Type 0
IsTreeOf room bytes tokens source additions = (T : Tree) × Accepts room (words_of bytes tokens) T × AreAdditionsOf bytes tokens source (pres (program_trees T)) additions
