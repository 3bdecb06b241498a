-- Definition: the nodes of a source as they are added to its tree.
use Rattle.std.specs.Prelude.{◌≡◌, ℕ, ◌+◌, ◌-◌, ◌*◌, ◌<◌, ◌^◌, List, [], ◌∷◌, ◌++◌, length, take, drop, slice_index_or}
use Rattle.std.specs.Str.{IsUtf8}
use Rattle.pd_sections.specs.declared.Token.{Token}
use Rattle.pd_sections.specs.declared.Section.{Section}
use Rattle.pd_sections.specs.Positions.{line_at, column_at}
use Rattle.pd_tree.specs.declared.addition.Addition.{Addition}
use Rattle.pd_tree.specs.Linked.{names_in}
use Rattle.pd_tree.specs.declared.kind.Kind.{Kind}
use Rattle.pd_tree.specs.declared.kind.Meaning.{Meaning}
use Rattle.pd_tree.specs.declared.kind.Kind.TheVariants.{SlFunction, SlBody, SlBlock, SlIf, SlWhile, SlReturn, SlBreak, SlContinue, SlDebugger, SlOr, SlAnd, SlBinary, SlCall, SlAssign, SlName, SlNumber, SlText}
use Rattle.pd_turn.specs.declared.Node.{Node}
use Rattle.pd_sl_read.specs.declared.parts.Part.{Part}
use Rattle.pd_sl_read.specs.declared.parts.Shape.{Shape}
use Rattle.pd_sl_read.specs.declared.parts.Shape.TheVariants as shapes
use Rattle.pd_turn.specs.Turned.{pres}
use Rattle.pd_sl_spell.specs.Words.{Trees}
use Rattle.pd_sl_spell.specs.Refusals.{Accepts}
use Rattle.pd_sl_read.specs.Places.{roses}
use Rattle.pd_sl_read.specs.Tokens.{words_of}
use Rattle.pd_sl_parse.specs.Locals.{meaning_of}
use Rattle.pd_sl_parse.specs.Scopes.{token_at, text_at, Scoped, meaning_in}

-- from the first token's first byte to the last token's last
abbrev pub section_of : ℕ → List Token → Part → Section
section_of source tokens p =
    let first = token_at tokens p.first in
    let last = token_at tokens (p.end - 1) in
    record { source = source; start = first.start; len = (last.start + last.len) - first.start }

-- without the two `"`
abbrev pub inner : List ℕ → List ℕ
inner text = take (length text - 2) (drop 1 text)

-- the characters of these bytes, which are UTF-8
abbrev pub IsText : List ℕ → List ℕ → Type 0
IsText bytes text = IsUtf8 bytes → text ≡ bytes

-- the names of `n` parameters, of which the first is this token, and every second
pub record AreNames (bytes : List ℕ) (tokens : List Token) (first n : ℕ) (names : List (List ℕ)) : Type 0 where
  pub many : length names ≡ n
  pub each : (k : ℕ) → k < n → IsText (text_at bytes tokens (first + 2 * k)) (slice_index_or names k [])

-- the kind of a node with this shape whose first token is `first`, with the texts of its own tokens
abbrev pub KindIs : List ℕ → List Token → Shape → ℕ → Kind → Type 0
KindIs bytes tokens (shapes.Function n) first k =
    (name : List ℕ) × (names : List (List ℕ)) × (k ≡ SlFunction name names) × IsText (text_at bytes tokens (first + 1)) name × AreNames bytes tokens (first + 3) n names
KindIs bytes tokens shapes.Body first k = k ≡ SlBody
KindIs bytes tokens shapes.Block first k = k ≡ SlBlock
KindIs bytes tokens shapes.If first k = k ≡ SlIf
KindIs bytes tokens shapes.While first k = k ≡ SlWhile
KindIs bytes tokens shapes.Return first k = k ≡ SlReturn
KindIs bytes tokens shapes.Break first k = k ≡ SlBreak
KindIs bytes tokens shapes.Continue first k = k ≡ SlContinue
KindIs bytes tokens shapes.Debugger first k = k ≡ SlDebugger
KindIs bytes tokens shapes.Or first k = k ≡ SlOr
KindIs bytes tokens shapes.And first k = k ≡ SlAnd
KindIs bytes tokens (shapes.Binary o) first k = k ≡ SlBinary o
KindIs bytes tokens shapes.Call first k = k ≡ SlCall
KindIs bytes tokens shapes.Assign first k = (name : List ℕ) × (k ≡ SlAssign name) × IsText (text_at bytes tokens first) name
KindIs bytes tokens shapes.Name first k = (name : List ℕ) × (k ≡ SlName name) × IsText (text_at bytes tokens first) name
KindIs bytes tokens (shapes.Number v) first k = k ≡ SlNumber v
KindIs bytes tokens shapes.Text first k = (text : List ℕ) × (k ≡ SlText text) × IsText (inner (text_at bytes tokens first)) text

-- the addition of a node whose name means this
pub record IsAdditionOf (bytes : List ℕ) (tokens : List Token) (source : ℕ) (meaning : Meaning) (node : Node Part) (a : Addition) : Type 0 where
  pub kind : KindIs bytes tokens node.what.shape node.what.first a.kind
  pub section : a.section ≡ section_of source tokens node.what
  pub line : a.line ≡ line_at bytes (token_at tokens node.what.first).start
  pub column : a.column ≡ column_at bytes (token_at tokens node.what.first).start
  pub means : a.meaning ≡ meaning
  pub children : a.children ≡ node.parts
  pub constants : a.constants ≡ []

-- the additions of nodes in the order of their text, after the earlier ones, of which the latest is the first
abbrev pub AreAdditionsOf : List ℕ → List Token → ℕ → List Part → List (Node Part) → List Addition → Type 0
AreAdditionsOf bytes tokens source earlier [] [] = Unit {0}
AreAdditionsOf bytes tokens source earlier (x ∷ xs) (a ∷ as') =
    IsAdditionOf bytes tokens source (meaning_of bytes tokens x.what.shape x.what earlier) x a × AreAdditionsOf bytes tokens source (x.what ∷ earlier) xs as'
AreAdditionsOf bytes tokens source earlier _ _ = ⊥

-- a node's addition is the last one, with what its name means in a scope
abbrev pub IsAdded : List ℕ → List Token → ℕ → Scoped → Node Part → List Addition → List Addition → Type 0
IsAdded bytes tokens source s node before after =
    (a : Addition) × (after ≡ before ++ a ∷ []) × IsAdditionOf bytes tokens source (meaning_in node.what.shape bytes tokens node.what s) node a × (length (names_in a.kind) < 2 ^ 32)

-- the tree of the one program that the tokens spell within the rules
abbrev pub IsTreeOf : ℕ → List ℕ → List Token → ℕ → List Addition → Type 0
IsTreeOf room bytes tokens source tree = (T : Trees) × Accepts room (words_of bytes tokens) T × AreAdditionsOf bytes tokens source [] (pres (roses 0 T)) tree
