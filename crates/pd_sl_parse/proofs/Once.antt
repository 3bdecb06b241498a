-- A source that is UTF-8 has one tree.
use Rattle.std.proofs.Common.{◌≡◌, ℕ, zero, suc, ◌+◌, ◌*◌, ◌<◌, Bool, true, false, List, [], ◌∷◌, length, drop, refl, sym, ap, subst, ◌∙◌, arith}
use Rattle.std.specs.Prelude.{if◌then◌else◌, ◌==◌, slice_index}
use Rattle.std.specs.Str.{IsUtf8}
use Rattle.std.proofs.lemmas.List.{ext_get_or}
use Rattle.pd_sections.specs.declared.Token.{Token}
use Rattle.pd_sections.specs.declared.Section.{Section}
use Rattle.pd_sections.specs.declared.TokenKind.{TokenKind}
use Rattle.pd_sections.specs.declared.TokenKind.TheVariants as kinds
use Rattle.pd_tree.specs.declared.addition.Addition.{Addition}
use Rattle.pd_tree.specs.declared.kind.Kind.{Kind}
use Rattle.pd_tree.specs.declared.kind.Kind.TheVariants.{SlFunction, SlAssign, SlName, SlText}
use Rattle.pd_tree.specs.declared.kind.Meaning.{Meaning}
use Rattle.pd_turn.specs.declared.Node.{Node}
use Rattle.pd_turn.specs.Turned.{pres}
use Rattle.pd_sl_spell.specs.Words.{Word, Name, Text}
use Rattle.pd_sl_read.specs.declared.parts.Part.{Part}
use Rattle.pd_sl_read.specs.declared.parts.Shape.{Shape}
use Rattle.pd_sl_read.specs.declared.parts.Shape.TheVariants as shapes
use Rattle.pd_sl_read.specs.Places.{roses}
use Rattle.pd_sl_read.specs.Tokens.{keyword, single, pair, word_of, words_of}
use Rattle.pd_sl_parse.specs.Locals.{meaning_of}
use Rattle.pd_sl_parse.specs.Scopes.{text_at}
use Rattle.pd_sl_parse.specs.Additions.{inner, AreNames, KindIs, IsAdditionOf, AreAdditionsOf, IsTreeOf}
use Rattle.pd_sl_parse.specs.Texts.{IsSpelled, AllSpelled}
use Rattle.pd_sl_parse.proofs.Worded.{IsNamed, IsQuoted, Next, IsWorded, AllWorded, program_worded}

-- ---- keywords and symbols are neither names nor texts

abbrev IsOther : Word → Type 0
IsOther (Name x) = ⊥
IsOther (Text s) = ⊥
IsOther _ = Unit {0}

either_other : (t : Bool) (v w : Word) → IsOther v → IsOther w → IsOther (if t then v else w)
either_other true v w h g = h
either_other false v w h g = g

keyword_other : (b : ℕ) → IsOther (keyword b)
keyword_other b =
    either_other (b == 102) _ _ tt (either_other (b == 119) _ _ tt (either_other (b == 105) _ _ tt (either_other (b == 101) _ _ tt
    (either_other (b == 114) _ _ tt (either_other (b == 98) _ _ tt (either_other (b == 99) _ _ tt tt))))))

single_other : (b : ℕ) → IsOther (single b)
single_other b =
    either_other (b == 40) _ _ tt (either_other (b == 41) _ _ tt (either_other (b == 123) _ _ tt (either_other (b == 125) _ _ tt
    (either_other (b == 44) _ _ tt (either_other (b == 59) _ _ tt (either_other (b == 43) _ _ tt (either_other (b == 45) _ _ tt
    (either_other (b == 42) _ _ tt (either_other (b == 47) _ _ tt (either_other (b == 61) _ _ tt (either_other (b == 60) _ _ tt tt)))))))))))

pair_other : (b : ℕ) → IsOther (pair b)
pair_other b =
    either_other (b == 61) _ _ tt (either_other (b == 33) _ _ tt (either_other (b == 60) _ _ tt (either_other (b == 62) _ _ tt (either_other (b == 38) _ _ tt tt))))

symbol_other : (text : List ℕ) → IsOther (word_of kinds.Symbol text)
symbol_other text = either_other (length text == 1) _ _ (single_other (slice_index text 0)) (pair_other (slice_index text 0))

named_not_other : (w : Word) → IsOther w → IsNamed w → ⊥
named_not_other (Name x) h g = h
named_not_other (Text s) h g = h
named_not_other _ h g = g

quoted_not_other : (w : Word) → IsOther w → IsQuoted w → ⊥
quoted_not_other (Name x) h g = h
quoted_not_other (Text s) h g = h
quoted_not_other _ h g = g

-- ---- the bytes of names and texts

name_bytes : (k : TokenKind) (text : List ℕ) → IsSpelled k text → IsNamed (word_of k text) → IsUtf8 text
name_bytes kinds.Name text s h = s
name_bytes kinds.Number text s h = absurd h
name_bytes kinds.Text text s h = absurd h
name_bytes kinds.Keyword text s h = absurd (named_not_other (word_of kinds.Keyword text) (keyword_other (slice_index text 0)) h)
name_bytes kinds.Symbol text s h = absurd (named_not_other (word_of kinds.Symbol text) (symbol_other text) h)

text_bytes : (k : TokenKind) (text : List ℕ) → IsSpelled k text → IsQuoted (word_of k text) → IsUtf8 (inner text)
text_bytes kinds.Name text s h = absurd h
text_bytes kinds.Number text s h = absurd h
text_bytes kinds.Text text s h = s
text_bytes kinds.Keyword text s h = absurd (quoted_not_other (word_of kinds.Keyword text) (keyword_other (slice_index text 0)) h)
text_bytes kinds.Symbol text s h = absurd (quoted_not_other (word_of kinds.Symbol text) (symbol_other text) h)

name_utf8 : (bytes : List ℕ) (tokens : List Token) (i : ℕ) → AllSpelled bytes tokens → Next IsNamed (drop i (words_of bytes tokens)) → IsUtf8 (text_at bytes tokens i)
name_utf8 bytes [] zero s h = absurd h
name_utf8 bytes [] (suc i) s h = absurd h
name_utf8 bytes (t ∷ tokens) zero s h = name_bytes t.kind _ s.0 h
name_utf8 bytes (t ∷ tokens) (suc i) s h = name_utf8 bytes tokens i s.1 h

text_utf8 : (bytes : List ℕ) (tokens : List Token) (i : ℕ) → AllSpelled bytes tokens → Next IsQuoted (drop i (words_of bytes tokens)) → IsUtf8 (inner (text_at bytes tokens i))
text_utf8 bytes [] zero s h = absurd h
text_utf8 bytes [] (suc i) s h = absurd h
text_utf8 bytes (t ∷ tokens) zero s h = text_bytes t.kind _ s.0 h
text_utf8 bytes (t ∷ tokens) (suc i) s h = text_utf8 bytes tokens i s.1 h

-- ---- nodes

names_once : (bytes : List ℕ) (tokens : List Token) (first n : ℕ) (xs ys : List (List ℕ)) → ((k : ℕ) → k < n → IsUtf8 (text_at bytes tokens (first + 2 * k)))
    → AreNames bytes tokens first n xs → AreNames bytes tokens first n ys → xs ≡ ys
names_once bytes tokens first n xs ys u h g =
    ext_get_or [] xs ys (h.many ∙ sym g.many) (λ k lt. let within : k < n = omega (arith, h.many) in h.each k within (u k within) ∙ sym (g.each k within (u k within)))

kind_once : (bytes : List ℕ) (tokens : List Token) (s : Shape) (first : ℕ) (k l : Kind) → AllSpelled bytes tokens → IsWorded (words_of bytes tokens) s first
    → KindIs bytes tokens s first k → KindIs bytes tokens s first l → k ≡ l
kind_once bytes tokens (shapes.Function n) first k l s w h g =
    let u = name_utf8 bytes tokens (first + 1) s w.0 in
    let names = names_once bytes tokens (first + 3) n h.1 g.1 (λ i lt. name_utf8 bytes tokens ((first + 3) + 2 * i) s (w.1 i lt)) h.4 g.4 in
    h.2 ∙ ap (λ x. SlFunction x h.1) (h.3 u ∙ sym (g.3 u)) ∙ ap (SlFunction g.0) names ∙ sym g.2
kind_once bytes tokens shapes.Assign first k l s w h g = let u = name_utf8 bytes tokens first s w in h.1 ∙ ap SlAssign (h.2 u ∙ sym (g.2 u)) ∙ sym g.1
kind_once bytes tokens shapes.Name first k l s w h g = let u = name_utf8 bytes tokens first s w in h.1 ∙ ap SlName (h.2 u ∙ sym (g.2 u)) ∙ sym g.1
kind_once bytes tokens shapes.Text first k l s w h g = let u = text_utf8 bytes tokens first s w in h.1 ∙ ap SlText (h.2 u ∙ sym (g.2 u)) ∙ sym g.1
kind_once bytes tokens shapes.Body first k l s w h g = h ∙ sym g
kind_once bytes tokens shapes.Block first k l s w h g = h ∙ sym g
kind_once bytes tokens shapes.If first k l s w h g = h ∙ sym g
kind_once bytes tokens shapes.While first k l s w h g = h ∙ sym g
kind_once bytes tokens shapes.Return first k l s w h g = h ∙ sym g
kind_once bytes tokens shapes.Break first k l s w h g = h ∙ sym g
kind_once bytes tokens shapes.Continue first k l s w h g = h ∙ sym g
kind_once bytes tokens shapes.Debugger first k l s w h g = h ∙ sym g
kind_once bytes tokens shapes.Or first k l s w h g = h ∙ sym g
kind_once bytes tokens shapes.And first k l s w h g = h ∙ sym g
kind_once bytes tokens (shapes.Binary o) first k l s w h g = h ∙ sym g
kind_once bytes tokens shapes.Call first k l s w h g = h ∙ sym g
kind_once bytes tokens (shapes.Number v) first k l s w h g = h ∙ sym g

abbrev made : Kind → Section → ℕ → ℕ → Meaning → ℕ → List (List ℕ) → Addition
made k s l c m n cs = record { kind = k; section = s; line = l; column = c; meaning = m; children = n; constants = cs }

same_addition : (a b : Addition) → a.kind ≡ b.kind → a.section ≡ b.section → a.line ≡ b.line → a.column ≡ b.column → a.meaning ≡ b.meaning → a.children ≡ b.children → a.constants ≡ b.constants → a ≡ b
same_addition a b k s l c m n cs =
    ap (λ x. made x a.section a.line a.column a.meaning a.children a.constants) k
    ∙ ap (λ x. made b.kind x a.line a.column a.meaning a.children a.constants) s
    ∙ ap (λ x. made b.kind b.section x a.column a.meaning a.children a.constants) l
    ∙ ap (λ x. made b.kind b.section b.line x a.meaning a.children a.constants) c
    ∙ ap (λ x. made b.kind b.section b.line b.column x a.children a.constants) m
    ∙ ap (λ x. made b.kind b.section b.line b.column b.meaning x a.constants) n
    ∙ ap (made b.kind b.section b.line b.column b.meaning b.children) cs

addition_once : (bytes : List ℕ) (tokens : List Token) (source : ℕ) (meaning : Meaning) (x : Node Part) (a b : Addition) → AllSpelled bytes tokens
    → IsWorded (words_of bytes tokens) x.what.shape x.what.first → IsAdditionOf bytes tokens source meaning x a → IsAdditionOf bytes tokens source meaning x b → a ≡ b
addition_once bytes tokens source meaning x a b s w h g =
    same_addition a b (kind_once bytes tokens x.what.shape x.what.first a.kind b.kind s w h.kind g.kind) (h.section ∙ sym g.section) (h.line ∙ sym g.line) (h.column ∙ sym g.column)
    (h.means ∙ sym g.means) (h.children ∙ sym g.children) (h.constants ∙ sym g.constants)

additions_once : (bytes : List ℕ) (tokens : List Token) (source : ℕ) (earlier : List Part) (nodes : List (Node Part)) (t u : List Addition) → AllSpelled bytes tokens
    → AllWorded (words_of bytes tokens) nodes → AreAdditionsOf bytes tokens source earlier nodes t → AreAdditionsOf bytes tokens source earlier nodes u → t ≡ u
additions_once bytes tokens source earlier [] [] [] s w h g = refl
additions_once bytes tokens source earlier [] [] (b ∷ u) s w h g = absurd g
additions_once bytes tokens source earlier [] (a ∷ t) u s w h g = absurd h
additions_once bytes tokens source earlier (x ∷ nodes) [] u s w h g = absurd h
additions_once bytes tokens source earlier (x ∷ nodes) (a ∷ t) [] s w h g = absurd g
additions_once bytes tokens source earlier (x ∷ nodes) (a ∷ t) (b ∷ u) s w h g =
    let one = addition_once bytes tokens source (meaning_of bytes tokens x.what.shape x.what earlier) x a b s w.0 h.0 g.0 in
    let more = additions_once bytes tokens source (x.what ∷ earlier) nodes t u s w.1 h.1 g.1 in
    ap (λ y. y ∷ t) one ∙ ap (λ ys. b ∷ ys) more

pub tree_once : (room : ℕ) (bytes : List ℕ) (tokens : List Token) (source : ℕ) (t u : List Addition) → AllSpelled bytes tokens → IsTreeOf room bytes tokens source t
    → IsTreeOf room bytes tokens source u → t ≡ u
tree_once room bytes tokens source t u s h g =
    let same : g.0 ≡ h.0 = h.1.only g.0 g.1.spelled in
    additions_once bytes tokens source [] (pres (roses 0 h.0)) t u s (program_worded (words_of bytes tokens) h.0 h.1.spelled) h.2
    (subst (λ T. AreAdditionsOf bytes tokens source [] (pres (roses 0 T)) u) same g.2)
