-- A source has one tree.
use Rattle.std.proofs.Common.{◌≡◌, ℕ, zero, suc, ◌+◌, ◌*◌, ◌<◌, Bool, true, false, List, [], ◌∷◌, length, drop, refl, sym, ap, subst, ◌∙◌, arith}
use Rattle.std.specs.Prelude.{if◌then◌else◌, ◌==◌, slice_index, codes}
use Rattle.std.specs.Str.{IsUtf8}
use Rattle.std.proofs.lemmas.List.{ext_get_or}
use Rattle.pd_sections.specs.declared.Token.{Token}
use Rattle.pd_sections.specs.declared.Section.{Section}
use Rattle.pd_sections.specs.declared.TokenKind.{TokenKind}
use Rattle.pd_sections.specs.declared.TokenKind.TheVariants as kinds
use Rattle.pd_tree.specs.declared.addition.Addition.{Addition}
use Rattle.pd_tree.specs.declared.kind.Kind.{Kind}
use Rattle.pd_tree.specs.declared.kind.Kind.TheVariants.{PlProcedure, PlAssign, PlCall, PlName}
use Rattle.pd_tree.specs.declared.kind.Meaning.{Meaning}
use Rattle.pd_turn.specs.declared.Node.{Node}
use Rattle.pd_turn.specs.Turned.{pres}
use Rattle.pd_pl0_spell.specs.Words.{Word, Name}
use Rattle.pd_pl0_spell.specs.Names.{no_rule, every_rule}
use Rattle.pd_pl0_spell.proofs.Walks.{loosened_program}
use Rattle.pd_pl0_read.specs.declared.parts.Part.{Part}
use Rattle.pd_pl0_read.specs.declared.parts.Shape.{Shape}
use Rattle.pd_pl0_read.specs.declared.parts.Shape.TheVariants as shapes
use Rattle.pd_pl0_read.specs.Places.{program_trees}
use Rattle.pd_pl0_read.specs.Tokens.{keyword, single, pair, symbol, word_of, words_of}
use Rattle.pd_pl0_parse.specs.Texts.{text_at, first_constant, first_variable}
use Rattle.pd_pl0_parse.specs.Additions.{AreNames, KindIs, ConstantsAre, IsAdditionOf, AreAdditionsOf, IsTreeOf}
use Rattle.pd_pl0_parse.proofs.Spelling.{IsSpelled, AllSpelled}
use Rattle.pd_pl0_parse.proofs.Worded.{IsNamed, NameNext, AllNamed, IsWorded, AllWorded, program_worded}

-- ---- keywords and symbols aren't names

abbrev IsOther : Word → Type 0
IsOther (Name x) = ⊥
IsOther _ = Unit {0}

either_other : (t : Bool) (v w : Word) → IsOther v → IsOther w → IsOther (if t then v else w)
either_other true v w h g = h
either_other false v w h g = g

keyword_other : (b len : ℕ) → IsOther (keyword b len)
keyword_other b len =
    either_other (b == 99) _ _ (either_other (len == 5) _ _ tt tt) (either_other (b == 118) _ _ tt (either_other (b == 112) _ _ tt (either_other (b == 98) _ _ tt
    (either_other (b == 101) _ _ tt (either_other (b == 105) _ _ tt (either_other (b == 116) _ _ tt (either_other (b == 119) _ _ tt (either_other (b == 100) _ _ tt tt))))))))

single_other : (b : ℕ) → IsOther (single b)
single_other b =
    either_other (b == 46) _ _ tt (either_other (b == 44) _ _ tt (either_other (b == 59) _ _ tt (either_other (b == 61) _ _ tt
    (either_other (b == 35) _ _ tt (either_other (b == 60) _ _ tt (either_other (b == 62) _ _ tt (either_other (b == 43) _ _ tt
    (either_other (b == 45) _ _ tt (either_other (b == 42) _ _ tt (either_other (b == 47) _ _ tt (either_other (b == 40) _ _ tt (either_other (b == 41) _ _ tt tt))))))))))))

pair_other : (b : ℕ) → IsOther (pair b)
pair_other b = either_other (b == 58) _ _ tt (either_other (b == 60) _ _ tt tt)

symbol_other : (text : List ℕ) → IsOther (symbol text)
symbol_other text = either_other (length text == 1) _ _ (single_other (slice_index text 0)) (pair_other (slice_index text 0))

named_not_other : (w : Word) → IsOther w → IsNamed w → ⊥
named_not_other (Name x) h g = h
named_not_other _ h g = g

-- ---- the bytes of names

name_bytes : (k : TokenKind) (text : List ℕ) → IsSpelled k text → IsNamed (word_of k text) → IsUtf8 text
name_bytes kinds.Name text s h = s
name_bytes kinds.Number text s h = absurd h
name_bytes kinds.Text text s h = absurd (named_not_other (symbol text) (symbol_other text) h)
name_bytes kinds.Keyword text s h = absurd (named_not_other (keyword (slice_index text 0) (length text)) (keyword_other (slice_index text 0) (length text)) h)
name_bytes kinds.Symbol text s h = absurd (named_not_other (symbol text) (symbol_other text) h)

name_utf8 : (bytes : List ℕ) (tokens : List Token) (i : ℕ) → AllSpelled bytes tokens → NameNext (drop i (words_of bytes tokens)) → IsUtf8 (text_at bytes tokens i)
name_utf8 bytes [] zero s h = absurd h
name_utf8 bytes [] (suc i) s h = absurd h
name_utf8 bytes (t ∷ tokens) zero s h = name_bytes t.kind _ s.0 h
name_utf8 bytes (t ∷ tokens) (suc i) s h = name_utf8 bytes tokens i s.1 h

-- ---- nodes

names_once : (bytes : List ℕ) (tokens : List Token) (first step n : ℕ) (xs ys : List (List ℕ)) → AllSpelled bytes tokens → AllNamed (words_of bytes tokens) first step n
    → AreNames bytes tokens first step n xs → AreNames bytes tokens first step n ys → xs ≡ ys
names_once bytes tokens first step n xs ys s w h g =
    ext_get_or [] xs ys (h.many ∙ sym g.many)
    (λ k lt.
    let within : k < n = omega (arith, h.many) in
    let u = name_utf8 bytes tokens (first + step * k) s (w k within) in
    h.each k within u ∙ sym (g.each k within u))

kind_once : (bytes : List ℕ) (tokens : List Token) (s : Shape) (first : ℕ) (k l : Kind) → AllSpelled bytes tokens → IsWorded (words_of bytes tokens) s first
    → KindIs bytes tokens s first k → KindIs bytes tokens s first l → k ≡ l
kind_once bytes tokens (shapes.Main m n) first k l s w h g =
    let names = names_once bytes tokens (first_variable first m) 2 n h.0 g.0 s w.variables h.2 g.2 in
    h.1 ∙ ap (PlProcedure (codes "main")) names ∙ sym g.1
kind_once bytes tokens (shapes.Procedure m n) first k l s w h g =
    let u = name_utf8 bytes tokens (first + 1) s w.0 in
    let names = names_once bytes tokens (first_variable (first + 3) m) 2 n h.1 g.1 s w.1.variables h.4 g.4 in
    h.2 ∙ ap (λ x. PlProcedure x h.1) (h.3 u ∙ sym (g.3 u)) ∙ ap (PlProcedure g.0) names ∙ sym g.2
kind_once bytes tokens (shapes.Assign m) first k l s w h g = let u = name_utf8 bytes tokens first s w in h.1 ∙ ap PlAssign (h.2 u ∙ sym (g.2 u)) ∙ sym g.1
kind_once bytes tokens shapes.Call first k l s w h g = let u = name_utf8 bytes tokens (first + 1) s w in h.1 ∙ ap PlCall (h.2 u ∙ sym (g.2 u)) ∙ sym g.1
kind_once bytes tokens (shapes.Name m) first k l s w h g = let u = name_utf8 bytes tokens first s w in h.1 ∙ ap PlName (h.2 u ∙ sym (g.2 u)) ∙ sym g.1
kind_once bytes tokens shapes.Body first k l s w h g = h ∙ sym g
kind_once bytes tokens shapes.Empty first k l s w h g = h ∙ sym g
kind_once bytes tokens shapes.Begin first k l s w h g = h ∙ sym g
kind_once bytes tokens shapes.If first k l s w h g = h ∙ sym g
kind_once bytes tokens shapes.While first k l s w h g = h ∙ sym g
kind_once bytes tokens shapes.Write first k l s w h g = h ∙ sym g
kind_once bytes tokens shapes.Odd first k l s w h g = h ∙ sym g
kind_once bytes tokens (shapes.Binary o) first k l s w h g = h ∙ sym g
kind_once bytes tokens shapes.Plus first k l s w h g = h ∙ sym g
kind_once bytes tokens shapes.Minus first k l s w h g = h ∙ sym g
kind_once bytes tokens (shapes.Number v) first k l s w h g = h ∙ sym g

constants_once : (bytes : List ℕ) (tokens : List Token) (s : Shape) (first : ℕ) (xs ys : List (List ℕ)) → AllSpelled bytes tokens → IsWorded (words_of bytes tokens) s first
    → ConstantsAre bytes tokens s first xs → ConstantsAre bytes tokens s first ys → xs ≡ ys
constants_once bytes tokens (shapes.Main m n) first xs ys s w h g = names_once bytes tokens (first_constant first) 4 m xs ys s w.constants h g
constants_once bytes tokens (shapes.Procedure m n) first xs ys s w h g = names_once bytes tokens (first_constant (first + 3)) 4 m xs ys s w.1.constants h g
constants_once bytes tokens _ first xs ys s w h g = h ∙ sym g

abbrev made : Kind → Section → ℕ → ℕ → Meaning → ℕ → List (List ℕ) → Addition
made k s l c m n cs = record { kind = k; section = s; line = l; column = c; meaning = m; children = n; constants = cs }

same_addition : (a b : Addition) → a.kind ≡ b.kind → a.section ≡ b.section → a.line ≡ b.line → a.column ≡ b.column → a.meaning ≡ b.meaning → a.children ≡ b.children → a.constants ≡ b.constants → a ≡ b
same_addition a b k s l c m n cs =
    ap (λ x. made x a.section a.line a.column a.meaning a.children a.constants) k
    ∙ ap (λ x. made b.kind x a.line a.column a.meaning a.children a.constants) s
    ∙ ap (λ x. made b.kind b.section x a.column a.meaning a.children a.constants) l
    ∙ ap (λ x. made b.kind b.section b.line x a.meaning a.children a.constants) c
    ∙ ap (λ x. made b.kind b.section b.line b.column x a.children a.constants) m
    ∙ ap (λ x. made b.kind b.section b.line b.column b.meaning x a.constants) n
    ∙ ap (made b.kind b.section b.line b.column b.meaning b.children) cs

addition_once : (bytes : List ℕ) (tokens : List Token) (source : ℕ) (x : Node Part) (a b : Addition) → AllSpelled bytes tokens → IsWorded (words_of bytes tokens) x.what.shape x.what.first
    → IsAdditionOf bytes tokens source x a → IsAdditionOf bytes tokens source x b → a ≡ b
addition_once bytes tokens source x a b s w h g =
    same_addition a b (kind_once bytes tokens x.what.shape x.what.first a.kind b.kind s w h.kind g.kind) (h.section ∙ sym g.section) (h.line ∙ sym g.line) (h.column ∙ sym g.column)
    (h.meaning ∙ sym g.meaning) (h.children ∙ sym g.children) (constants_once bytes tokens x.what.shape x.what.first a.constants b.constants s w h.constants g.constants)

additions_once : (bytes : List ℕ) (tokens : List Token) (source : ℕ) (nodes : List (Node Part)) (t u : List Addition) → AllSpelled bytes tokens → AllWorded (words_of bytes tokens) nodes
    → AreAdditionsOf bytes tokens source nodes t → AreAdditionsOf bytes tokens source nodes u → t ≡ u
additions_once bytes tokens source [] [] [] s w h g = refl
additions_once bytes tokens source [] [] (b ∷ u) s w h g = absurd g
additions_once bytes tokens source [] (a ∷ t) u s w h g = absurd h
additions_once bytes tokens source (x ∷ nodes) [] u s w h g = absurd h
additions_once bytes tokens source (x ∷ nodes) (a ∷ t) [] s w h g = absurd g
additions_once bytes tokens source (x ∷ nodes) (a ∷ t) (b ∷ u) s w h g =
    let one = addition_once bytes tokens source x a b s w.0 h.0 g.0 in
    let more = additions_once bytes tokens source nodes t u s w.1 h.1 g.1 in
    ap (λ y. y ∷ t) one ∙ ap (λ ys. b ∷ ys) more

pub tree_once : (room : ℕ) (bytes : List ℕ) (tokens : List Token) (source : ℕ) (t u : List Addition) → AllSpelled bytes tokens → IsTreeOf room bytes tokens source t
    → IsTreeOf room bytes tokens source u → t ≡ u
tree_once room bytes tokens source t u s h g =
    let same : g.0 ≡ h.0 = h.1.only_one g.0 (loosened_program no_rule (words_of bytes tokens) g.0 g.1.spelled) in
    additions_once bytes tokens source (pres (program_trees h.0)) t u s (program_worded (words_of bytes tokens) every_rule h.0 h.1.spelled) h.2
    (subst (λ T. AreAdditionsOf bytes tokens source (pres (program_trees T)) u) same g.2)
