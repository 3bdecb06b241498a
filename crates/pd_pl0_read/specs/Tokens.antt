-- Definition: the words of tokens.
use Rattle.std.specs.Prelude.{ℕ, zero, suc, ◌+◌, ◌-◌, ◌*◌, ◌==◌, if◌then◌else◌, List, [], ◌∷◌, length, take, drop, map, slice_index}
use Rattle.pd_sections.specs.declared.Token.{Token}
use Rattle.pd_sections.specs.declared.TokenKind.{TokenKind}
use Rattle.pd_sections.specs.declared.TokenKind.TheVariants as kinds
use Rattle.pd_pl0_spell.specs.Words.{Equal, NotEqual, Less, LessEq, Greater, GreaterEq, Plus, Minus, Times, Over, Word, Name, Number, Compares, Adds, Multiplies, Becomes, Writes, Open, Close, Comma, Semicolon, Period, ConstKey, VarKey, ProcedureKey, CallKey, BeginKey, EndKey, IfKey, ThenKey, WhileKey, DoKey, OddKey}

-- the number that goes on from `n` with these digits
abbrev pub decimal : ℕ → List ℕ → ℕ
decimal n [] = n
decimal n (byte ∷ bytes) = decimal (n * 10 + (byte - 48)) bytes

-- the keyword that begins with this byte: c v p b e i t w d o; `const` is longer than `call`
abbrev pub keyword : ℕ → ℕ → Word
keyword first len =
    if first == 99 then (if len == 5 then ConstKey else CallKey)
    else if first == 118 then VarKey
    else if first == 112 then ProcedureKey
    else if first == 98 then BeginKey
    else if first == 101 then EndKey
    else if first == 105 then IfKey
    else if first == 116 then ThenKey
    else if first == 119 then WhileKey
    else if first == 100 then DoKey
    else OddKey

-- the symbol of one byte: . , ; = # < > + - * / ( ) and else !
abbrev pub single : ℕ → Word
single first =
    if first == 46 then Period
    else if first == 44 then Comma
    else if first == 59 then Semicolon
    else if first == 61 then Compares Equal
    else if first == 35 then Compares NotEqual
    else if first == 60 then Compares Less
    else if first == 62 then Compares Greater
    else if first == 43 then Adds Plus
    else if first == 45 then Adds Minus
    else if first == 42 then Multiplies Times
    else if first == 47 then Multiplies Over
    else if first == 40 then Open
    else if first == 41 then Close
    else Writes

-- the symbol of two bytes that begins with this one: := <= and else >=
abbrev pub pair : ℕ → Word
pair first =
    if first == 58 then Becomes
    else if first == 60 then Compares LessEq
    else Compares GreaterEq

-- the word of a symbol
abbrev pub symbol : List ℕ → Word
symbol text = if length text == 1 then single (slice_index text 0) else pair (slice_index text 0)

-- the word of a token of this kind with this text
abbrev pub word_of : TokenKind → List ℕ → Word
word_of kinds.Name text = Name text
word_of kinds.Number text = Number (decimal 0 text)
word_of kinds.Keyword text = keyword (slice_index text 0) (length text)
word_of kinds.Symbol text = symbol text
-- PL/0 has no such token
word_of kinds.Text text = symbol text

-- the bytes of a token
abbrev pub text_of : List ℕ → Token → List ℕ
text_of bytes token = take token.len (drop token.start bytes)

-- the word of a token of this source
abbrev pub word_at : List ℕ → Token → Word
word_at bytes token = word_of token.kind (text_of bytes token)

-- the words of a source's tokens
abbrev pub words_of : List ℕ → List Token → List Word
words_of bytes tokens = map (word_at bytes) tokens

-- the first byte of a token, by its number; after the last the length of the text
abbrev pub place_of : List ℕ → List Token → ℕ → ℕ
place_of bytes [] at = length bytes
place_of bytes (token ∷ tokens) zero = token.start
place_of bytes (token ∷ tokens) (suc at) = place_of bytes tokens at
