-- Definition: the words of tokens.
use Rattle.std.specs.Prelude.{ℕ, zero, suc, ◌+◌, ◌-◌, ◌*◌, Bool, ◌==◌, if◌then◌else◌, List, [], ◌∷◌, length, take, drop, map, slice_index}
use Rattle.pd_sections.specs.declared.Token.{Token}
use Rattle.pd_sections.specs.declared.TokenKind.{TokenKind}
use Rattle.pd_sections.specs.declared.TokenKind.TheVariants as kinds
use Rattle.pd_sl_spell.specs.Words.{Equal, NotEqual, Less, LessEq, Greater, GreaterEq, Plus, Minus, Times, Over, Word, Name, Number, Text, Or, And, Compares, Adds, Multiplies, Becomes, Open, Close, OpenBlock, CloseBlock, Comma, Semicolon, FunctionKey, WhileKey, IfKey, ElseKey, ReturnKey, BreakKey, ContinueKey, DebuggerKey}

-- the number that goes on from `n` with these digits
abbrev pub decimal : ℕ → List ℕ → ℕ
decimal n [] = n
decimal n (byte ∷ bytes) = decimal (n * 10 + (byte - 48)) bytes

-- the keyword that begins with this byte: f w i e r b c d, no two begin alike
abbrev pub keyword : ℕ → Word
keyword first =
    if first == 102 then FunctionKey
    else if first == 119 then WhileKey
    else if first == 105 then IfKey
    else if first == 101 then ElseKey
    else if first == 114 then ReturnKey
    else if first == 98 then BreakKey
    else if first == 99 then ContinueKey
    else DebuggerKey

-- the symbol of one byte: ( ) { } , ; + - * / = < and else >
abbrev pub single : ℕ → Word
single first =
    if first == 40 then Open
    else if first == 41 then Close
    else if first == 123 then OpenBlock
    else if first == 125 then CloseBlock
    else if first == 44 then Comma
    else if first == 59 then Semicolon
    else if first == 43 then Adds Plus
    else if first == 45 then Adds Minus
    else if first == 42 then Multiplies Times
    else if first == 47 then Multiplies Over
    else if first == 61 then Becomes
    else if first == 60 then Compares Less
    else Compares Greater

-- the symbol of two bytes that begins with this one: == != <= >= && and else ||
abbrev pub pair : ℕ → Word
pair first =
    if first == 61 then Compares Equal
    else if first == 33 then Compares NotEqual
    else if first == 60 then Compares LessEq
    else if first == 62 then Compares GreaterEq
    else if first == 38 then And
    else Or

-- the word of a token of this kind with this text
abbrev pub word_of : TokenKind → List ℕ → Word
word_of kinds.Name text = Name text
word_of kinds.Number text = Number (decimal 0 text)
-- without its two `"`
word_of kinds.Text text = Text (take (length text - 2) (drop 1 text))
word_of kinds.Keyword text = keyword (slice_index text 0)
word_of kinds.Symbol text = if length text == 1 then single (slice_index text 0) else pair (slice_index text 0)

-- the bytes of a token
abbrev pub text_of : List ℕ → Token → List ℕ
text_of bytes token = take token.len (drop token.start bytes)

-- the word of a token of this source
abbrev pub word_at : List ℕ → Token → Word
word_at bytes token = word_of token.kind (text_of bytes token)

-- the words of a source's tokens
abbrev pub words_of : List ℕ → List Token → List Word
words_of bytes tokens = map (word_at bytes) tokens

-- the first byte of a token, by its number; after the last the length of the text
abbrev pub place_of : List ℕ → List Token → ℕ → ℕ
place_of bytes [] at = length bytes
place_of bytes (token ∷ tokens) zero = token.start
place_of bytes (token ∷ tokens) (suc at) = place_of bytes tokens at
