-- Definition: SL: what some bytes are as a whole. There is one rule for each way to begin.
use Rattle.std.specs.Prelude.{ℕ, ◌+◌, Bool, false, ◌&&◌, ◌||◌, ◌==◌, not, if◌then◌else◌, List, [], ◌∷◌, length, Option, Some, None, codes}
use Rattle.std.specs.List.{list_all, list_any, prefix_len}
use Rattle.pd_sections.specs.declared.TokenKind.TheVariants.{Number, Text, Symbol}
use Rattle.pd_sections.specs.declared.Rule.TheVariants.{BadByte, OpenText, OpenComment}
use Rattle.pd_sections.specs.declared.Piece.{Piece}
use Rattle.pd_sections.specs.declared.Piece.TheVariants.{Blank, Word, Fault}
use Rattle.pd_sections.specs.Pieces.{is_letter, is_digit, is_line_end, is_empty, piece_if, word, symbol_piece}

-- white space: space, tab, `\r`, `\n`, form feed
abbrev pub is_white : ℕ → Bool
is_white byte = (byte == 32) || (byte == 9) || (byte == 13) || (byte == 10) || (byte == 12)

-- whether a name may begin with this byte: a letter, `_` or `$`
abbrev pub is_name_start : ℕ → Bool
is_name_start byte = is_letter byte || (byte == 95) || (byte == 36)

-- whether a name may have this byte after its first
abbrev pub is_name_part : ℕ → Bool
is_name_part byte = is_name_start byte || is_digit byte

-- the keywords
abbrev pub keywords : List (List ℕ)
keywords = codes "function" ∷ codes "while" ∷ codes "if" ∷ codes "else" ∷ codes "return" ∷ codes "break" ∷ codes "continue" ∷ codes "debugger" ∷ []

-- whether the byte alone is a symbol; `/` has a rule of its own
abbrev pub is_symbol : ℕ → Bool
is_symbol byte = list_any (λ symbol. byte == symbol) (codes "(){},;=<>+-*")

-- whether the two bytes are a symbol: `==`, `!=`, `<=`, `>=`, `&&` or `||`
abbrev pub is_pair : ℕ → ℕ → Bool
is_pair byte next = (list_any (λ symbol. byte == symbol) (codes "=!<>") && (next == 61)) || ((byte == 38) && (next == 38)) || ((byte == 124) && (next == 124))

-- After a `"`: a text ends at the next `"`, if no line end comes before it.
abbrev pub closes_text : List ℕ → Bool
closes_text [] = false
closes_text (byte ∷ bytes) = if byte == 34 then is_empty bytes else (not (is_line_end byte) && closes_text bytes)

-- a closed text with a `\` in it is a fault at the first one
abbrev pub closed_text : List ℕ → Piece
closed_text bytes =
    let before : ℕ = prefix_len (λ byte. not (byte == 92)) bytes in
    if before == length bytes then Word Text else Fault BadByte (1 + before)

-- A `"` alone is a fault: it is the longest piece only where no text closes.
abbrev pub text_piece : List ℕ → Option Piece
text_piece bytes = if closes_text bytes then Some (closed_text bytes) else piece_if (is_empty bytes) (Fault OpenText 0)

-- After a `/*`: a comment ends at the next `*/`.
abbrev pub is_slash : List ℕ → Bool
is_slash [] = false
is_slash (byte ∷ bytes) = (byte == 47) && is_empty bytes

-- whether the first byte is a `/`
abbrev pub starts_with_slash : List ℕ → Bool
starts_with_slash [] = false
starts_with_slash (byte ∷ bytes) = byte == 47

-- whether the first `*/` is at the very end
abbrev pub closes_comment : List ℕ → Bool
closes_comment [] = false
closes_comment (byte ∷ bytes) = if (byte == 42) && starts_with_slash bytes then is_slash bytes else closes_comment bytes

-- After a `/`: a comment up to the end of the line, a comment up to `*/`, or the symbol `/`.
-- A `/*` alone is a fault: it is the longest piece only where no comment closes.
abbrev pub slash_piece : List ℕ → Option Piece
slash_piece [] = Some (Word Symbol)
slash_piece (byte ∷ bytes) =
    if byte == 47 then piece_if (list_all (λ next. not (is_line_end next)) bytes) Blank
    else if byte == 42 then (if closes_comment bytes then Some Blank else piece_if (is_empty bytes) (Fault OpenComment 0))
    else None

-- what the bytes are as a whole, if they are one piece: white space or a comment, a name or keyword, a number, a text,
-- a symbol, or a fault
abbrev pub sl_piece : List ℕ → Option Piece
sl_piece [] = None
sl_piece (byte ∷ bytes) =
    if is_white byte then piece_if (is_empty bytes) Blank
    else if is_name_start byte then piece_if (list_all is_name_part bytes) (word keywords (byte ∷ bytes))
    else if byte == 48 then piece_if (is_empty bytes) (Word Number)
    else if is_digit byte then piece_if (list_all is_digit bytes) (Word Number)
    else if byte == 34 then text_piece bytes
    else if byte == 47 then slash_piece bytes
    else symbol_piece is_symbol is_pair byte bytes
