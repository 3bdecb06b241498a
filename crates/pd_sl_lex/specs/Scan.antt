-- Twin of the code, for its proofs: no public contract needs it.
-- The longest piece of SL that some bytes begin with, found from the left: what the code computes.
use Rattle.std.specs.Prelude.{ℕ, ◌+◌, suc, ◌&&◌, ◌==◌, not, if◌then◌else◌, List, [], ◌∷◌, take, Option, Some, None}
use Rattle.std.specs.Option.{option_map}
use Rattle.std.specs.List.{prefix_len}
use Rattle.pd_sections.specs.declared.TokenKind.TheVariants.{Number, Symbol}
use Rattle.pd_sections.specs.declared.Rule.TheVariants.{OpenText, OpenComment}
use Rattle.pd_sections.specs.declared.Piece.{Piece}
use Rattle.pd_sections.specs.declared.Piece.TheVariants.{Blank, Word, Fault}
use Rattle.pd_sections.specs.Pieces.{is_digit, is_line_end, word}
use Rattle.pd_sections.specs.SlPieces.{is_white, is_name_start, is_name_part, keywords, is_symbol, is_pair, closed_text, starts_with_slash}

-- a piece and its length
abbrev pub Found : Type 0
Found = Piece × ℕ

-- a name or a keyword, as long as the bytes are parts of names
abbrev pub found_name : ℕ → List ℕ → Found
found_name byte bytes = let len : ℕ = 1 + prefix_len is_name_part bytes in (word keywords (take len (byte ∷ bytes)), len)

-- a number, as long as the bytes are digits
abbrev pub found_number : List ℕ → Found
found_number bytes = (Word Number, 1 + prefix_len is_digit bytes)

-- how many bytes there are up to the end of a text, with its `"`
abbrev pub text_end : List ℕ → Option ℕ
text_end [] = None
text_end (byte ∷ bytes) = if byte == 34 then Some 1 else if is_line_end byte then None else option_map suc (text_end bytes)

-- a text whose closing `"` comes after so many bytes, if it comes
abbrev pub found_text_at : List ℕ → Option ℕ → Found
found_text_at bytes None = (Fault OpenText 0, 1)
found_text_at bytes (Some len) = (closed_text (take len bytes), 1 + len)

-- what begins with a `"`
abbrev pub found_text : List ℕ → Found
found_text bytes = found_text_at bytes (text_end bytes)

-- how many bytes there are up to the end of a comment, with its `*/`
abbrev pub comment_end : List ℕ → Option ℕ
comment_end [] = None
comment_end (byte ∷ bytes) = if (byte == 42) && starts_with_slash bytes then Some 2 else option_map suc (comment_end bytes)

-- a comment whose `*/` ends after so many bytes, if it comes
abbrev pub found_comment : Option ℕ → Found
found_comment None = (Fault OpenComment 0, 2)
found_comment (Some len) = (Blank, 2 + len)

-- what begins with a `/`
abbrev pub found_slash : List ℕ → Found
found_slash [] = (Word Symbol, 1)
found_slash (byte ∷ bytes) =
    if byte == 47 then (Blank, 2 + prefix_len (λ next. not (is_line_end next)) bytes)
    else if byte == 42 then found_comment (comment_end bytes)
    else (Word Symbol, 1)

-- a symbol, of two bytes where these make one
abbrev pub found_symbol : ℕ → List ℕ → Option Found
found_symbol byte [] = if is_symbol byte then Some (Word Symbol, 1) else None
found_symbol byte (next ∷ bytes) = if is_pair byte next then Some (Word Symbol, 2) else if is_symbol byte then Some (Word Symbol, 1) else None

-- the longest piece that begins with this byte and goes on with these
abbrev pub found_from : ℕ → List ℕ → Option Found
found_from byte bytes =
    if is_white byte then Some (Blank, 1)
    else if is_name_start byte then Some (found_name byte bytes)
    else if byte == 48 then Some (Word Number, 1)
    else if is_digit byte then Some (found_number bytes)
    else if byte == 34 then Some (found_text bytes)
    else if byte == 47 then Some (found_slash bytes)
    else found_symbol byte bytes

-- the longest piece that the bytes begin with
abbrev pub found_in : List ℕ → Option Found
found_in [] = None
found_in (byte ∷ bytes) = found_from byte bytes
