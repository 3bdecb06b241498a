-- Definition: PL/0: what some bytes are as a whole. There is one rule for each way to begin.
use Rattle.std.specs.Prelude.{ℕ, Bool, ◌&&◌, ◌||◌, ◌==◌, if◌then◌else◌, List, [], ◌∷◌, Option, None, codes}
use Rattle.std.specs.List.{list_all, list_any}
use Rattle.pd_sections.specs.declared.TokenKind.TheVariants.{Number}
use Rattle.pd_sections.specs.declared.Piece.{Piece}
use Rattle.pd_sections.specs.declared.Piece.TheVariants.{Blank, Word}
use Rattle.pd_sections.specs.Pieces.{is_letter, is_digit, is_empty, piece_if, word, symbol_piece}

-- white space: space, tab, `\r`, `\n`
abbrev pub is_white : ℕ → Bool
is_white byte = (byte == 32) || (byte == 9) || (byte == 13) || (byte == 10)

-- whether a name may begin with this byte: a letter or `_`
abbrev pub is_name_start : ℕ → Bool
is_name_start byte = is_letter byte || (byte == 95)

-- whether a name may have this byte after its first
abbrev pub is_name_part : ℕ → Bool
is_name_part byte = is_name_start byte || is_digit byte

-- the keywords
abbrev pub keywords : List (List ℕ)
keywords = codes "const" ∷ codes "var" ∷ codes "procedure" ∷ codes "call" ∷ codes "begin" ∷ codes "end" ∷ codes "if" ∷ codes "then" ∷ codes "while" ∷ codes "do" ∷ codes "odd" ∷ []

-- whether the byte alone is a symbol
abbrev pub is_symbol : ℕ → Bool
is_symbol byte = list_any (λ symbol. byte == symbol) (codes ".,;=#<>+-*/()!")

-- whether the two bytes are a symbol: `:=`, `<=` or `>=`
abbrev pub is_pair : ℕ → ℕ → Bool
is_pair byte next = list_any (λ symbol. byte == symbol) (codes ":<>") && (next == 61)

-- what the bytes are as a whole, if they are one piece: white space, a name or keyword, a number, or a symbol
abbrev pub pl0_piece : List ℕ → Option Piece
pl0_piece [] = None
pl0_piece (byte ∷ bytes) =
    if is_white byte then piece_if (is_empty bytes) Blank
    else if is_name_start byte then piece_if (list_all is_name_part bytes) (word keywords (byte ∷ bytes))
    else if is_digit byte then piece_if (list_all is_digit bytes) (Word Number)
    else symbol_piece is_symbol is_pair byte bytes
