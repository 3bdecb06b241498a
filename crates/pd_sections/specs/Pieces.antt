-- Definition: what the languages' pieces have in common.
use Rattle.std.specs.Prelude.{ℕ, Bool, true, false, ◌&&◌, ◌||◌, ◌==◌, nat_le, if◌then◌else◌, List, [], ◌∷◌, Option, Some, None}
use Rattle.std.specs.List.{list_any}
use Rattle.std.specs.Str.{bytes_eq}
use Rattle.pd_sections.specs.declared.TokenKind.TheVariants.{Name, Keyword, Symbol}
use Rattle.pd_sections.specs.declared.Piece.{Piece}
use Rattle.pd_sections.specs.declared.Piece.TheVariants.{Word}

-- a letter of ASCII
abbrev pub is_letter : ℕ → Bool
is_letter byte = (nat_le 65 byte && nat_le byte 90) || (nat_le 97 byte && nat_le byte 122)

-- a digit of ASCII
abbrev pub is_digit : ℕ → Bool
is_digit byte = nat_le 48 byte && nat_le byte 57

-- `\n` or `\r`
abbrev pub is_line_end : ℕ → Bool
is_line_end byte = (byte == 10) || (byte == 13)

-- whether there is no byte
abbrev pub is_empty : List ℕ → Bool
is_empty [] = true
is_empty (byte ∷ bytes) = false

-- the piece, where the test holds
abbrev pub piece_if : Bool → Piece → Option Piece
piece_if test piece = if test then Some piece else None

-- a name is a keyword, where it is one of these
abbrev pub word : List (List ℕ) → List ℕ → Piece
word keywords name = Word (if list_any (λ keyword. bytes_eq name keyword) keywords then Keyword else Name)

-- a symbol of one byte or of two
abbrev pub symbol_piece : (ℕ → Bool) → (ℕ → ℕ → Bool) → ℕ → List ℕ → Option Piece
symbol_piece is_symbol is_pair byte [] = piece_if (is_symbol byte) (Word Symbol)
symbol_piece is_symbol is_pair byte (next ∷ bytes) = piece_if (is_pair byte next && is_empty bytes) (Word Symbol)
