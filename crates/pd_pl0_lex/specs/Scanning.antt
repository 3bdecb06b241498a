-- Twin of the code, for its proofs: no public contract needs it.
-- The longest pieces by their kinds, found from the left: what the lexer computes.
use Rattle.std.specs.Prelude.{ℕ, ◌+◌, Bool, if◌then◌else◌, List, [], ◌∷◌, take, Option, Some, None}
use Rattle.std.specs.List.{prefix_len}
use Rattle.pd_sections.specs.declared.TokenKind.TheVariants.{Number, Symbol}
use Rattle.pd_sections.specs.declared.Piece.{Piece}
use Rattle.pd_sections.specs.declared.Piece.TheVariants.{Word}
use Rattle.pd_sections.specs.Pieces.{is_digit, word}

-- a piece and its length
abbrev pub Found : Type 0
Found = Piece × ℕ

-- a name or a keyword, as long as the bytes are parts of names
abbrev pub found_name : (ℕ → Bool) → List (List ℕ) → ℕ → List ℕ → Found
found_name is_part keywords byte bytes = let len : ℕ = 1 + prefix_len is_part bytes in (word keywords (take len (byte ∷ bytes)), len)

-- a number, as long as the bytes are digits
abbrev pub found_number : List ℕ → Found
found_number bytes = (Word Number, 1 + prefix_len is_digit bytes)

-- a symbol, of two bytes where these make one
abbrev pub found_symbol : (ℕ → Bool) → (ℕ → ℕ → Bool) → ℕ → List ℕ → Option Found
found_symbol is_symbol is_pair byte [] = if is_symbol byte then Some (Word Symbol, 1) else None
found_symbol is_symbol is_pair byte (next ∷ bytes) = if is_pair byte next then Some (Word Symbol, 2) else if is_symbol byte then Some (Word Symbol, 1) else None
