-- Twin of the code, for its proofs: no public contract needs it.
-- The longest piece of PL/0 that some bytes begin with, found from the left: what the code computes.
use Rattle.std.specs.Prelude.{ℕ, if◌then◌else◌, List, [], ◌∷◌, Option, Some, None}
use Rattle.pd_sections.specs.declared.Piece.TheVariants.{Blank}
use Rattle.pd_sections.specs.Pieces.{is_digit}
use Rattle.pd_pl0_lex.specs.Scanning.{Found, found_name, found_number, found_symbol}
use Rattle.pd_sections.specs.Pl0Pieces.{is_white, is_name_start, is_name_part, keywords, is_symbol, is_pair}

-- the longest piece that begins with this byte and goes on with these
abbrev pub found_from : ℕ → List ℕ → Option Found
found_from byte bytes =
    if is_white byte then Some (Blank, 1)
    else if is_name_start byte then Some (found_name is_name_part keywords byte bytes)
    else if is_digit byte then Some (found_number bytes)
    else found_symbol is_symbol is_pair byte bytes

-- the longest piece that the bytes begin with
abbrev pub found_in : List ℕ → Option Found
found_in [] = None
found_in (byte ∷ bytes) = found_from byte bytes
