-- What is found is the longest piece that the bytes begin with.
use Rattle.std.proofs.Common.{◌≡◌, ℕ, List, [], ◌∷◌, Option, refl, sym, subst, arith}
use Rattle.pd_sections.specs.declared.Piece.TheVariants.{Blank}
use Rattle.pd_sections.specs.Pieces.{is_digit}
use Rattle.pd_pl0_lex.specs.Scanning.{Found}
use Rattle.pd_sections.specs.Pl0Pieces.{is_white, is_name_start, is_name_part, keywords, is_symbol, is_pair, pl0_piece}
use Rattle.pd_pl0_lex.proofs.FoundPieces.{Right, right_if, one_right, name_right, number_right, symbol_right}
use Rattle.pd_pl0_lex.specs.Scan.{found_from, found_in}

from_right : (byte : ℕ) (bytes : List ℕ) → Right pl0_piece (byte ∷ bytes) (found_from byte bytes)
from_right byte bytes =
    let all : List ℕ = byte ∷ bytes in
    right_if pl0_piece all (is_white byte) _ _ (λ a. one_right pl0_piece byte bytes Blank tt (λ xs. rw a refl))
    (λ a. right_if pl0_piece all (is_name_start byte) _ _ (λ b. name_right pl0_piece is_name_part keywords byte bytes (λ xs. rw (a, b) refl))
    (λ b. right_if pl0_piece all (is_digit byte) _ _ (λ c. number_right pl0_piece byte bytes (λ xs. rw (a, b, c) refl))
    (λ c. symbol_right pl0_piece is_symbol is_pair byte bytes (λ xs. rw (a, b, c) refl))))

found_right : (bytes : List ℕ) → Right pl0_piece bytes (found_in bytes)
found_right [] = record { none = λ m h k. absurd (omega arith) }
found_right (byte ∷ bytes) = from_right byte bytes

pub found_right_of : (bytes : List ℕ) (o : Option Found) → o ≡ found_in bytes → Right pl0_piece bytes o
found_right_of bytes o e = subst (λ o. Right pl0_piece bytes o) (sym e) (found_right bytes)
