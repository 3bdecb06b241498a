-- The bytes of names are UTF-8: a name is ASCII.
use Rattle.std.proofs.Common.{◌≡◌, ℕ, zero, suc, ◌+◌, ◌<◌, Bool, true, false, List, [], ◌∷◌, take, drop, Some, refl, sym, ap, ◌∙◌, ◌⊎◌, inl, inr, arith}
use Rattle.std.specs.Prelude.{if◌then◌else◌, ◌==◌, ◌&&◌, nat_le}
use Rattle.std.specs.List.{list_all}
use Rattle.std.specs.Str.{IsUtf8, IsAscii}
use Rattle.std.proofs.lemmas.Bool.{or_cases, and_parts, leb-true, eqb-true}
use Rattle.std.proofs.lemmas.List.{drop-drop}
use Rattle.std.proofs.lemmas.Str.{IsUtf8-from_ascii}
use Rattle.pd_sections.specs.declared.Token.{Token}
use Rattle.pd_sections.specs.declared.TokenKind.{TokenKind}
use Rattle.pd_sections.specs.declared.TokenKind.TheVariants.{Name, Number, Text, Keyword, Symbol}
use Rattle.pd_sections.specs.declared.Piece.{Piece}
use Rattle.pd_sections.specs.declared.Piece.TheVariants.{Blank, Word}
use Rattle.pd_sections.specs.Lexing.{Lexes, at_end, past_blank, past_token}
use Rattle.pd_sections.specs.Pieces.{is_letter, is_digit, is_empty, piece_if, word, symbol_piece}
use Rattle.pd_sections.specs.Pl0Pieces.{is_white, is_name_start, is_name_part, keywords, is_symbol, is_pair, pl0_piece}
use Rattle.pd_pl0_read.specs.Tokens.{text_of}

abbrev pub IsSpelled : TokenKind → List ℕ → Type 0
IsSpelled Name bytes = IsUtf8 bytes
IsSpelled _ bytes = Unit {0}

abbrev pub AllSpelled : List ℕ → List Token → Type 0
AllSpelled bytes [] = Unit {0}
AllSpelled bytes (token ∷ tokens) = IsSpelled token.kind (text_of bytes token) × AllSpelled bytes tokens

not_piece : (t : Bool) (p q : Piece) → (p ≡ q → ⊥) → piece_if t p ≡ Some q → ⊥
not_piece true p q h e = let same : p ≡ q = cc in h same
not_piece false p q h e = cc

not_symbol : (b : ℕ) (u : List ℕ) → symbol_piece is_symbol is_pair b u ≡ Some (Word Name) → ⊥
not_symbol b [] e = not_piece _ (Word Symbol) (Word Name) (λ x. cc) e
not_symbol b (c ∷ u) e = not_piece _ (Word Symbol) (Word Name) (λ x. cc) e

sure : (t : Bool) (p : Piece) (q : Piece) → piece_if t p ≡ Some q → t ≡ true
sure true p q e = refl
sure false p q e = absurd (cc)

letter_small : (b : ℕ) → is_letter b ≡ true → b < 128
letter_small b h = go (or_cases (nat_le 65 b && nat_le b 90) (nat_le 97 b && nat_le b 122) h)
  where
    go : ((nat_le 65 b && nat_le b 90) ≡ true) ⊎ ((nat_le 97 b && nat_le b 122) ≡ true) → b < 128
    go (inl e) = omega (arith, leb-true b 90 (and_parts (nat_le 65 b) (nat_le b 90) e).1)
    go (inr e) = omega (arith, leb-true b 122 (and_parts (nat_le 97 b) (nat_le b 122) e).1)

start_small : (b : ℕ) → is_name_start b ≡ true → b < 128
start_small b h = go (or_cases (is_letter b) (b == 95) h)
  where
    go : (is_letter b ≡ true) ⊎ ((b == 95) ≡ true) → b < 128
    go (inl e) = letter_small b e
    go (inr e) = omega (arith, eqb-true b 95 e)

part_small : (b : ℕ) → is_name_part b ≡ true → b < 128
part_small b h = go (or_cases (is_name_start b) (is_digit b) h)
  where
    go : (is_name_start b ≡ true) ⊎ (is_digit b ≡ true) → b < 128
    go (inl e) = start_small b e
    go (inr e) = omega (arith, leb-true b 57 (and_parts (nat_le 48 b) (nat_le b 57) e).1)

parts_ascii : (u : List ℕ) → list_all is_name_part u ≡ true → IsAscii u
parts_ascii [] h i = omega arith
parts_ascii (b ∷ u) h zero = part_small b (and_parts (is_name_part b) (list_all is_name_part u) h).0
parts_ascii (b ∷ u) h (suc i) = parts_ascii u (and_parts (is_name_part b) (list_all is_name_part u) h).1 i

ascii_more : (b : ℕ) (u : List ℕ) → b < 128 → IsAscii u → IsAscii (b ∷ u)
ascii_more b u h g zero = h
ascii_more b u h g (suc i) = g i

name_ascii : (t : List ℕ) → pl0_piece t ≡ Some (Word Name) → IsAscii t
name_ascii [] e = absurd (cc)
name_ascii (b ∷ u) e = go (is_white b) (is_name_start b) (is_digit b) refl e
  where
    go : (w s d : Bool) → is_name_start b ≡ s
        → (if w then piece_if (is_empty u) Blank else if s then piece_if (list_all is_name_part u) (word keywords (b ∷ u)) else if d then piece_if (list_all is_digit u) (Word Number) else symbol_piece is_symbol is_pair b u) ≡ Some (Word Name)
        → IsAscii (b ∷ u)
    go true s d h e = absurd (not_piece _ Blank (Word Name) (λ x. cc) e)
    go false true d h e = ascii_more b u (start_small b h) (parts_ascii u (sure _ (word keywords (b ∷ u)) (Word Name) e))
    go false false true h e = absurd (not_piece _ (Word Number) (Word Name) (λ x. cc) e)
    go false false false h e = absurd (not_symbol b u e)

spelled : (text : List ℕ) (k : TokenKind) → pl0_piece text ≡ Some (Word k) → IsSpelled k text
spelled text Name e = IsUtf8-from_ascii text (name_ascii text e)
spelled text Number e = tt
spelled text Text e = tt
spelled text Keyword e = tt
spelled text Symbol e = tt

all_spelled_from : (bytes rest : List ℕ) (at : ℕ) (tokens : List Token) → rest ≡ drop at bytes → Lexes pl0_piece at rest tokens → AllSpelled bytes tokens
all_spelled_from bytes rest at _ e at_end = tt
all_spelled_from bytes rest at tokens e (past_blank n l more) = all_spelled_from bytes (drop n rest) (at + n) tokens (ap (drop n) e ∙ drop-drop n at bytes) more
all_spelled_from bytes rest at _ e (past_token {tokens = tokens} {kind = k} n l more) =
    (spelled (take n (drop at bytes)) k (ap (λ r. pl0_piece (take n r)) (sym e) ∙ l.is), all_spelled_from bytes (drop n rest) (at + n) tokens (ap (drop n) e ∙ drop-drop n at bytes) more)

pub all_spelled : (bytes : List ℕ) (tokens : List Token) → Lexes pl0_piece 0 bytes tokens → AllSpelled bytes tokens
all_spelled bytes tokens l = all_spelled_from bytes bytes 0 tokens refl l
