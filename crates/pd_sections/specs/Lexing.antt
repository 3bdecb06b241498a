-- Definition: how a text splits into tokens and blanks, whatever the language.
-- A language says of some bytes what they are as a whole: a blank, a token, a fault, or nothing (`piece_of`).
-- A text splits from the left, each time into the longest piece that it begins with.
use Rattle.std.specs.Prelude.{◌≡◌, ℕ, ◌+◌, ◌<◌, ◌≤◌, List, [], ◌∷◌, length, take, drop, Option, Some, None}
use Rattle.pd_sections.specs.declared.Token.{Token}
use Rattle.pd_sections.specs.declared.TokenKind.{TokenKind}
use Rattle.pd_sections.specs.declared.Piece.{Piece}
use Rattle.pd_sections.specs.declared.Piece.TheVariants.{Blank, Word, Fault}
use Rattle.pd_sections.specs.declared.Rule.{Rule}
use Rattle.pd_sections.specs.declared.Rule.TheVariants.{BadByte}
use Rattle.pd_sections.specs.declared.Refusal.{Refusal}
use Rattle.pd_sections.specs.declared.Stop.{Stop}
use Rattle.pd_sections.specs.declared.Stop.TheVariants.{Refused, Memory}

-- what some bytes are as a whole in a language, if anything
abbrev pub Language : Type 0
Language = List ℕ → Option Piece

-- the first `n` of the bytes are this piece, and no longer prefix of the bytes is a piece
pub record IsLongest (piece_of : Language) (bytes : List ℕ) (piece : Piece) (n : ℕ) : Type 0 where
  pub some : 0 < n
  pub within : n ≤ length bytes
  pub is : piece_of (take n bytes) ≡ Some piece
  pub longest : (m : ℕ) → n < m → m ≤ length bytes → piece_of (take m bytes) ≡ None

-- no prefix of the bytes is a piece
pub record StartsNoPiece (piece_of : Language) (bytes : List ℕ) : Type 0 where
  pub none : (m : ℕ) → 0 < m → m ≤ length bytes → piece_of (take m bytes) ≡ None

-- the bytes, which begin at this place of the text, split into blanks and these tokens, each the longest
pub data Lexes (piece_of : Language) : ℕ → List ℕ → List Token → Type 0 where
  at_end : {at : ℕ} → Lexes piece_of at [] []
  past_blank : {at : ℕ} {bytes : List ℕ} {tokens : List Token} (n : ℕ) → IsLongest piece_of bytes Blank n
      → Lexes piece_of (at + n) (drop n bytes) tokens → Lexes piece_of at bytes tokens
  past_token : {at : ℕ} {bytes : List ℕ} {tokens : List Token} {kind : TokenKind} (n : ℕ) → IsLongest piece_of bytes (Word kind) n
      → Lexes piece_of (at + n) (drop n bytes) tokens
      → Lexes piece_of at bytes (record { kind = kind; start = at; len = n } ∷ tokens)

-- After blanks and tokens, each the longest, comes the first offending place of the bytes:
-- one in the longest piece there, which is a fault, or a place where no piece starts.
pub data Offends (piece_of : Language) : ℕ → List ℕ → Refusal → Type 0 where
  in_fault : {at : ℕ} {bytes : List ℕ} {rule : Rule} {behind : ℕ} (n : ℕ) → IsLongest piece_of bytes (Fault rule behind) n
      → Offends piece_of at bytes (record { rule = rule; at = at + behind })
  starts_none : {at : ℕ} {byte : ℕ} {bytes : List ℕ} → StartsNoPiece piece_of (byte ∷ bytes)
      → Offends piece_of at (byte ∷ bytes) (record { rule = BadByte; at = at })
  behind_blank : {at : ℕ} {bytes : List ℕ} {refusal : Refusal} (n : ℕ) → IsLongest piece_of bytes Blank n
      → Offends piece_of (at + n) (drop n bytes) refusal → Offends piece_of at bytes refusal
  behind_token : {at : ℕ} {bytes : List ℕ} {refusal : Refusal} {kind : TokenKind} (n : ℕ) → IsLongest piece_of bytes (Word kind) n
      → Offends piece_of (at + n) (drop n bytes) refusal → Offends piece_of at bytes refusal

-- the tokens stand one after the other between these two places, and none is empty
abbrev pub InOrder : ℕ → ℕ → List Token → Type 0
InOrder from to [] = from ≤ to
InOrder from to (token ∷ tokens) = (from ≤ token.start) × (0 < token.len) × InOrder (token.start + token.len) to tokens

-- The text splits into these tokens and no others.
pub record Splits (piece_of : Language) (bytes : List ℕ) (tokens : List Token) : Type 0 where
  pub lexes : Lexes piece_of 0 bytes tokens
  pub only : (others : List Token) → Lexes piece_of 0 bytes others → others ≡ tokens
  pub in_order : InOrder 0 (length bytes) tokens

-- The text has this first offending place and no other, and splits into no tokens.
pub record IsRefused (piece_of : Language) (bytes : List ℕ) (refusal : Refusal) : Type 0 where
  pub offends : Offends piece_of 0 bytes refusal
  pub only : (other : Refusal) → Offends piece_of 0 bytes other → other ≡ refusal
  pub splits_not : (tokens : List Token) → Lexes piece_of 0 bytes tokens → ⊥
  pub within : refusal.at < length bytes

-- a text is given up for its first offending place, or where memory runs out
abbrev pub StopsAt : Language → List ℕ → Stop Refusal → Type 0
StopsAt piece_of bytes (Refused refusal) = IsRefused piece_of bytes refusal
StopsAt piece_of bytes Memory = Unit {0}

-- the offending byte of a fault is one of its bytes
abbrev pub FaultWithin : Piece → ℕ → Type 0
FaultWithin (Fault rule behind) n = behind < n
FaultWithin piece n = Unit {0}
