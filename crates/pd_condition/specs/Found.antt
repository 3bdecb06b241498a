-- A second form of what a text is read as, which computes: `texts_law` ties it to Answers, which decides.
-- The condition that a text is, if it is one.
use Rattle.std.specs.Prelude.{◌≡◌, ℕ, zero, suc, ◌+◌, List, [], ◌∷◌, length, take, drop, Option, None, Some, option_map, Result, Ok, Err}
use Rattle.pd_sections.specs.declared.Token.{Token}
use Rattle.pd_sections.specs.declared.Piece.{Piece}
use Rattle.pd_sections.specs.declared.Piece.TheVariants.{Blank, Word, Fault}
use Rattle.pd_sections.specs.declared.Stop.{Stop}
use Rattle.pd_sections.specs.declared.Stop.TheVariants.{Refused, Memory}
use Rattle.pd_sections.specs.declared.Refusal.{Refusal}
use Rattle.pd_sections.specs.Lexing.{Language}
use Rattle.pd_sections.specs.SlPieces.{sl_piece}
use Rattle.pd_sl_spell.specs.Refusals.{Rule}
use Rattle.pd_sl_read.specs.Tokens.{words_of}
use Rattle.pd_plan.specs.declared.condition.Condition.{Condition}
use Rattle.pd_condition.specs.Machine.{followed}
use Rattle.pd_condition.specs.Reading.{read}

-- a piece and its length, or else a shorter one
abbrev pub or_shorter : Option Piece → ℕ → Option (Piece × ℕ) → Option (Piece × ℕ)
or_shorter None n shorter = shorter
or_shorter (Some piece) n shorter = Some (piece, n)

-- the longest piece of at most n bytes that the bytes begin with, and its length
abbrev pub longest : Language → List ℕ → ℕ → Option (Piece × ℕ)
longest piece_of bytes zero = None
longest piece_of bytes (suc n) = or_shorter (piece_of (take (suc n) bytes)) (suc n) (longest piece_of bytes n)

-- the tokens from a piece on, which has this place and this length, before these; a fault has none
abbrev pub from_piece : ℕ → Piece → ℕ → Option (List Token) → Option (List Token)
from_piece at Blank n rest = rest
from_piece at (Word kind) n rest = option_map (λ tokens. record { kind = kind; start = at; len = n } ∷ tokens) rest
from_piece at (Fault rule behind) n rest = None

-- the tokens of bytes that stand at this place, of which at most `most` pieces are taken
abbrev pub tokens_from : Language → ℕ → ℕ → List ℕ → Option (List Token)
tokens_from piece_of most at [] = Some []
tokens_from piece_of zero at (byte ∷ bytes) = None
tokens_from piece_of (suc most) at (byte ∷ bytes) = followed (longest piece_of (byte ∷ bytes) (length (byte ∷ bytes))) (λ p. from_piece at p.0 p.1 (tokens_from piece_of most (at + p.1) (drop p.1 (byte ∷ bytes))))

-- the condition of an answer
abbrev pub spelled_in : Result Condition (Rule × ℕ) → Option Condition
spelled_in (Ok c) = Some c
spelled_in (Err e) = None

-- the condition that a text is, if it is one
abbrev pub condition_in : List ℕ → Option Condition
condition_in bytes = followed (tokens_from sl_piece (length bytes) 0 bytes) (λ tokens. spelled_in (read (words_of bytes tokens)))

-- reading stops where the text is no condition, or for memory
abbrev pub StopsAtNone : List ℕ → Stop Refusal → Type 0
StopsAtNone bytes (Refused refusal) = condition_in bytes ≡ None
StopsAtNone bytes Memory = Unit {0}
