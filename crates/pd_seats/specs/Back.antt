-- For proofs above: no public contract needs it.
-- What is known when all pieces are back, as the report of a run asks for it: by tokens, and by two kinds of pieces.
use Rattle.std.specs.Prelude.{◌≡◌, ℕ, ◌+◌, ◌==◌, List, ◌++◌, length, map, count_by, flat_map}
use Rattle.std.specs.List.{All, AllZip, filter_map}
use Rattle.pd_board.specs.declared.answers.Known.TheVariants as knowns
use Rattle.pd_core.specs.declared.view.Talk.{Talk}
use Rattle.pd_shared.specs.declared.token.Token.{Token}
use Rattle.pd_shared.specs.declared.sights.Sights.{Sights}
use Rattle.pd_shared.specs.Book.{known_at}
use Rattle.pd_shared.specs.Sitting.{Sitting, number_for, base_of}
use Rattle.pd_shared.specs.Left.{IsNewcomer, Leaves, DidLeave, HasLearned}
use Rattle.pd_seats.specs.declared.pieces.Piece.{Piece}
use Rattle.pd_seats.specs.Shares.{HasHandedOn}

-- the answer numbers that a seat took for a session
abbrev pub numbers_for : ℕ → Token → List ℕ
numbers_for s t = filter_map (number_for s) t.pass.view.talk.numbers

-- how often the answer number x of session s is among these, and among those that were handed on
abbrev pub times_taken : ℕ → ℕ → Talk → ℕ
times_taken s x t = count_by (λ y. y == x) (filter_map (number_for s) (t.numbers ++ t.handed))

-- `now` is the token `first` after the seats with these tokens retired into it, one after another, and left these sights
pub record HasGathered (first : Token) (tokens : List Token) (left : List Sights) (now : Token) : Type 0 where
  pub sights : now.journal.sights ≡ first.journal.sights
  pub replies : now.journal.replies ≡ first.journal.replies
  pub leaves : AllZip Leaves tokens left
  pub did : DidLeave left now.pass.view.taken
  pub learned : HasLearned now left
  pub known : All (λ t. (b : ℕ) → known_at t.known.items b ≡ knowns.Disposed → known_at now.known.items b ≡ knowns.Disposed) tokens
  pub numbers : (s x : ℕ) → times_taken s x now.pass.view.talk ≡ times_taken s x first.pass.view.talk + count_by (λ y. y == x) (flat_map (numbers_for s) tokens)

-- a piece that was begun on a seat split off from one that stood at `first`, and what became of it
pub record DidFrom {O : Type 0} (did : O → Sitting → O → Sitting → Type 0) (first : Sitting) (begun ended : Piece O) : Type 0 where
  pub new : IsNewcomer first begun.seat
  pub base : base_of ended.seat ≡ base_of begun.seat
  pub work : did begun.own begun.seat ended.own ended.seat

abbrev pub own_of : {O : Type 0} → Piece O → O
own_of p = p.own

abbrev pub token_of : {O : Type 0} → Piece O → Token
token_of p = p.seat.token

-- pieces with the owns `xs` and then ones with the owns `ys` were done from a seat that stood at `first`, and left these owns and sights
pub record AreBack {O : Type 0} (did : O → Sitting → O → Sitting → Type 0) (first last : Sitting) (xs ys afters : List O) (left : List Sights) : Type 0 where
  pub between : Sitting
  pub begun : List (Piece O) × List (Piece O)
  pub ended : List (Piece O) × List (Piece O)
  pub owns_are : (map own_of begun.0 ≡ xs) × (map own_of begun.1 ≡ ys)
  pub ones : AllZip (DidFrom did first) begun.0 ended.0
  pub others : AllZip (DidFrom did first) begun.1 ended.1
  pub afters_are : afters ≡ map own_of ended.0 ++ map own_of ended.1
  pub handed : HasHandedOn (length (xs ++ ys)) first between
  pub gathered : HasGathered between.token (map token_of ended.0 ++ map token_of ended.1) left last.token
