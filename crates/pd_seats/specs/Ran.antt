-- Definition: pieces of work were done beside one another, on seats that came from a first one and retired into it.
use Rattle.std.specs.Prelude.{◌≡◌, ℕ, ◌<◌, List, length, map, slice_index_or}
use Rattle.pd_shared.specs.declared.sights.Sights.{Sights}
use Rattle.pd_shared.specs.Sitting.{Sitting, base_of}
use Rattle.pd_seats.specs.declared.pieces.Piece.{Piece}
use Rattle.pd_seats.specs.Shares.{HasHandedOn, AreNewcomers}
use Rattle.pd_seats.specs.Gathered.{IsGathered}

-- from the seat that stood at `first` seats were split off, one for each of `owns`; on each the work was done, which left these
-- owns; and then all retired, in order, into the first one, which stands at `last`, and left these sights
pub record AreDone {O : Type 0} (did : O → Sitting → O → Sitting → Type 0) (first last : Sitting) (owns afters : List O) (left : List Sights) : Type 0 where
  pub between : Sitting
  pub begun : List (Piece O)
  pub ended : List (Piece O)
  pub owns_are : map (λ p. p.own) begun ≡ owns
  pub new : AreNewcomers first (map (λ p. p.seat) begun)
  pub handed : HasHandedOn (length owns) first between
  pub count : length ended ≡ length begun
  pub each : (i : ℕ) (d : Piece O) → i < length begun → did (slice_index_or begun i d).own (slice_index_or begun i d).seat (slice_index_or ended i d).own (slice_index_or ended i d).seat
  pub bases : (i : ℕ) (d : Piece O) → i < length begun → base_of (slice_index_or ended i d).seat ≡ base_of (slice_index_or begun i d).seat
  pub afters_are : afters ≡ map (λ p. p.own) ended
  pub gathered : IsGathered (map (λ p. p.seat) ended) left between last
