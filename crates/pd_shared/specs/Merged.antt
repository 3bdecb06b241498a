-- Definition: `later`; the rest is a twin of the code, for its proofs.
-- What a seat makes of the lists of one that it takes in.
use Rattle.std.specs.Prelude.{◌≡◌, ℕ, ◌<◌, ◌≤◌, max, List, length, slice_index_or}
use Rattle.pd_board.specs.declared.answers.Known.{Known}
use Rattle.pd_board.specs.declared.answers.Known.TheVariants as knowns
use Rattle.pd_shared.specs.declared.token.Reads.{Reads}

-- the later of what both know
abbrev pub later : Known → Known → Known
later knowns.Fresh other = other
later knowns.Attached knowns.Disposed = knowns.Disposed
later knowns.Attached _ = knowns.Attached
later knowns.Disposed _ = knowns.Disposed

-- its own number of loads, and the greater of both last numbers
abbrev pub with_last : Reads → Reads → Reads
with_last own other = record { loads = own.loads; last = max own.last other.last }

-- the entries below k are those of f on both lists, and the others are as before; d stands for an entry past the end
pub record IsMerged {A : Type 0} (f : A → A → A) (d : A) (k : ℕ) (own other now : List A) : Type 0 where
  pub lengths : length now ≡ length own
  pub below : (i : ℕ) → i < k → slice_index_or now i d ≡ f (slice_index_or own i d) (slice_index_or other i d)
  pub above : (i : ℕ) → k ≤ i → slice_index_or now i d ≡ slice_index_or own i d
