-- Definition: `IsHeld`; the rest is for proofs.
-- What a token keeps of its share of the seats, and of what disposals found.
use Rattle.std.specs.Prelude.{◌≡◌, ℕ, ◌<◌, ◌≤◌, ◌^◌, true, List, length, slice_index, slice_set}
use Rattle.pd_board.specs.declared.answers.Dispose.{Dispose}
use Rattle.pd_board.specs.declared.answers.Dispose.TheVariants as disposes
use Rattle.pd_core.specs.declared.view.View.{View}
use Rattle.pd_core.specs.Layout.{Layout, bindings}
use Rattle.pd_core.specs.Views.{of_all, disposals, count_kept}
use Rattle.pd_shared.specs.Tied.{none_taken}

-- what the token keeps of its share of the seats, and of the counts of disposals, fits the view
pub record IsHeld (p : Layout) (v : View) (seats : ℕ) (counts : List ℕ) : Type 0 where
  -- it has at least so many shares; where it took no other in, just so many, and at most as many as there are
  pub share : seats ≤ v.seat_share
  pub own_share : none_taken v.taken ≡ true → (v.seat_share ≡ seats) × (seats ≤ 2 ^ 32)
  -- for each binding a count that is kept, where there is one, and else 0
  pub counts_are : length counts ≡ bindings p
  pub found : (b : ℕ) → b < bindings p → 0 < of_all (disposals b) v → 0 < of_all (count_kept b (slice_index counts b)) v
  pub none_found : (b : ℕ) → b < bindings p → of_all (disposals b) v ≡ 0 → slice_index counts b ≡ 0

-- the counts after this answer of a dispose of b
abbrev pub counted_by : ℕ → Dispose → List ℕ → List ℕ
counted_by b (disposes.Disposed n) counts = slice_set counts b n
counted_by b disposes.Already counts = counts
