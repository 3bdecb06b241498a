-- The places of the nodes with a tag so far; lines so far are 32 bits wide.
use Rattle.std.proofs.Common.{◌≡◌, ℕ, ◌<◌, ◌^◌, map}
use Rattle.std.specs.List.{range_with_len, filter}
use Rattle.pd_tree.specs.Program.{node_at}
use Rattle.pd_index.specs.Places.{place_of, is_tagged}
use Rattle.pd_index.proofs.lines.places.Given as goal

abbrev pub invariant-loop-n : goal.invariant-loop-n
invariant-loop-n l = record {
  places : l.places.items ≡ map (place_of l.program) (filter (is_tagged l.program) (range_with_len 0 l.n));
  fit : (m : ℕ) → m < l.n → (node_at l.program m).line < 2 ^ 32;
}
