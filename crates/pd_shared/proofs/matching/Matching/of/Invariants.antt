use Rattle.std.proofs.Common.{◌≡◌, ◌+◌, ◌/◌, ◌==◌, ◌&&◌, ℕ, [], length}
use Rattle.std.specs.Prelude.{nat_lt, slice_index_or}
use Rattle.std.specs.List.{list_any}
use Rattle.pd_shared.specs.Matching.{stands}
use Rattle.pd_shared.proofs.matching.Matching.of.Given as goal

abbrev pub invariant-loop-b : goal.invariant-loop-b
invariant-loop-b l = record {
  nodes : l.matching.nodes ≡ l.nodes;
  bindings : l.matching.bindings ≡ length l.rows;
  width : l.matching.width ≡ (length l.rows + 63) / 64;
  set : (m c : ℕ) → stands l.matching m c ≡ (nat_lt c l.b && list_any (λ n. n == m) (slice_index_or l.rows c []));
}
