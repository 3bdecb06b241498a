use Rattle.std.proofs.Common.{◌≡◌, ◌≤◌, ℕ, List, [], length, drop, is_some}
use Rattle.std.specs.BTreeMap.{get_by}
use Rattle.std.specs.Cmp.Lexicographic.{slice_cmp}
use Rattle.std.specs.Ordering.{nat_cmp}
use Rattle.pd_tree.specs.Linked.{sees_name, with_parameters}
use Rattle.pd_tree.proofs.seen.parameters_seen.Given as goal

abbrev pub invariant-loop-x : goal.invariant-loop-x
invariant-loop-x l = record {
  seen : with_parameters l.seen.items (drop l.x-index l.parameters) ≡ with_parameters [] l.parameters;
  few : length l.seen.items ≤ l.x-index;
  known : (name : List ℕ) → sees_name name l.seen.items ≡ is_some (get_by (λ k. slice_cmp nat_cmp name k.now) l.known);
}
