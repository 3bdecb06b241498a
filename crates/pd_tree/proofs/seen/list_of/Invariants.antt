use Rattle.std.proofs.Common.{◌≡◌, ◌-◌, ◌≤◌, [], length, vec_len}
use Rattle.pd_tree.specs.Seen.{applied, AllUp}
use Rattle.pd_tree.proofs.seen.list_of.Given as goal

abbrev pub invariant-loop-change : goal.invariant-loop-change
invariant-loop-change l = record {
  seen : applied l.additions l.chain.items l.seen.items ≡ applied l.additions l.initial.chain.items [];
  few : length l.chain.items ≤ length l.initial.chain.items;
  up : AllUp (length l.initial.chain.items - length l.chain.items) l.seen.items;
}

abbrev pub decreases-loop-change : goal.decreases-loop-change
decreases-loop-change l = vec_len l.chain
