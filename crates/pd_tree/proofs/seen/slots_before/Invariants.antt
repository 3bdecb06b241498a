use Rattle.std.proofs.Common.{◌≡◌, ◌+◌, ◌-◌, ◌≤◌, length, drop}
use Rattle.pd_tree.specs.Seen.{slots_before}
use Rattle.pd_tree.proofs.seen.slots_before.Given as goal

abbrev pub invariant-loop-at : goal.invariant-loop-at
invariant-loop-at l = record {
  count : slots_before l.slot (drop l.at l.seen) + l.at ≡ slots_before l.slot l.seen;
  within : l.at ≤ length l.seen;
}

abbrev pub decreases-loop-at : goal.decreases-loop-at
decreases-loop-at l = length l.seen - l.at
