use Rattle.std.proofs.Common.{◌≡◌, ◌+◌, ◌≤◌, List, length}
use Rattle.pd_tree.specs.declared.addition.Addition.{Addition}
use Rattle.pd_tree.specs.Kept.{list_at}
use Rattle.pd_tree.specs.Seen.{applied}
use Rattle.pd_tree.proofs.seen.chain_to.Given as goal

abbrev pub invariant-loop-at : goal.invariant-loop-at
invariant-loop-at l = record {
  chain : (additions : List Addition) → applied additions l.chain.items (list_at additions l.changes l.at) ≡ list_at additions l.changes l.number;
  few : length l.chain.items + l.at ≤ l.number;
}

abbrev pub decreases-loop-at : goal.decreases-loop-at
decreases-loop-at l = l.at
