use Rattle.std.proofs.Common.{◌≡◌, ◌+◌, ◌++◌, length, drop}
use Rattle.pd_tree.specs.Linked.{joined, mains_from}
use Rattle.pd_link.proofs.items.list_mains.Given as goal

abbrev pub invariant-loop-tree : goal.invariant-loop-tree
invariant-loop-tree l = record {
  mains : l.mains.items ++ mains_from l.next (drop l.tree-index l.trees) ≡ mains_from 0 l.trees;
  place : l.next + length (joined (drop l.tree-index l.trees)) ≡ length (joined l.trees);
}
