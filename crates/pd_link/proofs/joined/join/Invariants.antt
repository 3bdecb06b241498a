use Rattle.std.proofs.Common.{◌≡◌, ◌++◌}
use Rattle.pd_tree.specs.Linked.{joined}
use Rattle.pd_link.specs.Linking.{AllWhole}
use Rattle.pd_link.proofs.joined.join.Given as goal

abbrev pub invariant-loop-tree : goal.invariant-loop-tree
invariant-loop-tree l = record {
  joined : l.all.items ++ joined l.tree-iterator.rest.items ≡ joined l.fn.trees.items;
  whole : AllWhole l.tree-iterator.rest.items → AllWhole l.fn.trees.items;
}
