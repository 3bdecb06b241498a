use Rattle.std.proofs.Common.{◌≡◌, ◌++◌}
use Rattle.pd_tree.specs.Linked.{without}
use Rattle.pd_tree.proofs.seen.without.Given as goal

abbrev pub invariant-loop-v : goal.invariant-loop-v
invariant-loop-v l = l.rest.items ++ without l.name l.v-iterator.rest.items ≡ without l.name l.fn.seen.items
