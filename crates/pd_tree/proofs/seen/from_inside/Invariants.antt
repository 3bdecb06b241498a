use Rattle.std.proofs.Common.{◌≡◌, ◌++◌}
use Rattle.pd_tree.specs.Linked.{from_inside}
use Rattle.pd_tree.specs.Seen.{AllUp}
use Rattle.pd_tree.proofs.seen.from_inside.Given as goal

abbrev pub invariant-loop-v : goal.invariant-loop-v
invariant-loop-v l = record {
  seen : l.seen.items ++ from_inside l.v-iterator.rest.items ≡ from_inside l.fn.around.items;
  up : AllUp 4294967294 l.v-iterator.rest.items;
}
