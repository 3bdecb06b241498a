use Rattle.std.proofs.Common.{◌≡◌, drop}
use Rattle.pd_tree.specs.Linked.{sees_name}
use Rattle.pd_tree.proofs.seen.sees_name.Given as goal

abbrev pub invariant-loop-v : goal.invariant-loop-v
invariant-loop-v l = sees_name l.name (drop l.v-index l.seen) ≡ sees_name l.name l.seen
