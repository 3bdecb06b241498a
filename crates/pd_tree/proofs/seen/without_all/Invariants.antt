use Rattle.std.proofs.Common.{◌≡◌, drop}
use Rattle.pd_tree.specs.Linked.{without_all}
use Rattle.pd_tree.proofs.seen.without_all.Given as goal

abbrev pub invariant-loop-name : goal.invariant-loop-name
invariant-loop-name l = without_all (drop l.name-index l.names) l.seen.items ≡ without_all l.names l.fn.seen.items
