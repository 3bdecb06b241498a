use Rattle.std.proofs.Common.{◌≡◌, ◌++◌, drop}
use Rattle.pd_tree.specs.Linked.{declared}
use Rattle.pd_tree.proofs.seen.declared.Given as goal

abbrev pub invariant-loop-slot : goal.invariant-loop-slot
invariant-loop-slot l = l.seen.items ++ declared l.slot (drop l.slot l.names) ≡ declared 0 l.names
