use Rattle.std.proofs.Common.{take}
use Rattle.pd_calltree.specs.Counting.{AreTallied}
use Rattle.pd_calltree.proofs.trees.trees_of.Given as goal

-- the contexts so far have their paths
abbrev pub invariant-loop-context : goal.invariant-loop-context
invariant-loop-context l = AreTallied l.binding (take l.context-index l.contexts) l.trees.items
