use Rattle.pd_load.proofs.Spelling.{TreesTo}
use Rattle.pd_load.proofs.sources.trees_of.Given as goal

abbrev pub invariant-loop-index : goal.invariant-loop-index
invariant-loop-index l = TreesTo l.specs l.sources l.index l.room l.trees.items
