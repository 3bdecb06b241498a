use Rattle.pd_load.proofs.Tables.{FoundTo}
use Rattle.pd_load.proofs.found.found_for.Given as goal

abbrev pub invariant-loop-index : goal.invariant-loop-index
invariant-loop-index l = FoundTo l.specs l.trees l.tables l.exports l.index l.found.items
