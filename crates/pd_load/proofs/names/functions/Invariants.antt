use Rattle.pd_load.proofs.Tables.{FunctionsTo}
use Rattle.pd_load.proofs.names.functions.Given as goal

abbrev pub invariant-loop-addition : goal.invariant-loop-addition
invariant-loop-addition l = FunctionsTo l.tree l.first l.addition-index l.item l.table
