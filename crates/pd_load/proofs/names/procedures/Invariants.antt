use Rattle.pd_load.proofs.Tables.{ProceduresTo}
use Rattle.pd_load.proofs.names.procedures.Given as goal

abbrev pub invariant-loop-addition : goal.invariant-loop-addition
invariant-loop-addition l = ProceduresTo l.tree l.first l.addition-index l.item l.table l.scope
