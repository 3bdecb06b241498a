use Rattle.pd_load.proofs.Tables.{TablesTo}
use Rattle.pd_load.proofs.names.tables_of.Given as goal

abbrev pub invariant-loop-number : goal.invariant-loop-number
invariant-loop-number l = TablesTo l.specs l.trees l.number l.first l.tables.items
