use Rattle.pd_load.proofs.Tables.{ExportsTo}
use Rattle.pd_load.proofs.exports.exports_of.Given as goal

abbrev pub invariant-loop-index : goal.invariant-loop-index
invariant-loop-index l = ExportsTo l.tables l.exports l.index l.table
