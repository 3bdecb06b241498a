use Rattle.pd_load.proofs.Tables.{EntriesTo}
use Rattle.pd_load.proofs.exports.entries_of.Given as goal

abbrev pub invariant-loop-index : goal.invariant-loop-index
invariant-loop-index l = EntriesTo l.tables l.contexts l.index l.entries.items
