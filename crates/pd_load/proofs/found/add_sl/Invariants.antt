use Rattle.pd_load.proofs.Tables.{SlTo}
use Rattle.pd_load.proofs.found.add_sl.Given as goal

abbrev pub invariant-loop-node : goal.invariant-loop-node
invariant-loop-node l = SlTo l.own l.exports l.tree l.node-index l.initial.found.items l.found.items
