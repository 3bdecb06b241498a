use Rattle.pd_load.proofs.Tables.{Pl0To}
use Rattle.pd_load.proofs.found.add_pl0.Given as goal

abbrev pub invariant-loop-node : goal.invariant-loop-node
invariant-loop-node l = Pl0To l.exports l.tree l.first l.node-index l.item l.initial.found.items l.found.items l.scope
