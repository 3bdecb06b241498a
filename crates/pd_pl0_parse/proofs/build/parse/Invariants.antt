use Rattle.pd_pl0_parse.proofs.Building.{Built}
use Rattle.pd_pl0_parse.proofs.build.parse.Given as goal

abbrev pub invariant-loop-node : goal.invariant-loop-node
invariant-loop-node l = Built l.source.bytes l.tokens l.number l.node-items l.node-index l.builder
