use Rattle.std.proofs.Common.{length}
use Rattle.pd_sl_parse.proofs.Building.{Built}
use Rattle.pd_sl_parse.proofs.build.parse.Given as goal

abbrev pub invariant-loop-node : goal.invariant-loop-node
invariant-loop-node l = Built l.source.bytes l.tokens l.number (length l.tokens) l.node-items l.node-index l.scope l.builder
