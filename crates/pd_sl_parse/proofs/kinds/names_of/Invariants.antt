use Rattle.pd_sl_parse.specs.Additions.{AreNames}
use Rattle.pd_sl_parse.proofs.kinds.names_of.Given as goal

abbrev pub invariant-loop-k : goal.invariant-loop-k
invariant-loop-k l = AreNames l.source.bytes l.tokens l.first l.k l.names.items
