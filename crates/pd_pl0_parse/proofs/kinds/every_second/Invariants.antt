use Rattle.pd_pl0_parse.specs.Additions.{AreNames}
use Rattle.pd_pl0_parse.proofs.kinds.every_second.Given as goal

abbrev pub invariant-loop-k : goal.invariant-loop-k
invariant-loop-k l = AreNames l.source.bytes l.tokens l.first 2 l.k l.names.items
