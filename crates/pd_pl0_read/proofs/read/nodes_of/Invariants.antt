use Rattle.pd_pl0_read.specs.Tokens.{words_of}
use Rattle.pd_pl0_read.proofs.Reading.{Reached}
use Rattle.pd_pl0_read.proofs.read.nodes_of.Given as goal

abbrev pub invariant-loop-at : goal.invariant-loop-at
invariant-loop-at l = Reached l.room (words_of l.source.bytes l.tokens) l.at l.reader
