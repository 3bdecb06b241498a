use Rattle.std.proofs.Common.{◌≡◌, length}
use Rattle.pd_pl0_read.specs.Held.{headings_ended}
use Rattle.pd_pl0_read.proofs.reader.Reader.end_headings.Given as goal

abbrev pub invariant-loop-top : goal.invariant-loop-top
invariant-loop-top l = record { rest : headings_ended l.at l.self.stack l.self.nodes ≡ headings_ended l.at l.fn.self.stack l.fn.self.nodes; blocks : l.self.blocks ≡ l.fn.self.blocks; constant : l.self.constant ≡ l.fn.self.constant }

abbrev pub decreases-loop-top : goal.decreases-loop-top
decreases-loop-top l = length l.self.stack
