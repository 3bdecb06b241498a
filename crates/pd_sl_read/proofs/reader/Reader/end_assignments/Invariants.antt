use Rattle.std.proofs.Common.{◌≡◌, length}
use Rattle.pd_sl_read.specs.Held.{assignments_ended}
use Rattle.pd_sl_read.proofs.reader.Reader.end_assignments.Given as goal

abbrev pub invariant-loop-top : goal.invariant-loop-top
invariant-loop-top l = record { mode : l.self.mode ≡ l.fn.self.mode; rest : assignments_ended l.at l.self.stack l.self.nodes ≡ assignments_ended l.at l.fn.self.stack l.fn.self.nodes }

abbrev pub decreases-loop-top : goal.decreases-loop-top
decreases-loop-top l = length l.self.stack
