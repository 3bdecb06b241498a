use Rattle.std.proofs.Common.{length, ◌-◌, ◌≤◌, take}
use Rattle.pd_top.specs.Answers.{writing_of, IsWritten}
use Rattle.pd_top.proofs.top.write_whole.Given as goal

-- the bytes before `at` are written
abbrev pub invariant-loop-at : goal.invariant-loop-at
invariant-loop-at g l =
    (l.at ≤ length l.bytes)
    × IsWritten (writing_of g.K.Sink.taken g.K.Sink.accepted g.K.Sink.faults l.initial.out l.out) (take l.at l.bytes)
    × (g.K.Sink.faults l.initial.out ≤ g.K.Sink.faults l.out)

abbrev pub decreases-loop-at : goal.decreases-loop-at
decreases-loop-at g l = length l.bytes - l.at
