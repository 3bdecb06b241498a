use Rattle.std.proofs.Common.{drop, map}
use Rattle.pd_running.specs.Running.{mark_in}
use Rattle.pd_paths.specs.Counting.{IsStanding}
use Rattle.pd_paths.proofs.counting.counted.Given as goal

-- the entries so far are counted
abbrev pub invariant-loop-entry : goal.invariant-loop-entry
invariant-loop-entry l = IsStanding l.events (map mark_in l.log) (drop l.entry-index (map mark_in l.log)) l.counter
