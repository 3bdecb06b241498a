use Rattle.std.proofs.Common.{◌≡◌, take}
use Rattle.pd_log.specs.Merging.{entries_in}
use Rattle.pd_report.specs.Logs.{entries_of}
use Rattle.pd_report.proofs.logs.copy_logs.Given as goal

-- the logs so far are copied
abbrev pub invariant-loop-context : goal.invariant-loop-context
invariant-loop-context l = entries_in l.logs.items ≡ entries_of l.binding (take l.context-index l.contexts)
