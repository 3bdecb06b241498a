use Rattle.std.proofs.Common.{◌≡◌, ◌++◌, take, map}
use Rattle.serde_json.specs.View.{view}
use Rattle.pd_report.specs.Logs.{entries_of}
use Rattle.pd_report.specs.Json.{entry_json}
use Rattle.pd_report.proofs.json.push_logs.Given as goal

-- the logs so far are there
abbrev pub invariant-loop-context : goal.invariant-loop-context
invariant-loop-context l = map view l.values.items ≡ map view l.initial.values.items ++ map (entry_json l.names) (entries_of l.binding (take l.context-index l.contexts))
