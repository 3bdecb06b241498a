use Rattle.std.proofs.Common.{◌≡◌, take, map}
use Rattle.serde_json.specs.View.{view}
use Rattle.pd_report.specs.Json.{reason_json}
use Rattle.pd_report.proofs.json_stops.reasons_value.Given as goal

-- the reasons so far are there
abbrev pub invariant-loop-reason : goal.invariant-loop-reason
invariant-loop-reason l = map view l.values.items ≡ map reason_json (take l.reason-index l.reasons)
