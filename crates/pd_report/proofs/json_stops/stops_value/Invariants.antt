use Rattle.std.proofs.Common.{◌≡◌, take, map}
use Rattle.serde_json.specs.View.{view}
use Rattle.pd_report.specs.Json.{stop_json}
use Rattle.pd_report.proofs.json_stops.stops_value.Given as goal

-- the stops so far are there
abbrev pub invariant-loop-stop : goal.invariant-loop-stop
invariant-loop-stop l = map view l.values.items ≡ map (stop_json l.program) (take l.stop-index l.stops)
