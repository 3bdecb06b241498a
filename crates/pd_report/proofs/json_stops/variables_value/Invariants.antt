use Rattle.std.proofs.Common.{◌≡◌, take, map}
use Rattle.serde_json.specs.View.{view}
use Rattle.pd_report.specs.Json.{variable_json}
use Rattle.pd_report.proofs.json_stops.variables_value.Given as goal

-- the variables so far are there
abbrev pub invariant-loop-variable : goal.invariant-loop-variable
invariant-loop-variable l = map view l.values.items ≡ map (variable_json l.names) (take l.variable-index l.variables)
