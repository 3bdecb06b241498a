use Rattle.std.proofs.Common.{◌≡◌, take, map}
use Rattle.serde_json.specs.View.{view}
use Rattle.pd_report.specs.Json.{act_json}
use Rattle.pd_report.proofs.json_stops.acts_value.Given as goal

-- the acts so far are there
abbrev pub invariant-loop-act : goal.invariant-loop-act
invariant-loop-act l = map view l.values.items ≡ map act_json (take l.act-index l.acts)
