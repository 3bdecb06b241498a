use Rattle.std.proofs.Common.{◌≡◌, take, map}
use Rattle.serde_json.specs.View.{view}
use Rattle.pd_report.specs.Json.{action_json}
use Rattle.pd_report.proofs.json.actions_value.Given as goal

-- the actions so far are there
abbrev pub invariant-loop-action : goal.invariant-loop-action
invariant-loop-action l = map view l.values.items ≡ map action_json (take l.action-index l.actions)
