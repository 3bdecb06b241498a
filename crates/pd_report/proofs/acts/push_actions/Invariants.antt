use Rattle.std.proofs.Common.{◌≡◌, ◌++◌, take, string_bytes, flat_map}
use Rattle.pd_report.specs.Stops.{action_line}
use Rattle.pd_report.proofs.acts.push_actions.Given as goal

-- the actions so far are written
abbrev pub invariant-loop-action : goal.invariant-loop-action
invariant-loop-action l = string_bytes l.text ≡ string_bytes l.initial.text ++ flat_map action_line (take l.action-index l.actions)
