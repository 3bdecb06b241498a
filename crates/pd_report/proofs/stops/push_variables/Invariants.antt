use Rattle.std.proofs.Common.{◌≡◌, ◌++◌, take, string_bytes, flat_map}
use Rattle.pd_report.specs.Stops.{variable_text}
use Rattle.pd_report.proofs.stops.push_variables.Given as goal

-- the variables so far are written
abbrev pub invariant-loop-variable : goal.invariant-loop-variable
invariant-loop-variable l = string_bytes l.text ≡ string_bytes l.initial.text ++ flat_map (variable_text l.names) (take l.variable-index l.variables)
