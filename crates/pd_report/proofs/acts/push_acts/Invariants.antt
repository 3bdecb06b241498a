use Rattle.std.proofs.Common.{◌≡◌, ◌++◌, take, string_bytes, flat_map}
use Rattle.pd_report.specs.Stops.{act_line}
use Rattle.pd_report.proofs.acts.push_acts.Given as goal

-- the acts so far are written
abbrev pub invariant-loop-act : goal.invariant-loop-act
invariant-loop-act l = string_bytes l.text ≡ string_bytes l.initial.text ++ flat_map act_line (take l.act-index l.acts)
