use Rattle.std.proofs.Common.{◌≡◌, ◌++◌, take, string_bytes, flat_map}
use Rattle.pd_report.specs.Stops.{stop_text}
use Rattle.pd_report.proofs.stops.push_stops.Given as goal

-- the suspensions so far are written
abbrev pub invariant-loop-stop : goal.invariant-loop-stop
invariant-loop-stop l = string_bytes l.text ≡ string_bytes l.initial.text ++ flat_map (stop_text l.program) (take l.stop-index l.stops)
