use Rattle.std.proofs.Common.{◌≡◌, ◌++◌, take, string_bytes, flat_map}
use Rattle.pd_report.specs.Stops.{next_reason}
use Rattle.pd_report.proofs.stops.push_further.Given as goal

-- the reasons so far are written
abbrev pub invariant-loop-reason : goal.invariant-loop-reason
invariant-loop-reason l = string_bytes l.text ≡ string_bytes l.initial.text ++ flat_map next_reason (take l.reason-index l.reasons)
