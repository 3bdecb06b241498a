use Rattle.std.proofs.Common.{◌≡◌, ◌++◌, take, string_bytes}
use Rattle.pd_report.specs.Lines.{numbered}
use Rattle.pd_report.specs.Stops.{frame_line}
use Rattle.pd_report.proofs.stops.push_frames.Given as goal

-- the frames so far are written
abbrev pub invariant-loop-number : goal.invariant-loop-number
invariant-loop-number l = string_bytes l.text ≡ string_bytes l.initial.text ++ numbered (frame_line l.program) 0 (take l.number l.frames)
