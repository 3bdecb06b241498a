use Rattle.std.proofs.Common.{◌≡◌, take, map}
use Rattle.serde_json.specs.View.{view}
use Rattle.pd_report.specs.Json.{frame_json}
use Rattle.pd_report.proofs.json_stops.frames_value.Given as goal

-- the frames so far are there
abbrev pub invariant-loop-frame : goal.invariant-loop-frame
invariant-loop-frame l = map view l.values.items ≡ map (frame_json l.program) (take l.frame-index l.frames)
