use Rattle.std.proofs.Common.{string_bytes}
use Rattle.pd_report.specs.Stops.{frame_line}
use Rattle.pd_report.proofs.NumberedLemmas.{numbered_more}
use Rattle.pd_report.proofs.stops.push_frames.Goals as goal

pub loop-number-preserved : goal.loop-number-preserved
loop-number-preserved c =
    let next = c.index-frames-number in
    numbered_more (frame_line c.args.program.now) c.args.frames.now c.loop-number.number next.result (string_bytes c.args.text.now) (string_bytes c.loop-number.text)
    (string_bytes c.push_frame.new.text) c.loop-number-test.true next.is c.loop-number.invariant c.in_ok-push_frame.ensures
