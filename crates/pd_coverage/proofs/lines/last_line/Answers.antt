use Rattle.std.proofs.Common.{take}
use Rattle.std.proofs.lemmas.List.{take_more}
use Rattle.pd_coverage.proofs.LineLists.{last_line_more}
use Rattle.pd_coverage.proofs.lines.last_line.Goals as goal

pub loop-n-preserved : goal.loop-n-preserved
loop-n-preserved c =
    let k = c.loop-n.n-index in
    let first = take_more c.args.nodes.now k c.n-item.result c.loop-n-test.true in
    let more = last_line_more c.args.program.now (take k c.args.nodes.now) c.n-item.result in
    cc
