use Rattle.std.proofs.Common.{[], refl}
use Rattle.pd_report.specs.Lines.{lines_of}
use Rattle.pd_gen.proofs.SummingLemmas.{from_start}
use Rattle.pd_gen.proofs.summing.last_line.Goals as goal

pub lines-init : goal.lines-init
lines-init c = (c.utf8.output, ([], (refl, refl)), from_start (lines_of c.args.output.now))
