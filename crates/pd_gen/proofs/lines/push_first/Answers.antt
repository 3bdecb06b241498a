use Rattle.pd_gen.specs.Workload.{first_line}
use Rattle.pd_gen.proofs.lines.push_first.Goals as goal

pub returns : goal.returns
unfolding first_line
returns c = c.writeln.ensures.bytes
