use Rattle.pd_gen.specs.Workload.{main_line}
use Rattle.pd_gen.proofs.lines.push_main.Goals as goal

pub returns : goal.returns
unfolding main_line
returns c = c.writeln.ensures.bytes
