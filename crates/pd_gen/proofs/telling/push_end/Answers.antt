use Rattle.pd_gen.specs.Summing.{end_line}
use Rattle.pd_gen.proofs.telling.push_end.Goals as goal

pub returns : goal.returns
unfolding end_line
returns c = c.writeln.ensures.bytes
