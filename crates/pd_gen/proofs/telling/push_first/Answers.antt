use Rattle.pd_gen.specs.Summing.{first_lines}
use Rattle.pd_gen.proofs.telling.push_first.Goals as goal

pub returns : goal.returns
unfolding first_lines
returns c = c.writeln.ensures.bytes
