use Rattle.pd_gen.specs.Workload.{chain_line}
use Rattle.pd_gen.proofs.lines.push_chain.Goals as goal

pub returns : goal.returns
unfolding chain_line
returns c = c.writeln.ensures.bytes
