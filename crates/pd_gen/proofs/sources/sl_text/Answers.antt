use Rattle.std.proofs.Common.{rules}
use Rattle.pd_gen.specs.Workload.{sl_text}
use Rattle.pd_gen.proofs.sources.sl_text.Goals as goal

pub returns : goal.returns
unfolding sl_text
returns c = search rules
