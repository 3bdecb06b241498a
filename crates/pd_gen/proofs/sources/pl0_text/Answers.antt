use Rattle.std.proofs.Common.{rules}
use Rattle.pd_gen.specs.Workload.{pl0_text}
use Rattle.pd_gen.proofs.sources.pl0_text.Goals as goal

pub returns : goal.returns
unfolding pl0_text
returns c = search rules
