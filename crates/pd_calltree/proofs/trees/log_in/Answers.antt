use Rattle.std.proofs.Common.{◌∙◌, []}
use Rattle.pd_calltree.proofs.ReadLemmas.{read_some, read_none}
use Rattle.pd_calltree.proofs.trees.log_in.Goals as goal

pub returns-in-Some : goal.returns-in-Some
returns-in-Some c = c.as_slice.ensures ∙ read_some c.args.context.now.logs c.args.binding c.in-Some.log.now [] c.in-Some.ensures

pub returns-in-None : goal.returns-in-None
returns-in-None c = read_none c.args.context.now.logs c.args.binding [] c.in-None.ensures
