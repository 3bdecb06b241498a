use Rattle.pd_condition.proofs.Found.{found_by, none_by}
use Rattle.pd_condition.proofs.texts.read.Goals as goal

pub returns-clause-found : goal.returns-clause-found
returns-clause-found c = found_by c.args.text.now c.read_text.result c.read_text.ensures.condition

pub returns-clause-none : goal.returns-clause-none
returns-clause-none c = none_by c.args.text.now c.read_text.result c.read_text.ensures.refused
