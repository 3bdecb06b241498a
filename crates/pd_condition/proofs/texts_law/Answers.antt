use Rattle.pd_condition.proofs.Found.{condition_there, condition_reads, condition_missing}
use Rattle.pd_condition.proofs.texts_law.Goals as goal

pub returns-clause-condition : goal.returns-clause-condition
returns-clause-condition c = condition_there

pub returns-clause-no_condition : goal.returns-clause-no_condition
returns-clause-no_condition c = condition_missing

pub returns-clause-reads : goal.returns-clause-reads
returns-clause-reads c = condition_reads
