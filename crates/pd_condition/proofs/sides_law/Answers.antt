use Rattle.pd_condition.proofs.Resolving.{value_of_binary}
use Rattle.pd_condition.proofs.sides_law.Goals as goal

pub returns : goal.returns
returns c = value_of_binary
