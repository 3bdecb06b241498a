use Rattle.pd_shared.proofs.StepLemmas.{counts_one, counts_chain, counts_attach, counts_draw}
use Rattle.pd_shared.proofs.CostLemmas.{calls_cost, enter_costs, end_costs}
use Rattle.pd_shared.proofs.laws.steps_are_counted.Goals as goal

pub returns-clause-one : goal.returns-clause-one
returns-clause-one c = counts_one

pub returns-clause-chain : goal.returns-clause-chain
returns-clause-chain c = counts_chain

pub returns-clause-attach : goal.returns-clause-attach
returns-clause-attach c = counts_attach

pub returns-clause-draw : goal.returns-clause-draw
returns-clause-draw c = counts_draw

pub returns-clause-calls : goal.returns-clause-calls
returns-clause-calls c = calls_cost

pub returns-clause-enter : goal.returns-clause-enter
returns-clause-enter c = enter_costs

pub returns-clause-end : goal.returns-clause-end
returns-clause-end c = end_costs
