use Rattle.pd_gen.proofs.PlanLemmas.{plan_is}
use Rattle.pd_gen.proofs.plan.workload_plan.Goals as goal

pub returns : goal.returns
returns c =
    plan_is c.in_ok-sources.field-0 c.in_ok-exports.field-0 c.in_ok-contexts.field-0 c.in_ok-observers.field-0 c.in_ok-sessions.field-0
    c.in_ok-sources.ensures c.in_ok-exports.ensures c.in_ok-contexts.ensures c.in_ok-observers.ensures c.in_ok-sessions.ensures
