use Rattle.std.proofs.Common.{◌∙◌, sym}
use Rattle.pd_top.proofs.accepting.fit_plan_of.Goals as goal

pub returns-in-Some-clause-stopped : goal.returns-in-Some-clause-stopped
returns-in-Some-clause-stopped g c = (c.in_ok-planned.planned.plan, c.in_ok-planned.ensures.plan, sym c.unfit_binding.ensures ∙ c.in-Some.is)

pub returns-in-None-clause-plan : goal.returns-in-None-clause-plan
returns-in-None-clause-plan g c = (c.in_ok-planned.ensures.plan, sym c.unfit_binding.ensures ∙ c.in-None.is)
