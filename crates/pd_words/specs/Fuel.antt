-- Definition: the plan that runs where words give a fuel.
use Rattle.std.specs.Prelude.{ℕ, Option, None, Some, map}
use Rattle.pd_plan.specs.declared.plan.ContextSpec.{ContextSpec}
use Rattle.pd_plan.specs.declared.plan.Plan.{Plan}

-- the context with this fuel
abbrev pub context_with : ℕ → ContextSpec → ContextSpec
context_with fuel context = record context { fuel = fuel }

-- the plan with this fuel for every context, where one is given
abbrev pub with_fuel : Option ℕ → Plan → Plan
with_fuel None plan = plan
with_fuel (Some fuel) plan = record plan { contexts = map (context_with fuel) plan.contexts }
