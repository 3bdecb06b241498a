use Rattle.std.proofs.Common.{length, subst, sym, ◌∙◌, ap}
use Rattle.pd_plan.specs.Sound.{IsSound}
use Rattle.pd_gen.proofs.PlanLemmas.{plan_sound, one_each}
use Rattle.pd_gen.proofs.made.make.Goals as goal

pub returns-clause-sound : goal.returns-clause-sound
returns-clause-sound c = subst IsSound (sym c.in_ok-plan.ensures) plan_sound

pub returns-clause-each : goal.returns-clause-each
returns-clause-each c =
    ap length c.in_ok-sources.ensures.sources ∙ one_each c.args.number ∙ sym (ap (λ plan. length plan.sources) c.in_ok-plan.ensures)
