use Rattle.std.proofs.Common.{sym, subst}
use Rattle.pd_plan.specs.Sound.{IsSound}
use Rattle.pd_top.proofs.PlanLemmas.{fuel_sound}
use Rattle.pd_top.proofs.accepting.planned_in.Goals as goal

pub returns-clause-sound : goal.returns-clause-sound
returns-clause-sound g c = subst IsSound (sym c.in_ok-plan.ensures) (fuel_sound c.in_ok-read.read c.args.fuel c.requires.fuel c.in_ok-read.ensures.sound)
