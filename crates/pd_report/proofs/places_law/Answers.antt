use Rattle.pd_run.specs.Run.{IsScripted}
use Rattle.pd_report.proofs.ApartLemmas.{places_come_apart}
use Rattle.pd_report.proofs.places_law.Goals as goal

pub returns : goal.returns
returns c = λ plan. places_come_apart (IsScripted plan) plan
