-- Logs can be merged, since no two entries of a binding have one place.
use Rattle.pd_run.specs.Run.{IsScripted}
use Rattle.pd_report.proofs.ApartLemmas.{places_come_apart}
use Rattle.pd_top.proofs.top.transcript.Goals as goal

pub json_of-requires : goal.json_of-requires
json_of-requires c = λ merged. places_come_apart (IsScripted c.args.accepted.now.plan) c.args.accepted.now.plan c.args.accepted.now.program c.args.report.now c.requires.run

pub text_of-requires : goal.text_of-requires
text_of-requires c = λ merged. places_come_apart (IsScripted c.args.accepted.now.plan) c.args.accepted.now.plan c.args.accepted.now.program c.args.report.now c.requires.run
