-- For proofs above: no public contract of a program needs it.
-- From a plan's run to what the texts of its report ask for.
use Rattle.pd_tree.specs.Program.{Program}
use Rattle.pd_plan.specs.declared.plan.Plan.{Plan}
use Rattle.pd_run.specs.declared.report.Report.{Report}
use Rattle.pd_run.specs.Run.{IsRun}
use Rattle.pd_report.specs.Logs.{PlacesAreApart}

-- the report of a plan's run has no two entries of a binding with one place; a lemma says it of any answers
-- (`proofs.ApartLemmas.places_come_apart`)
abbrev pub PlacesComeApart : Type 0
PlacesComeApart = (plan : Plan) (p : Program) (r : Report) → IsRun plan p r → PlacesAreApart r
