use Rattle.pd_run.proofs.Runs.{reports_are_runs}
use Rattle.pd_run.proofs.report_law.Goals as goal

pub returns : goal.returns
returns c = reports_are_runs
