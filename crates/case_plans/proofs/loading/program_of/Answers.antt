-- A program that is loaded has an entry for each context.
use Rattle.case_plans.proofs.LoadLemmas.{has_entries}
use Rattle.case_plans.proofs.loading.program_of.Goals as goal

pub returns-in-Ok : goal.returns-in-Ok
returns-in-Ok c = has_entries c.args.plan.now c.args.sources.now c.in-Ok.program c.in-Ok.ensures.loaded
