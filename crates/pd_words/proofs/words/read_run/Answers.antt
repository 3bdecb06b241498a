use Rattle.std.proofs.Common.{rules}
use Rattle.clap.specs.Words.{app_of, found_of, rows_of}
use Rattle.pd_words.specs.Words.{texts, run_in, run_app}
use Rattle.pd_words.proofs.Taken.{asked_by}
use Rattle.pd_words.proofs.words.read_run.Goals as goal

pub returns-clause-asked : goal.returns-clause-asked
returns-clause-asked c = asked_by run_in (app_of c.in_ok-run_command.field-0) run_app (texts c.args.words.now) (rows_of (found_of c.in_ok-matches.matches)) _ c.in_ok-run_command.ensures c.in_ok-matches.ensures.taken (search rules)
