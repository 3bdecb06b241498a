use Rattle.std.proofs.Common.{rules}
use Rattle.clap.specs.Words.{app_of, found_of, rows_of}
use Rattle.pd_words.specs.Words.{texts, binding_in, binding_app}
use Rattle.pd_words.proofs.Taken.{asked_by}
use Rattle.pd_words.proofs.words.read_binding.Goals as goal

pub returns-clause-asked : goal.returns-clause-asked
returns-clause-asked c = asked_by binding_in (app_of c.in_ok-binding_command.field-0) (binding_app c.args.name.now) (texts c.args.words.now) (rows_of (found_of c.in_ok-matches.matches)) _ c.in_ok-binding_command.ensures c.in_ok-matches.ensures.taken (search rules)
