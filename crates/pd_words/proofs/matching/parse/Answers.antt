use Rattle.clap.specs.Words.{app_of}
use Rattle.pd_words.specs.Words.{texts}
use Rattle.pd_words.proofs.Taken.{left, taken_matched}
use Rattle.pd_words.proofs.matching.parse.Goals as goal

pub returns-in-Ok-clause-taken : goal.returns-in-Ok-clause-taken
returns-in-Ok-clause-taken c = taken_matched (app_of c.args.command) (texts c.args.words.now) _ (c.in-Ok.ensures.kinds c.requires) (c.in-Ok.ensures.matches (left _ _ c.requires)).0
