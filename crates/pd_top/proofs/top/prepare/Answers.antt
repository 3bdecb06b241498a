use Rattle.std.proofs.lemmas.Result.{err_from_is_err_and}
use Rattle.pd_words.specs.Words.{texts}
use Rattle.pd_top.specs.Answers.{reading_of}
use Rattle.pd_top.proofs.AnswerLemmas.{accepting_reason}
use Rattle.pd_top.proofs.top.prepare.Goals as goal

pub returns-in_err-accepted-clause-reason : goal.returns-in_err-accepted-clause-reason
returns-in_err-accepted-clause-reason g c =
    let reading = reading_of g.L.Library.held g.L.Library.given g.L.Library.faults g.L.Library.last_fault (texts c.args.words.now) c.args.files.now c.accept.new.files in
    let p = err_from_is_err_and c.from_residual-in_err-accepted.result c.from_residual-in_err-accepted.ensures.1 in
    rw (p.1, p.2) (accepting_reason reading c.in_ok-command.command c.in_err-accepted.field-0.0 c.in_ok-command.ensures.asked c.in_err-accepted.ensures.stopped)
