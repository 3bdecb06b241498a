-- What is told at the two ends: with a text that was written, and with nothing written.
use Rattle.pd_words.specs.Words.{texts}
use Rattle.pd_top.specs.Answers.{reading_of, writing_of}
use Rattle.pd_top.proofs.AnswerLemmas.{tells_reason, decided}
use Rattle.pd_top.proofs.top.run.Goals as goal

pub returns-in-Err-clause-tells : goal.returns-in-Err-clause-tells
returns-in-Err-clause-tells g c =
    let reading = reading_of g.L.Library.held g.L.Library.given g.L.Library.faults g.L.Library.last_fault (texts c.args.words.now) c.args.files.now c.prepare.new.files in
    let writing = writing_of g.K.Sink.taken g.K.Sink.accepted g.K.Sink.faults c.args.out.now c.args.out.now in
    tells_reason reading writing c.in-Err.outcome c.in-Err.ensures.reason

pub returns-in-Err-clause-decided : goal.returns-in-Err-clause-decided
returns-in-Err-clause-decided g c =
    let reading = reading_of g.L.Library.held g.L.Library.given g.L.Library.faults g.L.Library.last_fault (texts c.args.words.now) c.args.files.now c.prepare.new.files in
    let writing = writing_of g.K.Sink.taken g.K.Sink.accepted g.K.Sink.faults c.args.out.now c.args.out.now in
    decided reading writing c.in-Err.outcome (tells_reason reading writing c.in-Err.outcome c.in-Err.ensures.reason)

pub returns-in-Ok-clause-decided : goal.returns-in-Ok-clause-decided
returns-in-Ok-clause-decided g c =
    let reading = reading_of g.L.Library.held g.L.Library.given g.L.Library.faults g.L.Library.last_fault (texts c.args.words.now) c.args.files.now c.prepare.new.files in
    let writing = writing_of g.K.Sink.taken g.K.Sink.accepted g.K.Sink.faults c.args.out.now c.write_answer.new.out in
    decided reading writing c.write_answer.result (c.write_answer.ensures.tells reading c.in-Ok.ensures.whole)

pub returns-in-Ok-clause-tells : goal.returns-in-Ok-clause-tells
returns-in-Ok-clause-tells g c =
    let reading = reading_of g.L.Library.held g.L.Library.given g.L.Library.faults g.L.Library.last_fault (texts c.args.words.now) c.args.files.now c.prepare.new.files in
    c.write_answer.ensures.tells reading c.in-Ok.ensures.whole
