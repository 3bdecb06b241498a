use Rattle.pd_words.proofs.Taken.{number_read, number_not_read}
use Rattle.pd_words.proofs.matching.number_in.Goals as goal

pub returns-in-Ok : goal.returns-in-Ok
returns-in-Ok c = number_read c.args.text.now c.in-Ok.number c.in-Ok.ensures.value.0

pub returns-in-Err : goal.returns-in-Err
returns-in-Err c = number_not_read c.args.text.now c.in-Err.ensures.value.0
