use Rattle.pd_pl0_spell.proofs.Answer.{read_answers_all}
use Rattle.pd_pl0_spell.proofs.Only.{accepted, spelled, refused}
use Rattle.pd_pl0_spell.proofs.reading_law.Goals as goal

pub returns-clause-answers : goal.returns-clause-answers
returns-clause-answers c = read_answers_all c.args.room

pub returns-clause-accepted : goal.returns-clause-accepted
returns-clause-accepted c = accepted c.args.room

pub returns-clause-refused : goal.returns-clause-refused
returns-clause-refused c = refused c.args.room

pub returns-clause-spelled : goal.returns-clause-spelled
returns-clause-spelled c = spelled c.args.room
