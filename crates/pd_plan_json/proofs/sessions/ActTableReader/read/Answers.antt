use Rattle.pd_plan_json.specs.Tables.{act}
use Rattle.pd_plan_json.proofs.Numbers.{other_version}
use Rattle.pd_plan_json.proofs.sessions.ActTableReader.read.Goals as goal

pub returns : goal.returns
unfolding act
returns c = rw (other_version c.args.self.now.version c.if-self-eq1.false) c.choice_of-2.ensures
