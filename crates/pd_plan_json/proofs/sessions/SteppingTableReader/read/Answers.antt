use Rattle.pd_plan_json.specs.Tables.{stepping}
use Rattle.pd_plan_json.proofs.Numbers.{other_version}
use Rattle.pd_plan_json.proofs.sessions.SteppingTableReader.read.Goals as goal

pub returns-then-self-eq1 : goal.returns-then-self-eq1
unfolding stepping
returns-then-self-eq1 c = rw c.if-self-eq1.true c.choice_of.ensures

pub returns : goal.returns
unfolding stepping
returns c = rw (other_version c.args.self.now.version c.if-self-eq1.false) c.choice_of-2.ensures
