use Rattle.pd_suspend.proofs.Scripts.{none_at}
use Rattle.pd_suspend.proofs.script.answers_of.Goals as goal

pub returns-in-None : goal.returns-in-None
returns-in-None c = none_at c.args.plan.now.sessions c.args.session c.in-None.ensures
