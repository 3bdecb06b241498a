use Rattle.pd_suspend.proofs.Scripts.{scripts_are_lawful}
use Rattle.pd_suspend.proofs.script_law.Goals as goal

pub returns : goal.returns
returns c plan sound session k = scripts_are_lawful plan sound session k
