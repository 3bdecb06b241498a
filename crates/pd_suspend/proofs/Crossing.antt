-- Who answers by scripts may go to another thread. The kit doesn't find this of what holds a plan, so it is shown here.
use denote.Param.Send.{IsSend, sendable}
use denote.Ref.{NamedLft}
use Rattle.pd_plan.proofs.Crossing.{plan_sync}
use Rattle.pd_suspend.specs.contracts.script.ScriptAnswerer as script

pub script_send : (lifetime : NamedLft) → IsSend (script.the_row lifetime)
script_send lifetime = search (plan_sync, sendable) depth 20
