-- A plan may be shared.
use denote.Param.Send.{sendable}
use Rattle.pd_plan.proofs.Crossing.{plan_sync}
use Rattle.pd_threads.proofs.running.run_all.Goals as goal

pub run_tasks-requires-sync-Q : goal.run_tasks-requires-sync-Q
run_tasks-requires-sync-Q g c κs within = search (plan_sync, sendable) depth 20
