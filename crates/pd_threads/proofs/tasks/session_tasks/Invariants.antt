-- The tasks so far are those of the sessions before s.
use Rattle.std.proofs.Common.{◌≡◌, length, take}
use Rattle.pd_threads.specs.Returned.{AreSessionTasks}
use Rattle.pd_threads.proofs.tasks.session_tasks.Given as goal

abbrev pub invariant-loop-s : goal.invariant-loop-s
invariant-loop-s l = record {
  are : AreSessionTasks 0 (take l.s l.scripts) l.tasks.items;
  len : length l.tasks.items ≡ l.s;
}
