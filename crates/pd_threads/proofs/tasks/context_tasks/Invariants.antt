-- The tasks so far are those of the contexts before c.
use Rattle.std.proofs.Common.{◌≡◌, length}
use Rattle.pd_threads.specs.Returned.{AreContextTasks}
use Rattle.pd_threads.proofs.tasks.context_tasks.Given as goal

abbrev pub invariant-loop-c : goal.invariant-loop-c
invariant-loop-c l = record {
  are : AreContextTasks 0 l.tasks.items;
  len : length l.tasks.items ≡ l.c;
}
