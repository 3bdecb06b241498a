-- The entries of the logs that were taken are there, and those of the others come after them.
use Rattle.std.proofs.Common.{◌≡◌, ◌++◌, length}
use Rattle.pd_log.specs.Merging.{entries_in}
use Rattle.pd_log.proofs.merge.Given as goal

abbrev pub invariant-loop-log : goal.invariant-loop-log
invariant-loop-log l = record {
  len : l.log-iterator.rest.len ≡ length l.log-iterator.rest.items;
  whole : l.entries.items ++ entries_in l.log-iterator.rest.items ≡ entries_in l.fn.logs.items;
}
