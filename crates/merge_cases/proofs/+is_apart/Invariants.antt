-- Each call has a shorter list.
use Rattle.std.proofs.Common.{length}
use Rattle.merge_cases.proofs.+is_apart.Given as goal

abbrev pub decreases-is_apart : goal.decreases-is_apart
decreases-is_apart l = length l.log.now
