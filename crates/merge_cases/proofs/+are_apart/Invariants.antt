-- Each call has a shorter list.
use Rattle.std.proofs.Common.{length}
use Rattle.merge_cases.proofs.+are_apart.Given as goal

abbrev pub decreases-are_apart : goal.decreases-are_apart
decreases-are_apart l = length l.logs.now
