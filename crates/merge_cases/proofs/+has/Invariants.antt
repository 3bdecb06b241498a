-- Each call has a shorter list.
use Rattle.std.proofs.Common.{length}
use Rattle.merge_cases.proofs.+has.Given as goal

abbrev pub decreases-has : goal.decreases-has
decreases-has l = length l.log.now
