-- Each call has a shorter list.
use Rattle.std.proofs.Common.{length}
use Rattle.merge_cases.proofs.+have.Given as goal

abbrev pub decreases-have : goal.decreases-have
decreases-have l = length l.logs.now
