use Rattle.std.proofs.Common.{length}
use Rattle.run_cases.proofs.recorder.+verdict_at.Given as goal

abbrev pub decreases-verdict_at : goal.decreases-verdict_at
decreases-verdict_at l = length l.asked.now
