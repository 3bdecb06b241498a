-- A split leaves the player fit.
use Rattle.std.proofs.Common.{arith}
use Rattle.seat_threads.proofs.FitLemmas.{handed}
use Rattle.seat_threads.proofs.player.Player.split.Goals as goal

pub invariant_of-self-2 : goal.invariant_of-self-2
invariant_of-self-2 c = record { fit = handed _ _ _ _ c.args.self.now.seat c.split.new.self c.args.self.now.fit (omega arith) c.in_ok-seat.ensures.old }
