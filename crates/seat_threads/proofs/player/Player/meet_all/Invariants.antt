-- The board stays the same.
use Rattle.std.proofs.Common.{◌≡◌}
use Rattle.seat_threads.proofs.player.Player.meet_all.Given as goal

abbrev pub invariant-loop-b : goal.invariant-loop-b
invariant-loop-b l = l.self.seat.hub ≡ l.initial.self.seat.hub
