-- The board stays the same.
use Rattle.std.proofs.Common.{◌≡◌}
use Rattle.seat_threads.proofs.play.play_events.Given as goal

abbrev pub invariant-loop-event : goal.invariant-loop-event
invariant-loop-event l = l.player.seat.hub ≡ l.initial.player.seat.hub
