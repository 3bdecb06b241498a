-- The board stays the same.
use Rattle.std.proofs.Common.{◌≡◌}
use Rattle.seat_threads.proofs.round.attach_some.Given as goal

abbrev pub invariant-loop-b : goal.invariant-loop-b
invariant-loop-b l = l.first.seat.hub ≡ l.initial.first.seat.hub
