-- The context may still begin on the board.
use Rattle.pd_guest.specs.Beginning.{IsReadyFor}
use Rattle.guest_cases.proofs.running.attach_all.Given as goal

abbrev pub invariant-sessions : goal.invariant-sessions
invariant-sessions g l = record { ready : IsReadyFor l.plan l.program (g.B.Board.standing l.board) }
