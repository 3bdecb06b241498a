-- The context may still begin on the board.
use Rattle.pd_guest.specs.Beginning.{IsReadyFor}
use Rattle.guest_cases.proofs.running.attach_list.Given as goal

abbrev pub invariant-bindings : goal.invariant-bindings
invariant-bindings g l = record { ready : IsReadyFor l.plan l.program (g.B.Board.standing l.board) }
