-- Those before the index are served.
use Rattle.std.proofs.Common.{◌≡◌, ℕ, false, List, drop}
use Rattle.pd_board.specs.declared.answers.Known.{Known}
use Rattle.pd_board.specs.declared.answers.ActResult.{ActResult}
use Rattle.pd_machine.specs.Events.{Told}
use Rattle.pd_suspend.specs.Steps.{is_enter}
use Rattle.pd_guest.specs.Finishing.{IsFit, IsUsed, IsFinishing}
use Rattle.pd_guest.specs.Growing.{IsMore}
use Rattle.pd_guest.proofs.finishing.finish_all.Given as goal

abbrev pub invariant-on : goal.invariant-on
invariant-on g l = record {
  fit : IsFit (drop l.b-index l.on) (g.B.Board.standing l.board) l.kept;
  used : IsUsed l.m.told.event.number l.b-index (g.B.Board.standing l.initial.board) (g.B.Board.standing l.board) l.initial.kept l.kept;
  more : IsMore l.m.plan l.m.told.event.number (g.B.Board.standing l.initial.board) (g.B.Board.standing l.board);
  base : g.B.Board.base l.board ≡ g.B.Board.base l.initial.board;
  finishing : (start : ℕ → Known) (ts : List Told) (done : List (ℕ × ActResult)) → is_enter l.m.told.event.kind ≡ false
      → IsFinishing l.m start ts done l.on (g.B.Board.standing l.initial.board) l.initial.kept
      → IsFinishing l.m start ts done (drop l.b-index l.on) (g.B.Board.standing l.board) l.kept;
}
