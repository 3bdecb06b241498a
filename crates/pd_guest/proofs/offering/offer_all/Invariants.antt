-- All below `from` are served.
use Rattle.std.proofs.Common.{◌≡◌, ℕ, ◌-◌, ◌≤◌, true, List}
use Rattle.pd_board.specs.declared.answers.Known.{Known}
use Rattle.pd_board.specs.declared.answers.ActResult.{ActResult}
use Rattle.pd_board.specs.Chain.{has}
use Rattle.pd_machine.specs.Events.{Told}
use Rattle.pd_suspend.specs.Steps.{is_enter}
use Rattle.pd_guest.specs.Offering.{IsSpent, IsOffering}
use Rattle.pd_guest.specs.Growing.{IsMore}
use Rattle.pd_guest.proofs.offering.offer_all.Given as goal

abbrev pub invariant-chain : goal.invariant-chain
invariant-chain g l = record {
  from_in : l.from ≤ 4096;
  spent : IsSpent (has l.chain) l.m.told.event.number l.from (g.B.Board.standing l.initial.board) (g.B.Board.standing l.board) l.initial.kept l.kept;
  more : IsMore l.m.plan l.m.told.event.number (g.B.Board.standing l.initial.board) (g.B.Board.standing l.board);
  base : g.B.Board.base l.board ≡ g.B.Board.base l.initial.board;
  offering : (start : ℕ → Known) (ts : List Told) (done : List (ℕ × ActResult)) → is_enter l.m.told.event.kind ≡ true
      → IsOffering l.m start ts done (has l.chain) 0 (g.B.Board.standing l.initial.board) l.initial.kept l.initial.on
      → IsOffering l.m start ts done (has l.chain) l.from (g.B.Board.standing l.board) l.kept l.on;
}

abbrev pub decreases-chain : goal.decreases-chain
decreases-chain g l = 4096 - l.from
