-- The actions before the index were done, and the loads that are left are enough for those after it.
use Rattle.std.proofs.Common.{◌≡◌, ◌+◌, ◌<◌, ◌^◌, take, drop}
use Rattle.pd_session.specs.Doing.{turns_in, AreDone, done_to}
use Rattle.pd_session.proofs.script.run_script.Given as goal

abbrev pub invariant-loop-action : goal.invariant-loop-action
invariant-loop-action g l = record {
  position : l.position ≡ l.action-index;
  done : AreDone l.session (take l.action-index l.script.actions) l.results.items (g.B.Board.standing l.fn.board) (g.B.Board.standing l.board);
  loads : (g.B.Board.standing l.board).answer_loads l.session + turns_in (drop l.action-index l.script.actions) < 2 ^ 32;
  ends : (g.B.Board.standing l.board).end_loads + turns_in (drop l.action-index l.script.actions) < 2 ^ 32;
  rest : g.B.Board.standing l.board ≡ done_to (g.B.Board.standing l.board) (g.B.Board.standing l.fn.board);
  base : g.B.Board.base l.board ≡ g.B.Board.base l.fn.board;
}
