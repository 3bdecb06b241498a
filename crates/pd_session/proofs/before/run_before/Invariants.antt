-- The bindings before the index were attached.
use Rattle.std.proofs.Common.{◌≡◌, ◌≤◌, ◌++◌, length, vec_len, take}
use Rattle.pd_session.specs.Attaching.{AreAttached, attached_to}
use Rattle.pd_session.proofs.before.run_before.Given as goal

abbrev pub invariant-loop-b : goal.invariant-loop-b
invariant-loop-b g l = record {
  attached : AreAttached (take l.b-index l.before) l.answers.items (g.B.Board.standing l.fn.board) (g.B.Board.standing l.board);
  len : vec_len l.answers ≡ l.b-index;
  room : length l.before ≤ l.answers.cap;
  replies : (g.B.Board.standing l.board).replies ≡ (g.B.Board.standing l.fn.board).replies ++ l.answers.items;
  rest : g.B.Board.standing l.board ≡ attached_to (g.B.Board.standing l.board) (g.B.Board.standing l.fn.board);
  base : g.B.Board.base l.board ≡ g.B.Board.base l.fn.board;
}
