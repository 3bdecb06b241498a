-- The acts before the index are done.
use Rattle.std.proofs.Common.{◌≡◌, map, take}
use Rattle.pd_guest.specs.Delivering.{settled_of}
use Rattle.pd_guest.specs.Replying.{act_of}
use Rattle.pd_guest.specs.Acting.{AreActsDone}
use Rattle.pd_guest.proofs.acting.do_all.Given as goal

abbrev pub invariant-acts : goal.invariant-acts
invariant-acts g l = record {
  acts : map act_of l.results ≡ take l.act-index l.acts;
  done : AreActsDone l.results (g.B.Board.standing l.initial.board) (g.B.Board.standing l.board);
  settled : settled_of (g.B.Board.standing l.board) ≡ settled_of (g.B.Board.standing l.initial.board);
  base : g.B.Board.base l.board ≡ g.B.Board.base l.initial.board;
}
