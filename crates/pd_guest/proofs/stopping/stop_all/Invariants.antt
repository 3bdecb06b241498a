-- The sessions below the number had their turns.
use Rattle.std.proofs.Common.{◌≡◌}
use Rattle.pd_eval.specs.Watching.{GivesNoFunction, keep}
use Rattle.pd_suspend.specs.Stops.{verdicts_of}
use Rattle.pd_guest.specs.Delivering.{settled_of}
use Rattle.pd_guest.specs.Asking.{IsAsking, is_go}
use Rattle.pd_guest.specs.Replying.{IsGiven}
use Rattle.pd_guest.proofs.stopping.stop_all.Given as goal

abbrev pub invariant-sessions : goal.invariant-sessions
invariant-sessions g l = record {
  asking : IsAsking l.m l.first l.session (is_go l.verdict) (g.B.Board.standing l.board) l.h;
  given : IsGiven (g.A.Answerer.admits (g.A.Answerer.base l.initial.answerer)) (g.A.Answerer.keeps (g.A.Answerer.base l.initial.answerer)) l.initial.h.first.list (g.A.Answerer.list l.answerer) l.h.stops.items;
  verdict : verdicts_of l.h.stops.items ≡ keep (verdicts_of l.initial.h.stops.items) l.m.told.event.number l.verdict;
  value : GivesNoFunction l.verdict;
  rest : l.h ≡ record l.initial.h { stops = l.h.stops; steppers = l.h.steppers };
  settled : settled_of (g.B.Board.standing l.board) ≡ settled_of (g.B.Board.standing l.initial.board);
  base : g.B.Board.base l.board ≡ g.B.Board.base l.initial.board;
  answerer : g.A.Answerer.base l.answerer ≡ g.A.Answerer.base l.initial.answerer;
}
