-- Each turn so far read both words, and found too few answers and not all contexts ended.
use Rattle.std.proofs.Common.{◌≡◌}
use Rattle.pd_board.specs.Reading.{HasRead, reread}
use Rattle.pd_board.proofs.Turns.{IsTurned}
use Rattle.pd_board.proofs.waiting.await_answers.Given as goal

abbrev pub invariant-loop-turn : goal.invariant-loop-turn
invariant-loop-turn g l = record {
  turned : IsTurned l.session l.count l._turn l.last (g.B.Board.standing l.fn.board) (g.B.Board.standing l.board);
  read : HasRead l.session l._turn (g.B.Board.standing l.fn.board) (g.B.Board.standing l.board);
  rest : g.B.Board.standing l.board ≡ reread (g.B.Board.standing l.board) (g.B.Board.standing l.fn.board);
  base : g.B.Board.base l.board ≡ g.B.Board.base l.fn.board;
}
