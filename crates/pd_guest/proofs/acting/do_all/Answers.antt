-- One more act is done.
use Rattle.std.proofs.Common.{map, sym, ap, ◌∙◌, subst}
use Rattle.pd_board.specs.Standing.{Standing}
use Rattle.pd_guest.specs.Delivering.{settled_of}
use Rattle.pd_guest.specs.Replying.{act_of}
use Rattle.pd_guest.specs.Acting.{AreActsDone}
use Rattle.pd_guest.proofs.ActingLaws.{acts-more, same-acts}
use Rattle.pd_guest.proofs.acting.do_all.Goals as goal

pub acts-preserved : goal.acts-preserved
acts-preserved g c =
    let old : Standing = g.B.Board.standing c.args.board.now in
    let mid : Standing = g.B.Board.standing c.acts.board in
    let roomy : Standing = g.B.Board.standing c.reserve.new.self in
    let new : Standing = g.B.Board.standing c.do_one.new.board in
    record {
      acts = ap (map act_of) c.in_ok-push.ensures ∙ same-acts c.acts.results c.do_one.result c.args.acts.now c.acts.act-index _ c.acts-test.true c.acts.invariant.acts c.do_one.ensures.act;
      done = subst (λ rs. AreActsDone rs old new) (sym c.in_ok-push.ensures)
          (acts-more c.acts.results c.do_one.result old mid roomy new c.acts.invariant.done c.reserve.ensures.rest c.do_one.ensures.done c.do_one.ensures.replies);
      settled = c.do_one.ensures.settled ∙ ap settled_of c.reserve.ensures.rest ∙ c.acts.invariant.settled;
      base = c.do_one.ensures.base ∙ c.reserve.ensures.base ∙ c.acts.invariant.base;
    }
