-- One binding more was attached.
use Rattle.std.proofs.Common.{rules, ap, ◌∙◌}
use Rattle.pd_board.specs.Standing.{Standing}
use Rattle.pd_session.specs.Attaching.{attached_to}
use Rattle.pd_session.proofs.AttachLaws.{attached_next, replies_next}
use Rattle.pd_session.proofs.before.run_before.Goals as goal

pub loop-b-preserved : goal.loop-b-preserved
loop-b-preserved g c =
    let first : Standing = g.B.Board.standing c.args.board.now in
    let mid : Standing = g.B.Board.standing c.loop-b.board in
    let now : Standing = g.B.Board.standing c.attach.new.board in
    let act = c.in_ok-answer.ensures.attached in
    record {
      attached = attached_next c.args.before.now c.loop-b.b-index c.loop-b.answers.items _ _ first mid now c.loop-b-test.true c.loop-b.invariant.attached c.push_reserved.ensures.items act;
      len = search rules;
      room = search rules;
      replies = replies_next _ _ c.loop-b.answers.items _ first mid now c.loop-b.invariant.replies act c.push_reserved.ensures.items;
      rest = c.attach.ensures.rest ∙ ap (attached_to now) c.loop-b.invariant.rest;
      base = c.attach.ensures.base ∙ c.loop-b.invariant.base;
    }
