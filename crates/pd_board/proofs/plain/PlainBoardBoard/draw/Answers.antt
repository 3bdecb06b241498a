use Rattle.std.proofs.Common.{arith, rules, ◌<◌, length}
use Rattle.pd_board.proofs.PlainLemmas.{life_read, shares_set, draw_shares, live_set, draw_alive, drawn_tells}
use Rattle.pd_board.proofs.plain.PlainBoardBoard.draw.Goals as goal

pub invariant_of-self-clause-tells : goal.invariant_of-self-clause-tells
invariant_of-self-clause-tells c =
    let within : c.args.b < length c.args.self.now.lives.items = search rules in
    let read = life_read c.args.self.now.lives.items c.args.b c.index_mut.result.now within c.index_mut.ensures.value in
    rw c.see.ensures
    (drawn_tells c.args.self.now.lives.items c.args.b c.args.event c.index_mut.result.now c.draw-drawn.new.self c.draw-drawn.result _ _ within read
    c.draw-drawn.ensures.after c.draw-drawn.ensures.answer c.args.self.now.tells)

pub invariant_of-self-clause-shares : goal.invariant_of-self-clause-shares
invariant_of-self-clause-shares c =
    let within : c.args.b < length c.args.self.now.lives.items = search rules in
    let read = life_read c.args.self.now.lives.items c.args.b c.index_mut.result.now within c.index_mut.ensures.value in
    shares_set c.args.self.now.lives.items c.args.b c.draw-drawn.new.self c.args.self.now.draws_left _ within
    (draw_shares _ c.index_mut.result.now c.draw-drawn.new.self c.args.self.now.draws_left read c.draw-drawn.ensures.after c.requires.share (c.args.self.now.shares c.args.b))
    (omega arith) c.args.self.now.shares

pub invariant_of-self-clause-present : goal.invariant_of-self-clause-present
invariant_of-self-clause-present c =
    let within : c.args.b < length c.args.self.now.lives.items = search rules in
    let read = life_read c.args.self.now.lives.items c.args.b c.index_mut.result.now within c.index_mut.ensures.value in
    live_set c.args.self.now.bits c.args.self.now.table c.args.self.now.lives.items c.args.b c.draw-drawn.new.self within
    (draw_alive _ c.index_mut.result.now c.draw-drawn.new.self read c.draw-drawn.ensures.after) c.args.self.now.present
