use Rattle.std.proofs.Common.{arith, rules, ◌<◌, length, true}
use Rattle.pd_board.proofs.TellLemmas.{tells_reply, own_disable, other_disable}
use Rattle.pd_board.proofs.PlainLemmas.{life_read, shares_set, switch_shares, live_set, switch_alive, replies_at}
use Rattle.pd_board.proofs.plain.PlainBoardBoard.disable.Goals as goal

pub invariant_of-self-clause-tells : goal.invariant_of-self-clause-tells
invariant_of-self-clause-tells c =
    let within : c.args.b < length c.args.self.now.lives.items = search rules in
    let read = life_read c.args.self.now.lives.items c.args.b c.index_mut.result.now within c.index_mut.ensures.value in
    rw c.reply.ensures
    (tells_reply c.args.self.now.lives.items c.args.b c.switch-answer.new.self _ _ _ within
    (replies_at c.args.b _ c.index_mut.result.now _ _ _ read c.switch-answer.ensures.after (rw c.switch-answer.ensures.answer (own_disable c.args.b c.index_mut.result.now)))
    (λ d s other. other_disable d c.args.b s _ other) c.args.self.now.tells)

pub invariant_of-self-clause-shares : goal.invariant_of-self-clause-shares
invariant_of-self-clause-shares c =
    let within : c.args.b < length c.args.self.now.lives.items = search rules in
    let read = life_read c.args.self.now.lives.items c.args.b c.index_mut.result.now within c.index_mut.ensures.value in
    shares_set c.args.self.now.lives.items c.args.b c.switch-answer.new.self c.args.self.now.draws_left c.args.self.now.draws_left within
    (switch_shares true _ c.index_mut.result.now c.switch-answer.new.self c.args.self.now.draws_left read c.switch-answer.ensures.after (c.args.self.now.shares c.args.b))
    (omega arith) c.args.self.now.shares

pub invariant_of-self-clause-present : goal.invariant_of-self-clause-present
invariant_of-self-clause-present c =
    let within : c.args.b < length c.args.self.now.lives.items = search rules in
    let read = life_read c.args.self.now.lives.items c.args.b c.index_mut.result.now within c.index_mut.ensures.value in
    live_set c.args.self.now.bits c.args.self.now.table c.args.self.now.lives.items c.args.b c.switch-answer.new.self within
    (switch_alive true _ c.index_mut.result.now c.switch-answer.new.self read c.switch-answer.ensures.after) c.args.self.now.present
