use Rattle.std.proofs.Common.{arith, rules, ◌<◌, length}
use Rattle.pd_board.proofs.TellLemmas.{tells_reply, own_dispose, other_dispose}
use Rattle.pd_board.proofs.PlainLemmas.{life_read, shares_set, dispose_shares, live_set, dispose_alive, replies_at}
use Rattle.pd_board.proofs.plain.PlainBoardBoard.dispose.Goals as goal

pub invariant_of-self-clause-tells : goal.invariant_of-self-clause-tells
invariant_of-self-clause-tells c =
    let within : c.args.b < length c.args.self.now.lives.items = search rules in
    let read = life_read c.args.self.now.lives.items c.args.b c.index_mut.result.now within c.index_mut.ensures.value in
    rw c.reply.ensures
    (tells_reply c.args.self.now.lives.items c.args.b c.dispose-answer.new.self _ _ _ within
    (replies_at c.args.b _ c.index_mut.result.now _ _ _ read c.dispose-answer.ensures.after (rw c.dispose-answer.ensures.answer (own_dispose c.args.b c.index_mut.result.now)))
    (λ d s other. other_dispose d c.args.b s _ other) c.args.self.now.tells)

pub invariant_of-self-clause-shares : goal.invariant_of-self-clause-shares
invariant_of-self-clause-shares c =
    let within : c.args.b < length c.args.self.now.lives.items = search rules in
    let read = life_read c.args.self.now.lives.items c.args.b c.index_mut.result.now within c.index_mut.ensures.value in
    shares_set c.args.self.now.lives.items c.args.b c.dispose-answer.new.self c.args.self.now.draws_left c.args.self.now.draws_left within
    (dispose_shares _ c.index_mut.result.now c.dispose-answer.new.self c.args.self.now.draws_left read c.dispose-answer.ensures.after (c.args.self.now.shares c.args.b))
    (omega arith) c.args.self.now.shares

pub invariant_of-self-clause-present : goal.invariant_of-self-clause-present
invariant_of-self-clause-present c =
    let within : c.args.b < length c.args.self.now.lives.items = search rules in
    let read = life_read c.args.self.now.lives.items c.args.b c.index_mut.result.now within c.index_mut.ensures.value in
    live_set c.args.self.now.bits c.args.self.now.table c.args.self.now.lives.items c.args.b c.dispose-answer.new.self within
    (dispose_alive _ c.index_mut.result.now c.dispose-answer.new.self read c.dispose-answer.ensures.after) c.args.self.now.present
