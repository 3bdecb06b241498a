use Rattle.std.proofs.Common.{arith, rules, ◌<◌, ◌∙◌, ap, sym, subst, length, ℕ, slice_index_or}
use Rattle.pd_board.specs.Answers.{NumbersBelow}
use Rattle.pd_board.proofs.TellLemmas.{tells_reply, own_attach, other_attach}
use Rattle.pd_board.proofs.PlainLemmas.{life_read, shares_set, attach_shares, live_attach, only_attach, replies_at, row_read, row_within, unattached, first_parts, first_made}
use Rattle.pd_board.proofs.plain.PlainBoardBoard.attach.Goals as goal

pub set_all-requires-clause-row : goal.set_all-requires-clause-row
set_all-requires-clause-row c =
    row_within c.args.self.now.table c.args.self.now.bits.nodes c.args.b c.as_slice-2.result.now
    (c.as_slice-2.ensures ∙ row_read c.args.self.now.table.rows c.args.b c.index-as_slice-b.result c.requires.binding (c.index-as_slice-b.is ∙ ap (λ rows. slice_index_or rows c.args.b c.index-as_slice-b.result) c.as_slice.ensures))
    c.args.self.now.within

pub invariant_of-self-clause-tells : goal.invariant_of-self-clause-tells
invariant_of-self-clause-tells c =
    let within : c.args.b < length c.args.self.now.lives.items = search rules in
    let read = life_read c.args.self.now.lives.items c.args.b c.index_mut.result.now within c.index_mut.ensures.value in
    rw c.reply.ensures
    (tells_reply c.args.self.now.lives.items c.args.b c.attach-answer.new.self _ _ _ within
    (replies_at c.args.b _ c.index_mut.result.now _ _ _ read c.attach-answer.ensures.after (rw c.attach-answer.ensures.answer (own_attach c.args.b c.index_mut.result.now)))
    (λ d s other. other_attach d c.args.b s _ other) c.args.self.now.tells)

pub invariant_of-self-clause-shares : goal.invariant_of-self-clause-shares
invariant_of-self-clause-shares c =
    let within : c.args.b < length c.args.self.now.lives.items = search rules in
    let read = life_read c.args.self.now.lives.items c.args.b c.index_mut.result.now within c.index_mut.ensures.value in
    shares_set c.args.self.now.lives.items c.args.b c.attach-answer.new.self c.args.self.now.draws_left c.args.self.now.draws_left within
    (attach_shares _ c.index_mut.result.now c.attach-answer.new.self c.args.self.now.draws_left read c.attach-answer.ensures.after (c.args.self.now.shares c.args.b))
    (omega arith) c.args.self.now.shares

pub invariant_of-self-clause-present : goal.invariant_of-self-clause-present
invariant_of-self-clause-present c =
    let within : c.args.b < length c.args.self.now.lives.items = search rules in
    live_attach c.args.self.now.bits c.set_all.new.self c.args.self.now.table c.args.self.now.lives.items c.args.b c.attach-answer.new.self c.as_slice-2.result.now within
    (c.as_slice-2.ensures ∙ row_read c.args.self.now.table.rows c.args.b c.index-as_slice-b.result c.requires.binding (c.index-as_slice-b.is ∙ ap (λ rows. slice_index_or rows c.args.b c.index-as_slice-b.result) c.as_slice.ensures))
    c.set_all.ensures.set c.args.self.now.present

pub invariant_of-self-clause-only : goal.invariant_of-self-clause-only
invariant_of-self-clause-only c =
    only_attach c.args.self.now.bits c.set_all.new.self c.args.self.now.table c.args.b c.as_slice-2.result.now
    (c.as_slice-2.ensures ∙ row_read c.args.self.now.table.rows c.args.b c.index-as_slice-b.result c.requires.binding (c.index-as_slice-b.is ∙ ap (λ rows. slice_index_or rows c.args.b c.index-as_slice-b.result) c.as_slice.ensures))
    c.set_all.ensures.set c.args.self.now.only

pub returns-clause-first_number : goal.returns-clause-first_number
returns-clause-first_number c new =
    let within : c.args.b < length c.args.self.now.lives.items = search rules in
    let read = life_read c.args.self.now.lives.items c.args.b c.index_mut.result.now within c.index_mut.ensures.value in
    let t = c.args.self.now.tells c.args.b within in
    subst (λ (n : ℕ). NumbersBelow c.args.b n c.args.self.now.journal.sights) (t.unattached (unattached _ c.index_mut.result.now c.attach-answer.result read c.attach-answer.ensures.answer new)) t.below

pub returns-clause-first_reply : goal.returns-clause-first_reply
returns-clause-first_reply c new =
    let within : c.args.b < length c.args.self.now.lives.items = search rules in
    let read = life_read c.args.self.now.lives.items c.args.b c.index_mut.result.now within c.index_mut.ensures.value in
    let t = c.args.self.now.tells c.args.b within in
    t.attached ∙ unattached _ c.index_mut.result.now c.attach-answer.result read c.attach-answer.ensures.answer new

pub returns-clause-alone_first : goal.returns-clause-alone_first
returns-clause-alone_first c alone =
    let within : c.args.b < length c.args.self.now.lives.items = search rules in
    let read = life_read c.args.self.now.lives.items c.args.b c.index_mut.result.now within c.index_mut.ensures.value in
    let t = c.args.self.now.tells c.args.b within in (
      (λ first. let p = first_parts _ c.index_mut.result.now c.attach-answer.result read c.attach-answer.ensures.answer first in (t.attached ∙ p.0, t.disposed ∙ p.1)),
      (λ h. first_made _ c.index_mut.result.now c.attach-answer.result read c.attach-answer.ensures.answer (sym t.attached ∙ h.0) (sym t.disposed ∙ h.1)),
    )
