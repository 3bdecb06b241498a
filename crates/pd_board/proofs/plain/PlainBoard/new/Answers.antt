use Rattle.pd_board.proofs.PlainLemmas.{untouched_all, unread_all, tells_new, shares_new, present_new, read_new, within_new, each_new}
use Rattle.pd_board.proofs.plain.PlainBoard.new.Goals as goal

pub invariant_of-result-clause-tells : goal.invariant_of-result-clause-tells
invariant_of-result-clause-tells c = rw c.new-4.ensures (tells_new c.resize.new.self.items (untouched_all _ _ _ _ _ c.new.ensures c.new-lives.ensures.items c.in_ok-resize.ensures.items))

pub invariant_of-result-clause-shares : goal.invariant_of-result-clause-shares
invariant_of-result-clause-shares c = shares_new c.resize.new.self.items (untouched_all _ _ _ _ _ c.new.ensures c.new-lives.ensures.items c.in_ok-resize.ensures.items)

pub invariant_of-result-clause-present : goal.invariant_of-result-clause-present
invariant_of-result-clause-present c = present_new c.in_ok-new.field-0 c.in_ok-copy_of.field-0 c.resize.new.self.items (untouched_all _ _ _ _ _ c.new.ensures c.new-lives.ensures.items c.in_ok-resize.ensures.items)

pub invariant_of-result-clause-read : goal.invariant_of-result-clause-read
invariant_of-result-clause-read c = read_new c.resize-2.new.self.items (unread_all _ _ _ _ _ c.new-2.ensures c.new-words.ensures.items c.in_ok-resize-2.ensures.items)

pub invariant_of-result-clause-within : goal.invariant_of-result-clause-within
invariant_of-result-clause-within c = within_new _ _ _ _ c.in_ok-copy_of.ensures c.in_ok-new.ensures.nodes c.requires.within

pub invariant_of-result-clause-only : goal.invariant_of-result-clause-only
invariant_of-result-clause-only c n b there = absurd (cc (c.in_ok-new.ensures.clear n b, there))

pub invariant_of-result-clause-each : goal.invariant_of-result-clause-each
invariant_of-result-clause-each c = each_new c.resize-3.new.self.items _ _ _ c.new-loads.ensures.items c.in_ok-resize-3.ensures.items
