use Rattle.std.proofs.Common.{rules, ◌^◌, ◌+◌, ◌<◌, refl, ap, sym, ◌∙◌, subst, if◌then◌else◌, ◌==◌}
use Rattle.std.specs.List.{filter_map}
use Rattle.pd_core.specs.Tokens.{Holder}
use Rattle.pd_core.specs.Talks.{answer_share}
use Rattle.pd_core.proofs.Facts.{answer_fits}
use Rattle.pd_shared.specs.Book.{book_of}
use Rattle.pd_shared.specs.Sitting.{Sitting, number_for}
use Rattle.pd_shared.proofs.TalkLemmas.{answer_above, answer_number, answer_other, share_less, tied_answered}
use Rattle.pd_shared.proofs.HeldLemmas.{held_same}
use Rattle.pd_shared.proofs.seat.SeatBoard.take_answer.Goals as goal

pub overflow_cast-result : goal.overflow_cast-result
overflow_cast-result c =
    let lt = subst (λ (s : Sitting). c.args.session < s.hub.layout.sessions) (sym c.self.view_is) c.requires.session in
    let fits : c.add_answer-number.result < 2 ^ 32 = answer_fits c.self.inside.board.now.core.layout c.args.session c.add_answer-number.result c.self.inside.token.pass.view lt c.add_answer-number.ensures.found in
    search rules

pub invariant_of-self : goal.invariant_of-self
invariant_of-self c =
    let left = subst (λ (s : Sitting). 0 < answer_share c.args.session s.token.pass.view.talk) (sym c.self.view_is) c.requires.share in (
      ap (λ (h : Holder). h.id) c.add_answer-number.ensures.view ∙ c.self.invariant.0,
      rw (c.add_answer-number.ensures.view, c.step.ensures) (tied_answered c.self.inside.board.now.core.layout c.args.session c.add_answer-number.result _ _ _ c.self.inside.token.pass.view (book_of c.self.inside.token) left c.self.invariant.1),
      rw (c.add_answer-number.ensures.view) (held_same c.self.inside.board.now.core.layout c.self.inside.token.pass.view _ c.self.inside.token.seats c.self.inside.token.counts.items refl refl refl c.self.invariant.2),
    )

pub returns-clause-above : goal.returns-clause-above
returns-clause-above c =
    let lt = subst (λ (s : Sitting). c.args.session < s.hub.layout.sessions) (sym c.self.view_is) c.requires.session in
    rw (← c.self.view_is) (answer_above c.self.inside.board.now.core.layout c.args.session c.add_answer-number.result c.self.inside.token.pass.view lt c.add_answer-number.ensures.found)

pub returns-clause-number : goal.returns-clause-number
returns-clause-number c = rw (← c.self.view_is) (ap (λ (h : Holder). filter_map (number_for c.args.session) h.view.talk.numbers) c.add_answer-number.ensures.view ∙ answer_number c.args.session c.add_answer-number.result c.self.inside.token.pass.view.talk)

pub returns-clause-other : goal.returns-clause-other
returns-clause-other c s other = rw (← c.self.view_is) (ap (λ (h : Holder). filter_map (number_for s) h.view.talk.numbers) c.add_answer-number.ensures.view ∙ answer_other c.args.session c.add_answer-number.result s c.self.inside.token.pass.view.talk other)

pub returns-clause-share : goal.returns-clause-share
returns-clause-share c s =
    let left = subst (λ (s : Sitting). 0 < answer_share c.args.session s.token.pass.view.talk) (sym c.self.view_is) c.requires.share in
    rw (← c.self.view_is) (ap (λ (h : Holder). answer_share s h.view.talk + (if s == c.args.session then 1 else 0)) c.add_answer-number.ensures.view ∙ share_less c.args.session c.add_answer-number.result s c.self.inside.token.pass.view.talk left)

pub returns-clause-steps : goal.returns-clause-steps
returns-clause-steps c = rw (← c.self.view_is) (c.add_answer-number.ensures.found, ap (λ (h : Holder). h.view) c.add_answer-number.ensures.view)
