use Rattle.std.proofs.Common.{Bool, ap, sym, ◌∙◌, subst, refl}
use Rattle.pd_core.specs.Tokens.{Holder}
use Rattle.pd_core.specs.Talks.{spent}
use Rattle.pd_shared.specs.Book.{book_of}
use Rattle.pd_shared.specs.Steps.{EndSteps}
use Rattle.pd_shared.proofs.TalkLemmas.{tied_ended}
use Rattle.pd_shared.proofs.HeldLemmas.{held_same}
use Rattle.pd_shared.proofs.seat.SeatBoard.ended.Goals as goal

pub invariant_of-self : goal.invariant_of-self
invariant_of-self c = (
  ap (λ (h : Holder). h.id) c.add_end.ensures.view ∙ c.self.invariant.0,
  rw (c.add_end.ensures.view) (tied_ended c.self.inside.board.now.core.layout c.add_end.result _ _ c.self.inside.token.pass.view (book_of c.self.inside.token) c.if-not-self.true c.self.invariant.1),
  rw (c.add_end.ensures.view) (held_same c.self.inside.board.now.core.layout c.self.inside.token.pass.view _ c.self.inside.token.seats c.self.inside.token.counts.items refl refl refl c.self.invariant.2),
)

pub returns-then-not-self-clause-rest : goal.returns-then-not-self-clause-rest
unfolding spent
returns-then-not-self-clause-rest c = rw (← c.self.view_is, c.add_end.ensures.view) refl

pub returns-then-not-self-clause-steps : goal.returns-then-not-self-clause-steps
returns-then-not-self-clause-steps c =
    rw (← c.self.view_is)
    (subst (λ (t : Bool). EndSteps t c.self.inside.board.now.core.layout c.self.inside.token.pass.view c.add_end.new.p.view) (sym c.if-not-self.true) (c.add_end.result, (c.add_end.ensures.found, ap (λ (h : Holder). h.view) c.add_end.ensures.view)))
