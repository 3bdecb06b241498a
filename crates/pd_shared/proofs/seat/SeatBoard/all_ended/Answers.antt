use Rattle.std.proofs.Common.{ap, ◌∙◌, refl}
use Rattle.pd_core.specs.Tokens.{Holder}
use Rattle.pd_core.specs.Talks.{spent}
use Rattle.pd_shared.specs.Book.{book_of}
use Rattle.pd_shared.proofs.TalkLemmas.{ends_no_less, tied_counted}
use Rattle.pd_shared.proofs.HeldLemmas.{held_same}
use Rattle.pd_shared.proofs.seat.SeatBoard.all_ended.Goals as goal

pub invariant_of-self : goal.invariant_of-self
invariant_of-self c = (
  ap (λ (h : Holder). h.id) c.load_ends-ends.ensures.view ∙ c.self.invariant.0,
  rw (c.load_ends-ends.ensures.view) (tied_counted c.self.inside.board.now.core.layout c.load_ends-ends.result _ _ c.self.inside.token.pass.view (book_of c.self.inside.token) _ refl c.self.invariant.1),
  rw (c.load_ends-ends.ensures.view) (held_same c.self.inside.board.now.core.layout c.self.inside.token.pass.view _ c.self.inside.token.seats c.self.inside.token.counts.items refl refl refl c.self.invariant.2),
)

pub returns-clause-no_less : goal.returns-clause-no_less
returns-clause-no_less c = rw (← c.self.view_is) (ends_no_less c.self.inside.board.now.core.layout c.load_ends-ends.result c.self.inside.token.pass.view c.self.inside.token.ended c.self.inside.token.sessions.items c.self.inside.token.ends c.self.invariant.1.reads c.load_ends-ends.ensures.found)

pub returns-clause-rest : goal.returns-clause-rest
unfolding spent
returns-clause-rest c = rw (← c.self.view_is, c.load_ends-ends.ensures.view) refl

pub returns-clause-steps : goal.returns-clause-steps
returns-clause-steps c = rw (← c.self.view_is) (c.load_ends-ends.ensures.found, ap (λ (h : Holder). h.view) c.load_ends-ends.ensures.view)
