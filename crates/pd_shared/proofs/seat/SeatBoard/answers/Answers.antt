use Rattle.std.proofs.Common.{rules, ◌^◌, ◌≡◌, ◌+◌, ◌<◌, ap, sym, ◌∙◌, subst, refl, length, arith, ℕ}
use Rattle.std.proofs.lemmas.Grind.{common_steps}
use Rattle.pd_core.specs.Tokens.{Holder}
use Rattle.pd_core.specs.Talks.{spent}
use Rattle.pd_shared.specs.declared.token.Reads.{Reads}
use Rattle.pd_shared.specs.Book.{book_of, reads_at}
use Rattle.pd_shared.specs.Sitting.{Sitting}
use Rattle.pd_shared.proofs.TalkLemmas.{read_fits, no_less, tied_asked}
use Rattle.pd_shared.proofs.HeldLemmas.{held_same}
use Rattle.pd_shared.proofs.seat.SeatBoard.answers.Goals as goal

abbrev read_as : ℕ → ℕ → Reads
read_as n m = record { loads = n; last = m }

pub overflow_cast-number : goal.overflow_cast-number
overflow_cast-number c =
    let lt = subst (λ (s : Sitting). c.args.session < s.hub.layout.sessions) (sym c.self.view_is) c.requires.session in
    let fits : c.load_answers-number.result < 2 ^ 32 = read_fits c.self.inside.board.now.core.layout c.args.session c.load_answers-number.result c.self.inside.token.pass.view lt c.load_answers-number.ensures.found in
    search rules

pub invariant_of-self : goal.invariant_of-self
invariant_of-self c =
    let lt = subst (λ (s : Sitting). c.args.session < s.hub.layout.sessions) (sym c.self.view_is) c.requires.session in
    let tied = c.self.invariant.1 in
    let within : c.args.session < length c.self.inside.token.sessions.items = subst (λ n. c.args.session < n) (sym tied.reads.sessions_are) lt in
    let read : c.index_mut-reads.result.now ≡ reads_at c.self.inside.token.sessions.items c.args.session = grind (arith, common_steps, c.index_mut-reads.ensures.value) in (
      ap (λ (h : Holder). h.id) c.load_answers-number.ensures.view ∙ c.self.invariant.0,
      rw (c.load_answers-number.ensures.view) (tied_asked c.self.inside.board.now.core.layout c.args.session c.load_answers-number.result _ _ c.self.inside.token.pass.view (book_of c.self.inside.token) _ lt (ap (λ (r : Reads). read_as (r.loads + 1) c.load_answers-number.result) read) tied),
      rw (c.load_answers-number.ensures.view) (held_same c.self.inside.board.now.core.layout c.self.inside.token.pass.view _ c.self.inside.token.seats c.self.inside.token.counts.items refl refl refl c.self.invariant.2),
    )

pub returns-clause-no_less : goal.returns-clause-no_less
returns-clause-no_less c =
    let lt = subst (λ (s : Sitting). c.args.session < s.hub.layout.sessions) (sym c.self.view_is) c.requires.session in
    rw (← c.self.view_is) (no_less c.self.inside.board.now.core.layout c.args.session c.load_answers-number.result c.self.inside.token.pass.view c.self.inside.token.ended c.self.inside.token.sessions.items c.self.inside.token.ends lt c.self.invariant.1.reads c.load_answers-number.ensures.found)

pub returns-clause-rest : goal.returns-clause-rest
unfolding spent
returns-clause-rest c = rw (← c.self.view_is, c.load_answers-number.ensures.view) refl

pub returns-clause-steps : goal.returns-clause-steps
returns-clause-steps c = rw (← c.self.view_is) (c.load_answers-number.ensures.found, ap (λ (h : Holder). h.view) c.load_answers-number.ensures.view)
