use Rattle.std.proofs.Common.{rules, ◌≡◌, ◌<◌, ap, sym, ◌∙◌, subst, arith}
use Rattle.pd_board.specs.declared.answers.Known.TheVariants as knowns
use Rattle.pd_board.specs.declared.answers.Dispose.{Dispose}
use Rattle.pd_board.specs.declared.answers.ActResult.TheVariants as acts
use Rattle.pd_core.specs.Tokens.{Holder}
use Rattle.pd_core.specs.Layout.{bindings}
use Rattle.pd_shared.specs.Book.{book_of, known_at}
use Rattle.pd_shared.specs.Sitting.{Sitting}
use Rattle.pd_shared.proofs.ActLemmas.{with_reply, tied_disposed, dispose_first}
use Rattle.pd_shared.specs.Held.{counted_by}
use Rattle.pd_shared.proofs.HeldLemmas.{held_disposed}
use Rattle.pd_shared.proofs.seat.SeatBoard.dispose.Goals as goal

pub invariant_of-self : goal.invariant_of-self
invariant_of-self c =
    let lt : c.args.b < bindings c.self.inside.board.now.core.layout = search rules in (
      ap (λ (h : Holder). h.id) c.set_disposed-word.ensures.view ∙ c.self.invariant.0,
      rw (c.set_disposed-word.ensures.view)
          (tied_disposed c.self.inside.board.now.core.layout c.args.b c.set_disposed-word.result c.self.inside.token.pass.view (book_of c.self.inside.token) c.reply.new.self lt c.self.invariant.1 c.set_disposed-word.ensures.found
          (c.reply.ensures ∙ ap (λ (a : Dispose). with_reply c.self.inside.token.journal (acts.Disposed c.args.b a)) c.dispose_answer-answer.ensures)),
      rw (c.set_disposed-word.ensures.view)
          (held_disposed c.self.inside.board.now.core.layout c.args.b c.set_disposed-word.result c.self.inside.token.pass.view c.self.inside.token.seats c.self.inside.token.counts.items c.put_count.new.counts.items lt
          (c.put_count.ensures ∙ ap (λ (a : Dispose). counted_by c.args.b a c.self.inside.token.counts.items) c.dispose_answer-answer.ensures) c.self.invariant.2),
    )

pub put_count-requires : goal.put_count-requires
put_count-requires c =
    let lt : c.args.b < bindings c.self.inside.board.now.core.layout = search rules in
    omega (arith, c.self.invariant.2.counts_are)

pub returns-clause-first : goal.returns-clause-first
returns-clause-first c not_already gone =
    let lt : c.args.b < bindings c.self.inside.board.now.core.layout = search rules in
    dispose_first c.self.inside.board.now.core.layout c.args.b c.set_disposed-word.result c.self.inside.token.pass.view c.self.inside.token.known.items lt c.self.invariant.1.known_is c.set_disposed-word.ensures.found
    (λ e. not_already (c.dispose_answer-answer.ensures ∙ e))
    (subst (λ (s : Sitting). known_at s.token.known.items c.args.b ≡ knowns.Disposed) (sym c.self.view_is) gone)

pub returns-clause-alone : goal.returns-clause-alone
returns-clause-alone c = (invariant_of-self c).1.alone

pub returns-clause-steps : goal.returns-clause-steps
returns-clause-steps c = rw (← c.self.view_is) (c.set_disposed-word.result, (c.set_disposed-word.ensures.found, ap (λ (h : Holder). h.view) c.set_disposed-word.ensures.view))
