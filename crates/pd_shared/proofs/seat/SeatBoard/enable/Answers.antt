use Rattle.std.proofs.Common.{rules, ◌≡◌, ◌<◌, ap, sym, ◌∙◌, subst, refl}
use Rattle.pd_board.specs.declared.answers.Known.{Known}
use Rattle.pd_board.specs.declared.answers.Known.TheVariants as knowns
use Rattle.pd_board.specs.declared.answers.Toggle.{Toggle}
use Rattle.pd_board.specs.declared.answers.ActResult.TheVariants as acts
use Rattle.pd_core.specs.Tokens.{Holder}
use Rattle.pd_core.specs.Layout.{bindings}
use Rattle.pd_shared.specs.Book.{book_of, known_at}
use Rattle.pd_shared.specs.Sitting.{Sitting}
use Rattle.pd_shared.specs.Tied.{known_switched}
use Rattle.pd_shared.proofs.ActLemmas.{with_reply, known_read}
use Rattle.pd_shared.proofs.SwitchLemmas.{tied_on, on_gone, on_count}
use Rattle.pd_shared.proofs.HeldLemmas.{held_same}
use Rattle.pd_shared.proofs.seat.SeatBoard.enable.Goals as goal

pub invariant_of-self : goal.invariant_of-self
invariant_of-self c =
    let lt : c.args.b < bindings c.self.inside.board.now.core.layout = search rules in
    let within = subst (λ n. c.args.b < n) (sym c.self.invariant.1.known_is.0) lt in
    let read = known_read c.self.inside.token.known.items c.args.b c.index.result.now within c.index.ensures in (
      ap (λ (h : Holder). h.id) c.clear_off-word.ensures.view ∙ c.self.invariant.0,
      rw (c.clear_off-word.ensures.view)
          (tied_on c.self.inside.board.now.core.layout c.args.b c.clear_off-word.result c.self.inside.token.pass.view (book_of c.self.inside.token) c.reply.new.self c.known_toggled.result lt c.self.invariant.1 c.clear_off-word.ensures.found
          (c.known_toggled.ensures ∙ ap (λ (k : Known). known_switched k c.clear_off-word.result) read)
          (c.reply.ensures ∙ ap (λ (a : Toggle). with_reply c.self.inside.token.journal (acts.Enabled c.args.b a)) c.toggle_answer-answer.ensures)),
      rw (c.clear_off-word.ensures.view) (held_same c.self.inside.board.now.core.layout c.self.inside.token.pass.view _ c.self.inside.token.seats c.self.inside.token.counts.items refl refl refl c.self.invariant.2),
    )

pub returns-clause-count : goal.returns-clause-count
returns-clause-count c n e =
    let lt : c.args.b < bindings c.self.inside.board.now.core.layout = search rules in
    rw (← c.self.view_is) (on_count c.self.inside.board.now.core.layout c.args.b c.clear_off-word.result n c.self.inside.token.pass.view c.self.inside.token.journal lt c.self.invariant.1.deeds c.clear_off-word.ensures.found (sym c.toggle_answer-answer.ensures ∙ e))

pub returns-clause-was_gone : goal.returns-clause-was_gone
returns-clause-was_gone c gone =
    let lt : c.args.b < bindings c.self.inside.board.now.core.layout = search rules in
    c.toggle_answer-answer.ensures ∙ on_gone c.self.inside.board.now.core.layout c.args.b c.clear_off-word.result c.self.inside.token.pass.view c.self.inside.token.known.items lt c.self.invariant.1.known_is c.clear_off-word.ensures.found
    (subst (λ (s : Sitting). known_at s.token.known.items c.args.b ≡ knowns.Disposed) (sym c.self.view_is) gone)

pub returns-clause-alone : goal.returns-clause-alone
returns-clause-alone c = (invariant_of-self c).1.alone

pub returns-clause-steps : goal.returns-clause-steps
returns-clause-steps c = rw (← c.self.view_is) (c.clear_off-word.result, (c.clear_off-word.ensures.found, ap (λ (h : Holder). h.view) c.clear_off-word.ensures.view))
