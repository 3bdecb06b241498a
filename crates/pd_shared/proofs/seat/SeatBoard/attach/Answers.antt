use Rattle.std.proofs.Common.{rules, ◌≡◌, ◌<◌, true, false, refl, ap, sym, ◌∙◌, subst}
use Rattle.std.proofs.lemmas.Grind.{get_or-set_at}
use Rattle.pd_board.specs.declared.answers.Known.{Known}
use Rattle.pd_board.specs.declared.answers.Known.TheVariants as knowns
use Rattle.pd_board.specs.declared.answers.Attach.{Attach}
use Rattle.pd_board.specs.declared.answers.ActResult.TheVariants as acts
use Rattle.pd_board.specs.Answers.{has_disposal}
use Rattle.pd_core.specs.declared.view.View.{View}
use Rattle.pd_core.specs.Tokens.{Holder}
use Rattle.pd_core.specs.Layout.{bindings}
use Rattle.pd_shared.specs.Book.{book_of, known_at}
use Rattle.pd_shared.specs.Sitting.{Sitting}
use Rattle.pd_shared.specs.Tied.{known_set, is_alone, IsKnown, AreDeeds}
use Rattle.pd_shared.proofs.ActLemmas.{with_reply, known_read, tied_attached}
use Rattle.pd_shared.proofs.AttachLemmas.{idle_start, again, first_known, first_fresh, first_number, first_reply, alone_known, alone_first_then, alone_first_when}
use Rattle.pd_shared.proofs.HeldLemmas.{held_same}
use Rattle.pd_shared.proofs.seat.SeatBoard.attach.Goals as goal

pub mark_row-requires-clause-idle : goal.mark_row-requires-clause-idle
mark_row-requires-clause-idle c = idle_start c.args.b c.self.inside.token.pass.view.attaching c.self.invariant.1.idle

pub invariant_of-self : goal.invariant_of-self
invariant_of-self c =
    let lt : c.args.b < bindings c.self.inside.board.now.core.layout = search rules in
    let tied = c.self.invariant.1 in
    let within = subst (λ n. c.args.b < n) (sym tied.known_is.0) lt in
    let known_m = subst (λ (y : View). IsKnown c.self.inside.board.now.core.layout y c.self.inside.token.known.items) (sym c.mark_row.ensures.marked.rest) tied.known_is in
    let deeds_m = subst (λ (y : View). AreDeeds y.deeds c.self.inside.token.journal) (sym c.mark_row.ensures.marked.rest) tied.deeds in
    let read = known_read c.self.inside.token.known.items c.args.b c.index.result.now within c.index.ensures in (
      ap (λ (h : Holder). h.id) c.set_attached-word.ensures.view ∙ (c.mark_row.ensures.id ∙ c.self.invariant.0),
      rw (c.set_attached-word.ensures.view)
          (tied_attached c.self.inside.board.now.core.layout c.args.b c.set_attached-word.result c.self.inside.token.pass.view c.mark_row.new.pass.view (book_of c.self.inside.token) c.reply.new.self c.known_attached.result lt tied c.mark_row.ensures.marked.rest c.set_attached-word.ensures.found
          (c.known_attached.ensures ∙ ap (λ (k : Known). known_set k c.set_attached-word.result) read)
          (c.reply.ensures ∙ ap (λ (a : Attach). with_reply c.self.inside.token.journal (acts.Attached c.args.b a)) c.attach_answer-answer.ensures)
          (again c.self.inside.board.now.core.layout c.args.b c.set_attached-word.result c.mark_row.new.pass.view (book_of c.self.inside.token) lt known_m deeds_m c.set_attached-word.ensures.found)),
      rw (c.set_attached-word.ensures.view) (held_same c.self.inside.board.now.core.layout c.self.inside.token.pass.view _ c.self.inside.token.seats c.self.inside.token.counts.items (ap (λ (v : View). v.seat_share) c.mark_row.ensures.marked.rest) (ap (λ (v : View). v.taken) c.mark_row.ensures.marked.rest) (ap (λ (v : View). v.deeds.counts) c.mark_row.ensures.marked.rest) c.self.invariant.2),
    )

pub returns-clause-first : goal.returns-clause-first
returns-clause-first c e =
    let lt : c.args.b < bindings c.self.inside.board.now.core.layout = search rules in
    let rest = c.mark_row.ensures.marked.rest in
    let tied = c.self.invariant.1 in
    let known_m = subst (λ (y : View). IsKnown c.self.inside.board.now.core.layout y c.self.inside.token.known.items) (sym rest) tied.known_is in
    let deeds_m = subst (λ (y : View). AreDeeds y.deeds c.self.inside.token.journal) (sym rest) tied.deeds in
    let same : is_alone c.mark_row.new.pass.view ≡ is_alone c.self.inside.token.pass.view = ap (λ (y : View). is_alone y) rest in
    rw (← c.self.view_is) (first_fresh c.self.inside.board.now.core.layout c.args.b c.set_attached-word.result c.mark_row.new.pass.view (book_of c.self.inside.token) lt known_m deeds_m c.set_attached-word.ensures.found (sym c.attach_answer-answer.ensures ∙ e))

pub returns-clause-first_known : goal.returns-clause-first_known
returns-clause-first_known c h e =
    let lt : c.args.b < bindings c.self.inside.board.now.core.layout = search rules in
    let rest = c.mark_row.ensures.marked.rest in
    let tied = c.self.invariant.1 in
    let known_m = subst (λ (y : View). IsKnown c.self.inside.board.now.core.layout y c.self.inside.token.known.items) (sym rest) tied.known_is in
    let deeds_m = subst (λ (y : View). AreDeeds y.deeds c.self.inside.token.journal) (sym rest) tied.deeds in
    let same : is_alone c.mark_row.new.pass.view ≡ is_alone c.self.inside.token.pass.view = ap (λ (y : View). is_alone y) rest in
    first_known c.self.inside.board.now.core.layout c.args.b c.set_attached-word.result c.mark_row.new.pass.view (book_of c.self.inside.token) lt known_m deeds_m c.set_attached-word.ensures.found (λ q. h (c.attach_answer-answer.ensures ∙ q)) (subst (λ (s : Sitting). known_at s.token.known.items c.args.b ≡ knowns.Attached) (sym c.self.view_is) e)

pub returns-clause-first_number : goal.returns-clause-first_number
returns-clause-first_number c h =
    let lt : c.args.b < bindings c.self.inside.board.now.core.layout = search rules in
    let rest = c.mark_row.ensures.marked.rest in
    let tied = c.self.invariant.1 in
    let known_m = subst (λ (y : View). IsKnown c.self.inside.board.now.core.layout y c.self.inside.token.known.items) (sym rest) tied.known_is in
    let deeds_m = subst (λ (y : View). AreDeeds y.deeds c.self.inside.token.journal) (sym rest) tied.deeds in
    let same : is_alone c.mark_row.new.pass.view ≡ is_alone c.self.inside.token.pass.view = ap (λ (y : View). is_alone y) rest in
    rw (← c.self.view_is) (first_number c.self.inside.board.now.core.layout c.args.b c.set_attached-word.result c.mark_row.new.pass.view (book_of c.self.inside.token) lt known_m deeds_m c.set_attached-word.ensures.found (λ q. h (c.attach_answer-answer.ensures ∙ q)))

pub returns-clause-first_reply : goal.returns-clause-first_reply
returns-clause-first_reply c h =
    let lt : c.args.b < bindings c.self.inside.board.now.core.layout = search rules in
    let rest = c.mark_row.ensures.marked.rest in
    let tied = c.self.invariant.1 in
    let known_m = subst (λ (y : View). IsKnown c.self.inside.board.now.core.layout y c.self.inside.token.known.items) (sym rest) tied.known_is in
    let deeds_m = subst (λ (y : View). AreDeeds y.deeds c.self.inside.token.journal) (sym rest) tied.deeds in
    let same : is_alone c.mark_row.new.pass.view ≡ is_alone c.self.inside.token.pass.view = ap (λ (y : View). is_alone y) rest in
    rw (← c.self.view_is) (first_reply c.self.inside.board.now.core.layout c.args.b c.set_attached-word.result c.mark_row.new.pass.view (book_of c.self.inside.token) lt known_m deeds_m c.set_attached-word.ensures.found (λ q. h (c.attach_answer-answer.ensures ∙ q)))

pub returns-clause-alone : goal.returns-clause-alone
returns-clause-alone c = (invariant_of-self c).1.alone

pub returns-clause-alone_known : goal.returns-clause-alone_known
returns-clause-alone_known c a none =
    let lt : c.args.b < bindings c.self.inside.board.now.core.layout = search rules in
    let rest = c.mark_row.ensures.marked.rest in
    let tied = c.self.invariant.1 in
    let known_m = subst (λ (y : View). IsKnown c.self.inside.board.now.core.layout y c.self.inside.token.known.items) (sym rest) tied.known_is in
    let deeds_m = subst (λ (y : View). AreDeeds y.deeds c.self.inside.token.journal) (sym rest) tied.deeds in
    let same : is_alone c.mark_row.new.pass.view ≡ is_alone c.self.inside.token.pass.view = ap (λ (y : View). is_alone y) rest in
    let within = subst (λ n. c.args.b < n) (sym tied.known_is.0) lt in
    let read = known_read c.self.inside.token.known.items c.args.b c.index.result.now within c.index.ensures in
    let a' = subst (λ (s : Sitting). is_alone s.token.pass.view ≡ true) (sym c.self.view_is) a in
    let none' = subst (λ (s : Sitting). has_disposal c.args.b s.token.journal.replies ≡ false) (sym c.self.view_is) none in
    get_or-set_at c.self.inside.token.known.items c.args.b c.args.b c.known_attached.result knowns.Fresh refl within
    ∙ (c.known_attached.ensures ∙ (ap (λ (k : Known). known_set k c.set_attached-word.result) read
    ∙ alone_known c.self.inside.board.now.core.layout c.args.b c.set_attached-word.result c.mark_row.new.pass.view (book_of c.self.inside.token) lt known_m deeds_m c.set_attached-word.ensures.found (same ∙ a') (λ x. tied.alone (sym same ∙ x)) none'))

pub returns-clause-alone_first : goal.returns-clause-alone_first
returns-clause-alone_first c a =
    let lt : c.args.b < bindings c.self.inside.board.now.core.layout = search rules in
    let rest = c.mark_row.ensures.marked.rest in
    let tied = c.self.invariant.1 in
    let known_m = subst (λ (y : View). IsKnown c.self.inside.board.now.core.layout y c.self.inside.token.known.items) (sym rest) tied.known_is in
    let deeds_m = subst (λ (y : View). AreDeeds y.deeds c.self.inside.token.journal) (sym rest) tied.deeds in
    let same : is_alone c.mark_row.new.pass.view ≡ is_alone c.self.inside.token.pass.view = ap (λ (y : View). is_alone y) rest in
    let a' = subst (λ (s : Sitting). is_alone s.token.pass.view ≡ true) (sym c.self.view_is) a in
    rw (← c.self.view_is) (
      (λ e. alone_first_then c.self.inside.board.now.core.layout c.args.b c.set_attached-word.result c.mark_row.new.pass.view (book_of c.self.inside.token) lt known_m deeds_m c.set_attached-word.ensures.found tied.gone (sym c.attach_answer-answer.ensures ∙ e)),
      (λ h. c.attach_answer-answer.ensures ∙ alone_first_when c.self.inside.board.now.core.layout c.args.b c.set_attached-word.result c.mark_row.new.pass.view (book_of c.self.inside.token) lt known_m deeds_m c.set_attached-word.ensures.found (same ∙ a') h.0 h.1),
    )

pub returns-clause-steps : goal.returns-clause-steps
returns-clause-steps c = rw (← c.self.view_is) (c.mark_row.new.pass.view, c.mark_row.ensures.marked.marks, (c.set_attached-word.result, (c.set_attached-word.ensures.found, ap (λ (h : Holder). h.view) c.set_attached-word.ensures.view)))
