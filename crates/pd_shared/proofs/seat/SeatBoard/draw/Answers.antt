use Rattle.std.proofs.Common.{rules, slice_set, ◌≡◌, ◌⊎◌, ◌<◌, refl, sym, ◌∙◌, subst}
use Rattle.std.proofs.lemmas.Grind.{get_or-set_at}
use Rattle.std.specs.Prelude.{IfSome}
use Rattle.pd_board.specs.declared.answers.Known.{Known}
use Rattle.pd_board.specs.declared.answers.Known.TheVariants as knowns
use Rattle.pd_board.specs.Answers.{number_of}
use Rattle.pd_core.specs.Layout.{bindings}
use Rattle.pd_shared.specs.Book.{book_of, known_at}
use Rattle.pd_shared.proofs.DrawLemmas.{tied_drawn, draw_above, draw_number, draw_off, draw_rest}
use Rattle.pd_shared.proofs.HeldLemmas.{held_drawn}
use Rattle.pd_shared.specs.Took.{DrawSteps}
use Rattle.pd_shared.proofs.seat.SeatBoard.draw.Goals as goal

pub invariant_of-self : goal.invariant_of-self
invariant_of-self c =
    let lt : c.args.b < bindings c.self.inside.board.now.core.layout = search rules in (
      c.draw-drawn.ensures.id ∙ c.self.invariant.0,
      tied_drawn c.self.inside.board.now.core.layout c.args.event c.args.b c.self.inside.token.pass.view c.draw-drawn.new.pass.view (book_of c.self.inside.token) c.see.new.self c.draw-drawn.result.0 c.draw-drawn.result.1 lt c.self.invariant.1 c.draw-drawn.ensures.steps c.see.ensures,
      held_drawn c.self.inside.board.now.core.layout c.args.event c.args.b c.self.inside.token.pass.view c.draw-drawn.new.pass.view c.self.inside.token.seats c.self.inside.token.counts.items c.draw-drawn.result.0 c.draw-drawn.result.1 c.draw-drawn.ensures.steps c.self.invariant.2,
    )

pub returns-clause-above : goal.returns-clause-above
returns-clause-above c =
    let lt : c.args.b < bindings c.self.inside.board.now.core.layout = search rules in
    rw (← c.self.view_is) (draw_above c.self.inside.board.now.core.layout c.args.event c.args.b c.self.inside.token.pass.view c.draw-drawn.new.pass.view c.self.inside.token.journal c.draw-drawn.result.0 c.draw-drawn.result.1 lt c.self.invariant.1.deeds c.draw-drawn.ensures.steps).0

pub returns-clause-counted : goal.returns-clause-counted
returns-clause-counted c =
    let lt : c.args.b < bindings c.self.inside.board.now.core.layout = search rules in
    rw (← c.self.view_is) (draw_above c.self.inside.board.now.core.layout c.args.event c.args.b c.self.inside.token.pass.view c.draw-drawn.new.pass.view c.self.inside.token.journal c.draw-drawn.result.0 c.draw-drawn.result.1 lt c.self.invariant.1.deeds c.draw-drawn.ensures.steps).1

pub returns-clause-number : goal.returns-clause-number
returns-clause-number c =
    let lt : c.args.b < bindings c.self.inside.board.now.core.layout = search rules in
    let within = subst (λ n. c.args.b < n) (sym c.self.invariant.1.known_is.0) lt in
    subst (λ (k : Known). IfSome (number_of c.draw-drawn.result.0) (λ _. k ≡ knowns.Attached)) (sym (get_or-set_at c.self.inside.token.known.items c.args.b c.args.b c.draw-drawn.result.1 knowns.Fresh refl within))
    (draw_number c.self.inside.board.now.core.layout c.args.event c.args.b c.self.inside.token.pass.view c.draw-drawn.new.pass.view c.draw-drawn.result.0 c.draw-drawn.result.1 c.draw-drawn.ensures.steps)

pub returns-clause-off : goal.returns-clause-off
returns-clause-off c e =
    let lt : c.args.b < bindings c.self.inside.board.now.core.layout = search rules in
    let within = subst (λ n. c.args.b < n) (sym c.self.invariant.1.known_is.0) lt in
    rw (← c.self.view_is)
    (subst (λ (k : Known). (k ≡ knowns.Disposed) ⊎ ((known_at c.self.inside.token.known.items c.args.b ≡ knowns.Fresh) × (k ≡ knowns.Fresh))) (sym (get_or-set_at c.self.inside.token.known.items c.args.b c.args.b c.draw-drawn.result.1 knowns.Fresh refl within))
    (draw_off c.self.inside.board.now.core.layout c.args.event c.args.b c.self.inside.token.pass.view c.draw-drawn.new.pass.view c.self.inside.token.known.items c.draw-drawn.result.0 c.draw-drawn.result.1 lt c.self.invariant.1.known_is c.draw-drawn.ensures.steps e))

pub returns-clause-alone : goal.returns-clause-alone
returns-clause-alone c = (invariant_of-self c).1.alone

pub returns-clause-share : goal.returns-clause-share
returns-clause-share c =
    let rest = draw_rest c.self.inside.board.now.core.layout c.args.event c.args.b c.self.inside.token.pass.view c.draw-drawn.new.pass.view c.draw-drawn.result.0 c.draw-drawn.result.1 c.draw-drawn.ensures.steps in
    rw (← c.self.view_is) (rest.0, rest.1)

pub returns-clause-rest : goal.returns-clause-rest
returns-clause-rest c =
    let rest = draw_rest c.self.inside.board.now.core.layout c.args.event c.args.b c.self.inside.token.pass.view c.draw-drawn.new.pass.view c.draw-drawn.result.0 c.draw-drawn.result.1 c.draw-drawn.ensures.steps in
    let talk = rest.2 in
    let same = rest.3 in
    rw (← c.self.view_is, c.see.ensures, talk, same) refl

pub returns-clause-steps : goal.returns-clause-steps
returns-clause-steps c =
    let lt : c.args.b < bindings c.self.inside.board.now.core.layout = search rules in
    let within = subst (λ n. c.args.b < n) (sym c.self.invariant.1.known_is.0) lt in
    let read : known_at (slice_set c.self.inside.token.known.items c.args.b c.draw-drawn.result.1) c.args.b ≡ c.draw-drawn.result.1 = get_or-set_at c.self.inside.token.known.items c.args.b c.args.b c.draw-drawn.result.1 knowns.Fresh refl within in
    rw (← c.self.view_is) (subst (λ (k : Known). DrawSteps c.self.inside.board.now.core.layout c.args.event c.args.b c.self.inside.token.pass.view c.draw-drawn.new.pass.view c.draw-drawn.result.0 k) (sym read) c.draw-drawn.ensures.steps)
