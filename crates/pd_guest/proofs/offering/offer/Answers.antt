-- A binding was drawn, and was given the event or not.
use Rattle.std.proofs.Common.{sym, ap, ◌∙◌, subst}
use Rattle.std.specs.Prelude.{slice_get}
use Rattle.pd_condition.specs.Truths.{is_false}
use Rattle.pd_board.specs.Standing.{Standing}
use Rattle.pd_guest.specs.Moment.{At}
use Rattle.pd_guest.specs.Delivering.{IsDelivered}
use Rattle.pd_guest.specs.Offering.{with_on}
use Rattle.pd_guest.proofs.OfferingLaws.{met_on}
use Rattle.pd_guest.proofs.offering.offer.Goals as goal

pub returns-in_ok-push-clause-met : goal.returns-in_ok-push-clause-met
returns-in_ok-push-clause-met g c =
    let m : At = c.args.m.now in
    let old : Standing = g.B.Board.standing c.args.board.now in
    let new : Standing = g.B.Board.standing c.deliver.new.board in
    met_on m c.args.b c.spec_of-spec.result.now _ _ c.in_ok-drawn.drawn old new c.args.kept.now c.deliver.new.kept c.args.on.now c.push.new.self
    (ap (λ y. slice_get y.plan.bindings c.args.b) (sym c.m.view_is) ∙ c.spec_of-spec.ensures)
    (c.is_refusal.ensures ∙ ap is_false c.in_ok-truth.ensures)
    c.if-is_refusal.false
    (subst (λ y. IsDelivered y.plan y.told.event c.args.b c.in_ok-drawn.drawn old new c.args.kept.now c.deliver.new.kept) c.m.view_is c.in_ok-drawn.ensures.delivered)
    c.is_followed.ensures
    (c.in_ok-push.ensures ∙ ap (λ x. with_on x c.args.b c.args.on.now) (sym c.if-is_followed.true))

pub returns-else-is_followed-clause-met : goal.returns-else-is_followed-clause-met
returns-else-is_followed-clause-met g c =
    let m : At = c.args.m.now in
    let old : Standing = g.B.Board.standing c.args.board.now in
    let new : Standing = g.B.Board.standing c.deliver.new.board in
    met_on m c.args.b c.spec_of-spec.result.now _ _ c.in_ok-drawn.drawn old new c.args.kept.now c.deliver.new.kept c.args.on.now c.args.on.now
    (ap (λ y. slice_get y.plan.bindings c.args.b) (sym c.m.view_is) ∙ c.spec_of-spec.ensures)
    (c.is_refusal.ensures ∙ ap is_false c.in_ok-truth.ensures)
    c.if-is_refusal.false
    (subst (λ y. IsDelivered y.plan y.told.event c.args.b c.in_ok-drawn.drawn old new c.args.kept.now c.deliver.new.kept) c.m.view_is c.in_ok-drawn.ensures.delivered)
    c.is_followed.ensures
    (ap (λ x. with_on x c.args.b c.args.on.now) (sym c.if-is_followed.false))
