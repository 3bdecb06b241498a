-- A session has no reason, or is asked.
use Rattle.std.proofs.Common.{◌≡◌, refl, sym, ap, ◌∙◌, subst, arith}
use Rattle.std.specs.Prelude.{slice_set}
use Rattle.pd_board.specs.Standing.{Standing}
use Rattle.pd_eval.specs.Watching.{keep}
use Rattle.pd_suspend.specs.declared.suspension.Suspension.{Suspension}
use Rattle.pd_suspend.specs.Counters.{moved_any}
use Rattle.pd_suspend.specs.Stops.{verdicts_of}
use Rattle.pd_guest.specs.declared.serving.Progress.{Progress}
use Rattle.pd_guest.specs.Moment.{At}
use Rattle.pd_guest.specs.Asking.{stepper_at}
use Rattle.pd_guest.specs.Replying.{IsGiven}
use Rattle.pd_guest.proofs.AskingLaws.{read-as, slice-from, asked-reasons, asking-runs, asking-asked-any, verdicts-kept}
use Rattle.pd_guest.proofs.ReplyLaws.{given-more}
use Rattle.pd_guest.proofs.stopping.stop.Goals as goal

pub returns-then-is_empty-clause-asking : goal.returns-then-is_empty-clause-asking
returns-then-is_empty-clause-asking g c =
    let m : At = c.args.m.now in
    let h : Progress = c.args.h.now in
    let s : Standing = g.B.Board.standing c.args.board.now in
    let here : c.index_mut.result.now ≡ stepper_at h c.args.session =
    read-as h.steppers.items c.args.session c.index_mut.result.now (omega (arith, c.requires.session, c.requires.asking.steppers)) c.index_mut.ensures.value in
    let none = c.is_empty.ensures.empty c.if-is_empty.true in
    asking-runs m c.args.first c.args.session s h _ c.args.place c.requires.place c.requires.session refl
    (ap (slice_set h.steppers.items c.args.session) (c.in_ok-reasons.ensures.moved ∙ ap (λ x. moved_any x c.args.place.before c.args.place.after m.told.event.depth) here))
    (asked-reasons m c.args.first c.args.session s h c.index_mut.result.now _ c.args.place c.in_ok-reasons.reasons c.requires.asking c.requires.session c.requires.place here (slice-from c.deref.result.now h.kept.seen.items c.args.first c.deref.ensures.value) c.in_ok-reasons.ensures.reasons ∙ none)
    c.requires.asking

pub returns-clause-asking : goal.returns-clause-asking
returns-clause-asking g c =
    let m : At = c.args.m.now in
    let h : Progress = c.args.h.now in
    let s : Standing = g.B.Board.standing c.args.board.now in
    let new : Standing = g.B.Board.standing c.ask.new.board in
    let here : c.index_mut.result.now ≡ stepper_at h c.args.session =
    read-as h.steppers.items c.args.session c.index_mut.result.now (omega (arith, c.requires.session, c.requires.asking.steppers)) c.index_mut.ensures.value in
    let was = c.in_ok-verdict.ensures.asked in
    asking-asked-any m c.args.first c.args.session s new h _ c.ask.new.h was.0 c.in_ok-reasons.reasons c.in_ok-verdict.verdict c.reasons_of.new.stepper c.requires.session c.requires.asking
    (asked-reasons m c.args.first c.args.session s h c.index_mut.result.now _ c.args.place c.in_ok-reasons.reasons c.requires.asking c.requires.session c.requires.place here (slice-from c.deref.result.now h.kept.seen.items c.args.first c.deref.ensures.value) c.in_ok-reasons.ensures.reasons)
    (c.is_empty.ensures.some c.if-is_empty.false) refl refl c.ask.ensures.rest was.1 was.2

pub returns-clause-given : goal.returns-clause-given
returns-clause-given g c =
    let was = c.in_ok-verdict.ensures.asked in
    let admits = g.A.Answerer.admits (g.A.Answerer.base c.args.answerer.now) in
    let keeps = g.A.Answerer.keeps (g.A.Answerer.base c.args.answerer.now) in
    subst (λ stops. IsGiven admits keeps c.args.h.now.first.list (g.A.Answerer.list c.ask.new.answerer) stops) (sym was.1.stops)
    (given-more admits keeps c.args.h.now.first.list (g.A.Answerer.list c.args.answerer.now) (g.A.Answerer.list c.ask.new.answerer) c.args.h.now.stops.items was.0 c.requires.given was.3)

pub returns-clause-verdict : goal.returns-clause-verdict
returns-clause-verdict g c =
    let m : At = c.args.m.now in
    let was = c.in_ok-verdict.ensures.asked in
    ap verdicts_of was.1.stops
    ∙ verdicts-kept c.args.h.now.stops.items was.0 m.told.event.number (ap (λ (x : Suspension). x.event) was.1.shown)
    ∙ ap (keep (verdicts_of c.args.h.now.stops.items) m.told.event.number) (sym was.2)
