-- A session is asked, and what is answered is done.
use Rattle.std.proofs.Common.{◌≡◌, ◌<◌, ◌+◌, true, List, ◌∷◌, [], ◌++◌, length, refl, sym, ap, ◌∙◌, subst}
use Rattle.std.specs.Prelude.{nat_lt, slice_set, ◌==◌, if◌then◌else◌}
use Rattle.std.specs.List.{All, list_all}
use Rattle.pd_plan.specs.declared.plan.Answer.{Answer}
use Rattle.pd_plan.specs.declared.plan.Resume.{Resume}
use Rattle.pd_board.specs.declared.answers.ActResult.{ActResult}
use Rattle.pd_board.specs.Standing.{Standing, bindings}
use Rattle.pd_suspend.specs.declared.suspension.Suspension.{Suspension}
use Rattle.pd_suspend.specs.Counters.{armed_by}
use Rattle.pd_suspend.specs.Steps.{step_of}
use Rattle.pd_suspend.specs.Stops.{views_of, anchor_of}
use Rattle.pd_guest.specs.Moment.{At}
use Rattle.pd_guest.specs.Acting.{binding_of}
use Rattle.pd_guest.proofs.AnsweringLaws.{lawful-bindings, lawful-value, given-by, asked-kept, asked-same}
use Rattle.pd_guest.proofs.stopping.ask.Goals as goal

pub do_all-requires-clause-bindings : goal.do_all-requires-clause-bindings
do_all-requires-clause-bindings g c =
    let m : At = c.args.m.now in
    let old : Standing = g.B.Board.standing c.args.board.now in
    let roomy : Standing = g.B.Board.standing c.reserve.new.self in
    let took : Standing = g.B.Board.standing c.take_answer-answer.new.self in
    let a : Answer = c.in_ok-first.field-0 in
    let same : bindings took ≡ length m.plan.bindings = ap bindings c.take_answer-answer.ensures.rest ∙ ap bindings c.reserve.ensures.rest ∙ c.requires.bindings in
    subst (λ acts. list_all (λ x. nat_lt (binding_of x) (bindings took)) acts ≡ true) (sym c.as_slice.ensures)
    (lawful-bindings m.plan a (bindings took) same (c.requires.lawful c.in_ok-stop.stop a c.in_ok-first.ensures.admitted))

pub verdict_of-requires : goal.verdict_of-requires
verdict_of-requires g c = record {
  value = lawful-value c.args.m.now.plan c.in_ok-first.field-0 (c.requires.lawful c.in_ok-stop.stop c.in_ok-first.field-0 c.in_ok-first.ensures.admitted);
}

pub returns-clause-asked : goal.returns-clause-asked
returns-clause-asked g c =
    let m : At = c.args.m.now in
    let old : Standing = g.B.Board.standing c.args.board.now in
    let roomy : Standing = g.B.Board.standing c.reserve.new.self in
    let took : Standing = g.B.Board.standing c.take_answer-answer.new.self in
    let new : Standing = g.B.Board.standing c.do_all.new.board in
    let a : Answer = c.in_ok-first.field-0 in
    let rs : List ActResult = c.in_ok-stop-2.field-0 in
    let resume : Resume = a.resume in
    let handed : Suspension = c.in_ok-stop.stop in
    let handed_is = c.in_ok-stop.ensures in
    let took_is = c.take_answer-answer.ensures in
    let x : Suspension = record {
      context = c.args.h.now.context;
      session = c.args.session;
      number = length c.args.h.now.stops.items;
      event = m.told.event.number;
      anchor = anchor_of m.told.event.kind;
      node = m.told.event.node;
      reasons = c.args.reasons;
      frames = views_of m.program m.told.scene;
      answer = c.take_answer-answer.result;
      acts = rs;
      resume = resume;
    } in
    let done = c.in_ok-stop-2.ensures.done in (
      x,
      record {
        shown = refl;
        stops = c.in_ok-push.ensures.items ∙ ap (λ (y : Suspension). c.args.h.now.stops.items ++ (record y { acts = rs; resume = resume }) ∷ []) handed_is;
        steppers = ap (slice_set c.args.h.now.steppers.items c.args.session) (c.arm.ensures ∙ ap (armed_by (step_of resume)) (c.frames.ensures ∙ ap (λ (y : At). length y.told.scene.frames) c.m.view_is));
        above = subst (λ ns. All (λ n. n < c.take_answer-answer.result) ns) (ap (λ s. s.numbers c.args.session) c.reserve.ensures.rest) took_is.above;
        numbers = ap (λ s. s.numbers c.args.session) done.same ∙ took_is.number ∙ ap (λ s. s.numbers c.args.session ++ c.take_answer-answer.result ∷ []) c.reserve.ensures.rest;
        others = λ y h. ap (λ s. s.numbers y) done.same ∙ took_is.other y h ∙ ap (λ s. s.numbers y) c.reserve.ensures.rest;
        share = λ y. ap (λ s. s.answer_share y + (if y == c.args.session then 1 else 0)) done.same ∙ took_is.share y ∙ ap (λ s. s.answer_share y) c.reserve.ensures.rest;
        kept = asked-kept rs old roomy took new c.reserve.ensures.rest took_is.rest done;
        replies = done.replies ∙ ap (λ s. s.replies ++ rs) took_is.rest ∙ ap (λ s. s.replies ++ rs) c.reserve.ensures.rest;
        same = asked-same old roomy took new c.reserve.ensures.rest took_is.rest done.same;
      },
      c.in_ok-verdict.ensures.verdict,
      given-by (g.A.Answerer.admits (g.A.Answerer.base c.args.answerer.now)) (g.A.Answerer.keeps (g.A.Answerer.base c.args.answerer.now)) (g.A.Answerer.list c.args.answerer.now) (g.A.Answerer.list c.answer.new.self)
          x handed a handed_is (c.in_ok-stop-2.ensures.acts ∙ c.as_slice.ensures) refl c.in_ok-first.ensures.admitted c.in_ok-first.ensures.kept,
    )
