-- A value ends a turn of a loop, or a left side.
use Rattle.std.proofs.Common.{sym, ◌∙◌, refl}
use Rattle.pd_meaning.specs.Steps.{state_of}
use Rattle.pd_eval.proofs.Came.{side_is}
use Rattle.pd_eval.proofs.results.value_comes.Goals as goal

pub returns-in-Turning : goal.returns-in-Turning
returns-in-Turning c =
    rw c.in-Turning.is
    ((λ es k. c.in_ok-test-in-Turning.ensures.0 es), (λ v e. refl), c.in_ok-test-in-Turning.ensures.1, c.in_ok-test-in-Turning.ensures.2, tt)

pub returns-in-LeftSide : goal.returns-in-LeftSide
returns-in-LeftSide c =
    rw c.in-LeftSide.is (
      (λ es k. c.in_ok-left_came-in-LeftSide.ensures.0 es ∙ sym (side_is c.args.program.now c.in-LeftSide.by c.in-LeftSide.n c.in-LeftSide.right c.args.value c.args.m.now.stack (state_of c.args.m.now es))),
      (λ v e. refl),
      c.in_ok-left_came-in-LeftSide.ensures.1,
      c.in_ok-left_came-in-LeftSide.ensures.2,
      tt,
    )

pub returns-in-Catching : goal.returns-in-Catching
returns-in-Catching c =
    rw c.in-Catching.is ((λ es k. c.pass.ensures.0 es), (λ v e. refl), c.pass.ensures.1, c.pass.ensures.2, tt)

pub returns-in-InCall : goal.returns-in-InCall
returns-in-InCall c =
    rw c.in-InCall.is ((λ es k. c.call_gave.ensures.0 es), (λ v e. refl), c.call_gave.ensures.1, c.call_gave.ensures.2, tt)

pub returns : goal.returns
returns c =
    rw c.in-Dropping.is ((λ es k. c.give_null.ensures.0 es), (λ v e. refl), c.give_null.ensures.1, c.give_null.ensures.2, tt)
