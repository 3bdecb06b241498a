-- A result leaves an activation, or ends a call.
use Rattle.std.proofs.Common.{sym, ◌∙◌, refl}
use Rattle.pd_meaning.specs.Steps.{state_of}
use Rattle.pd_eval.proofs.Came.{ended_is}
use Rattle.pd_eval.proofs.results.other_comes.Goals as goal

pub returns-in-Leaving : goal.returns-in-Leaving
returns-in-Leaving c = λ p. rw c.in-Leaving.is (c.leave.ensures p)

pub returns-in-InCall : goal.returns-in-InCall
returns-in-InCall c = λ p.
    rw c.in-InCall.is (
      (λ es k. c.in_ok-call_over-in-InCall.ensures.0 es ∙ sym (ended_is p c.in-InCall.number c.in-InCall.frame c.args.other c.args.m.now.stack (state_of c.args.m.now es) c.requires.other)),
      (λ v e. refl),
      c.in_ok-call_over-in-InCall.ensures.1,
      c.in_ok-call_over-in-InCall.ensures.2,
      tt,
    )
