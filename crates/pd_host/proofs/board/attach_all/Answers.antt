-- One session more has attached.
use Rattle.std.proofs.Common.{◌∙◌, map, subst, arith}
use Rattle.std.proofs.lemmas.List.{take_all}
use Rattle.pd_shared.specs.Sitting.{standing_of}
use Rattle.pd_host.proofs.AttachingLaws.{AreBehind, all_behind, still_room}
use Rattle.pd_host.proofs.board.attach_all.Goals as goal

pub run_before-requires-clause-answers : goal.run_before-requires-clause-answers
run_before-requires-clause-answers c = (still_room (standing_of c.args.seat.now) (standing_of c.loop-script.seat) c.loop-script.invariant.rest c.requires.room).answers

pub returns-clause-attached : goal.returns-clause-attached
returns-clause-attached c =
    let sessions = c.args.plan.now.sessions in
    let answers = map (λ v. v.items) c.loop-script.answers.items in
    let first = standing_of c.args.seat.now in
    let here = standing_of c.loop-script.seat in
    all_behind sessions answers first here (subst (λ ss. AreBehind ss answers first here) (take_all c.loop-script.script-index c.as_slice-script-items.result.now (omega (arith, c.loop-script-test.false)) ∙ c.as_slice-script-items.ensures) c.loop-script.invariant.attached)
