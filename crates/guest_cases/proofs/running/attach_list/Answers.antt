-- One more binding is attached.
use Rattle.std.proofs.Common.{◌≡◌, ℕ, ◌<◌, ap, ◌∙◌, length, arith}
use Rattle.pd_board.specs.Standing.{Standing, bindings}
use Rattle.pd_guest.proofs.BeginningLaws.{rows_of}
use Rattle.pd_guest.proofs.ReadyLaws.{ready-room, ready-act}
use Rattle.guest_cases.proofs.running.attach_list.Goals as goal

pub reserve-requires-clause-draws : goal.reserve-requires-clause-draws
reserve-requires-clause-draws g c = omega (arith, c.bindings.invariant.ready.draws)

pub reserve-requires-clause-answers : goal.reserve-requires-clause-answers
reserve-requires-clause-answers g c = λ x h. omega (arith, c.bindings.invariant.ready.answers x h)

pub attach-requires-clause-binding : goal.attach-requires-clause-binding
attach-requires-clause-binding g c =
    let mid : Standing = g.B.Board.standing c.bindings.board in
    let now : Standing = g.B.Board.standing c.reserve.new.self in
    let same : bindings now ≡ bindings mid = ap bindings c.reserve.ensures.rest in
    let rows : bindings mid ≡ length c.args.plan.now.bindings = rows_of c.args.plan.now c.args.program.now mid c.bindings.invariant.ready.table in
    omega (arith, same, rows, c.if-b-count.true, ap length c.as_slice-count.ensures)
