-- Each kind of act.
use Rattle.pd_board.specs.Standing.{Standing}
use Rattle.pd_guest.proofs.ActingLaws.{attached, disposed, enabled, disabled}
use Rattle.pd_guest.proofs.acting.do_one.Goals as goal

pub returns-in-Attach-clause-done : goal.returns-in-Attach-clause-done
returns-in-Attach-clause-done g c =
    let old : Standing = g.B.Board.standing c.args.board.now in
    let new : Standing = g.B.Board.standing c.attach.new.self in
    let did = c.attach.ensures in
    attached c.in-Attach.b c.attach.result old new did.rest did.other did.forward did.known did.first did.first_number did.first_reply did.gone

pub returns-in-Dispose-clause-done : goal.returns-in-Dispose-clause-done
returns-in-Dispose-clause-done g c =
    let old : Standing = g.B.Board.standing c.args.board.now in
    let new : Standing = g.B.Board.standing c.dispose.new.self in
    let did = c.dispose.ensures in
    disposed c.in-Dispose.b c.dispose.result old new did.rest did.other did.first did.known

pub returns-in-Enable-clause-done : goal.returns-in-Enable-clause-done
returns-in-Enable-clause-done g c =
    let old : Standing = g.B.Board.standing c.args.board.now in
    let new : Standing = g.B.Board.standing c.enable.new.self in
    let did = c.enable.ensures in
    enabled c.in-Enable.b c.enable.result old new did.rest did.other did.count did.was_gone did.gone did.not_gone

pub returns-in-Disable-clause-done : goal.returns-in-Disable-clause-done
returns-in-Disable-clause-done g c =
    let old : Standing = g.B.Board.standing c.args.board.now in
    let new : Standing = g.B.Board.standing c.disable.new.self in
    let did = c.disable.ensures in
    disabled c.in-Disable.b c.disable.result old new did.rest did.other did.count did.was_gone did.gone did.not_gone
