-- An end is served, and all is kept.
use Rattle.std.proofs.Common.{◌≡◌, ℕ, ◌<◌, ◌*◌, ◌^◌, List, length, Some, sym, subst, arith}
use Rattle.std.proofs.lemmas.List.Elements.{All-pop}
use Rattle.pd_machine.specs.declared.event.Event.{Event}
use Rattle.pd_machine.specs.Events.{Told}
use Rattle.pd_board.specs.declared.answers.Known.{Known}
use Rattle.pd_board.specs.declared.answers.ActResult.{ActResult}
use Rattle.pd_board.specs.Standing.{Standing}
use Rattle.pd_suspend.specs.Answers.{acts_of}
use Rattle.pd_guest.specs.declared.serving.Progress.{Progress}
use Rattle.pd_guest.specs.declared.serving.Opened.{Opened}
use Rattle.pd_guest.specs.Moment.{At}
use Rattle.pd_guest.specs.Finishing.{IsFit, IsUsed, IsFinishing}
use Rattle.pd_guest.specs.Keeping.{IsOpened, start_of}
use Rattle.pd_guest.proofs.KeepingLaws.{end_is_last, fit-begins, finishing-begins, kept-leave}
use Rattle.pd_guest.proofs.GrowingLaws.{more-none, more-after}
use Rattle.pd_guest.proofs.serving.on_end.Goals as goal

pub finish_all-requires : goal.finish_all-requires
finish_all-requires g c =
    let m : At = c.args.m.now in
    let h : Progress = c.args.h.now in
    let s : Standing = g.B.Board.standing c.args.board.now in
    let mid : Standing = g.B.Board.standing c.make_room.new.board in
    let o : Opened = c.in-Some.opened in
    let few : length h.history.events < 2 ^ 25 = omega (arith, c.requires.next.0, c.requires.few) in
    let steps : ℕ = 2 * c.len.result in
    let rows : steps ≡ 2 * length h.kept.logs.items = omega (arith, c.len.ensures, h.kept.logs.ok.0) in
    let popped = All-pop (IsOpened m.plan s.sights (length h.history.events)) h.opens.items c.pop.new.self.items (Some o) c.in-Some.ensures.items c.requires.kept.opened in
    subst (λ bs. IsFit bs mid h.kept) (sym c.as_slice.ensures)
    (fit-begins m.plan m.program (start_of h.start.known) (length h.history.events) h.history.events (acts_of h.stops.items) steps s mid h.opens.items o h.kept c.requires.kept few popped.1 rows c.in_ok-make_room.ensures.room)

pub returns-clause-kept : goal.returns-clause-kept
returns-clause-kept g c =
    let m : At = c.args.m.now in
    let h : Progress = c.args.h.now in
    let e : Event = m.told.event in
    let ts : List Told = h.history.events in
    let done : List (ℕ × ActResult) = acts_of h.stops.items in
    let start : ℕ → Known = (start_of h.start.known) in
    let s : Standing = g.B.Board.standing c.args.board.now in
    let mid : Standing = g.B.Board.standing c.make_room.new.board in
    let new : Standing = g.B.Board.standing c.finish_all.new.board in
    let o : Opened = c.in-Some.opened in
    let number : e.number ≡ length ts = c.requires.next.0 in
    let opened : e.opened ≡ o.event = end_is_last ts e h.opens.items c.pop.new.self.items o c.requires.kept.open_are c.in-Some.ensures.items c.requires.end c.requires.next.1 in
    let few : length h.history.events < 2 ^ 25 = omega (arith, c.requires.next.0, c.requires.few) in
    let steps : ℕ = 2 * c.len.result in
    let rows : steps ≡ 2 * length h.kept.logs.items = omega (arith, c.len.ensures, h.kept.logs.ok.0) in
    let popped = All-pop (IsOpened m.plan s.sights (length h.history.events)) h.opens.items c.pop.new.self.items (Some o) c.in-Some.ensures.items c.requires.kept.opened in
    let on : c.as_slice.result.now ≡ o.on = c.as_slice.ensures in
    let fit : IsFit o.on mid h.kept =
    fit-begins m.plan m.program start (length h.history.events) ts done steps s mid h.opens.items o h.kept c.requires.kept few popped.1 rows c.in_ok-make_room.ensures.room in
    let begins : IsFinishing m start ts done c.as_slice.result.now mid h.kept =
    subst (λ bs. IsFinishing m start ts done bs mid h.kept) (sym on)
    (finishing-begins m start (length h.history.events) ts done steps s mid h.opens.items o h.kept c.requires.kept number opened popped.1 c.requires.end c.in_ok-make_room.ensures.room) in
    kept-leave m start (length h.history.events) ts done steps s mid new h.opens.items c.pop.new.self.items o h.kept c.finish_all.new.kept
    c.requires.kept number opened few c.requires.end c.in-Some.ensures.items popped.0 popped.1 c.in_ok-make_room.ensures.room fit c.in_ok-finish_all.ensures.fit
    (subst (λ bs. IsUsed e.number (length bs) mid new h.kept c.finish_all.new.kept) on c.in_ok-finish_all.ensures.used)
    (c.in_ok-finish_all.ensures.finishing start ts done c.requires.end begins)

pub returns-clause-more : goal.returns-clause-more
returns-clause-more g c =
    let m : At = c.args.m.now in
    let s : Standing = g.B.Board.standing c.args.board.now in
    let mid : Standing = g.B.Board.standing c.make_room.new.board in
    let new : Standing = g.B.Board.standing c.finish_all.new.board in
    more-after m.plan m.told.event.number s mid new
    (more-none m.plan m.told.event.number s mid c.in_ok-make_room.ensures.room.quiet.sights c.in_ok-make_room.ensures.room.replies)
    c.in_ok-finish_all.ensures.more
