-- An Enter is served, and all is kept.
use Rattle.std.proofs.Common.{◌≡◌, ℕ, ◌<◌, ◌+◌, ◌*◌, ◌^◌, Bool, List, [], ◌∷◌, ◌++◌, length, sym, ap, ◌∙◌, subst, arith, refl}
use Rattle.pd_machine.specs.declared.event.Event.{Event}
use Rattle.pd_machine.specs.Events.{Told}
use Rattle.pd_board.specs.declared.answers.Known.{Known}
use Rattle.pd_board.specs.declared.answers.ActResult.{ActResult}
use Rattle.pd_board.specs.Chain.{has}
use Rattle.pd_board.specs.Standing.{Standing}
use Rattle.pd_suspend.specs.Answers.{acts_of}
use Rattle.pd_guest.specs.declared.serving.Progress.{Progress}
use Rattle.pd_guest.specs.declared.serving.Opened.{Opened}
use Rattle.pd_order.specs.Order.{open_after}
use Rattle.pd_guest.specs.Moment.{At}
use Rattle.pd_guest.specs.Offering.{IsAmple, IsOffering}
use Rattle.pd_guest.specs.Keeping.{IsKeptAt, IsRoomed, start_of}
use Rattle.pd_guest.proofs.KeepingLaws.{ample, fits_enter, offering-begins, kept-enter}
use Rattle.pd_guest.proofs.GrowingLaws.{more-none, more-after}
use Rattle.pd_guest.proofs.serving.on_enter.Goals as goal

pub returns-clause-kept : goal.returns-clause-kept
returns-clause-kept g c =
    let m : At = c.args.m.now in
    let h : Progress = c.args.h.now in
    let e : Event = m.told.event in
    let same : e ≡ c.m.inside.event.now = ap (λ y. y.told.event) (sym c.m.view_is) in
    let ts : List Told = h.history.events in
    let done : List (ℕ × ActResult) = acts_of h.stops.items in
    let start : ℕ → Known = (start_of h.start.known) in
    let s : Standing = g.B.Board.standing c.args.board.now in
    let mid : Standing = g.B.Board.standing c.load.new.board in
    let new : Standing = g.B.Board.standing c.offer_all.new.board in
    let test : ℕ → Bool = has c.in_ok-chain.chain in
    let number : e.number ≡ length ts = c.requires.next.0 in
    let opened : e.opened ≡ length ts = fits_enter e.kind e (open_after [] ts) c.requires.enter c.requires.next.1 ∙ number in
    let few : length ts < 2 ^ 25 = omega (arith, number, c.requires.few) in
    let steps : ℕ = 2 * c.len.result in
    let rows : steps ≡ 2 * length h.kept.logs.items = omega (arith, c.len.ensures, h.kept.logs.ok.0) in
    let node : e.node < s.nodes = c.requires.node in
    let o : Opened = record { event = e.number; on = c.offer_all.new.on } in
    let roomed : IsRoomed e.node test steps s mid = subst (λ y. IsRoomed y.node test steps s mid) (sym same) c.in_ok-chain.ensures.loaded in
    let room : IsAmple m test mid h.kept = ample m start (length ts) ts done test steps s mid h.opens.items h.kept c.requires.kept few node rows roomed in
    let begins : IsOffering m start ts done test 0 mid h.kept c.of-on.result =
    subst (λ on. IsOffering m start ts done test 0 mid h.kept on) (sym (c.of-on.ensures ∙ c.new.ensures.items))
    (offering-begins m start (length ts) ts done test steps s mid h.opens.items h.kept c.requires.kept number c.requires.enter roomed) in
    subst (λ opens. IsKeptAt m.plan m.program start ((length ts) + 1) (ts ++ m.told ∷ []) done new opens c.offer_all.new.kept)
    (ap (λ y. h.opens.items ++ record { event = y.number; on = c.offer_all.new.on } ∷ []) same ∙ sym {A = List Opened} c.in_ok-open.ensures)
    (kept-enter m start (length ts) ts done test steps s mid new h.opens.items o h.kept c.offer_all.new.kept
    c.requires.kept number opened few c.requires.enter roomed room refl c.in_ok-offer_all.ensures.spent
    (c.in_ok-offer_all.ensures.offering start ts done c.requires.enter begins))

pub returns-clause-more : goal.returns-clause-more
returns-clause-more g c =
    let m : At = c.args.m.now in
    let s : Standing = g.B.Board.standing c.args.board.now in
    let mid : Standing = g.B.Board.standing c.load.new.board in
    let new : Standing = g.B.Board.standing c.offer_all.new.board in
    more-after m.plan m.told.event.number s mid new
    (more-none m.plan m.told.event.number s mid c.in_ok-chain.ensures.loaded.loaded.sights c.in_ok-chain.ensures.loaded.replies)
    c.in_ok-offer_all.ensures.more
