-- A session is suspended, or passed over.
use Rattle.std.proofs.Common.{◌≡◌, ◌+◌, false, sym, ap, ◌∙◌, subst}
use Rattle.pd_board.specs.Standing.{Standing}
use Rattle.pd_eval.specs.Watching.{keep}
use Rattle.pd_guest.specs.Asking.{IsAsking, is_go}
use Rattle.pd_guest.proofs.AskingLaws.{asking-passes, go-is}
use Rattle.pd_guest.proofs.stopping.turn.Goals as goal

pub stop-requires-clause-asking : goal.stop-requires-clause-asking
stop-requires-clause-asking g c =
    subst (λ goes. IsAsking c.args.m.now c.args.first c.args.session goes (g.B.Board.standing c.args.board.now) c.args.h.now) (sym c.goes_on.ensures ∙ c.if-goes_on.true) c.requires.asking

pub returns-then-goes_on-clause-verdict : goal.returns-then-goes_on-clause-verdict
returns-then-goes_on-clause-verdict g c = λ kept same.
    c.in_ok-own.ensures.verdict
    ∙ ap (λ x. keep x c.args.m.now.told.event.number c.in_ok-own.own)
    (same ∙ ap (keep kept c.args.m.now.told.event.number) (go-is c.args.verdict (sym c.goes_on.ensures ∙ c.if-goes_on.true)))

pub returns-clause-asking : goal.returns-clause-asking
returns-clause-asking g c =
    let s : Standing = g.B.Board.standing c.args.board.now in
    let off : is_go c.args.verdict ≡ false = sym c.goes_on.ensures ∙ c.if-goes_on.false in
    subst (λ goes. IsAsking c.args.m.now c.args.first (c.args.session + 1) goes s c.pass_over.new.h) (sym off)
    (asking-passes c.args.m.now c.args.first c.args.session s c.args.h.now c.pass_over.new.h c.args.place c.requires.place c.requires.session c.pass_over.ensures.rest c.pass_over.ensures.steppers
    (subst (λ goes. IsAsking c.args.m.now c.args.first c.args.session goes s c.args.h.now) off c.requires.asking))
