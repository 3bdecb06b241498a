-- An event is served, and its sessions are asked.
use Rattle.std.proofs.Common.{◌∷◌, [], ◌++◌, true, refl, ap, ◌∙◌, subst, arith}
use Rattle.pd_board.specs.Standing.{Standing}
use Rattle.pd_guest.specs.declared.serving.Progress.{Progress}
use Rattle.pd_guest.specs.Moment.{At}
use Rattle.pd_guest.specs.Asking.{IsAsking, is_go}
use Rattle.pd_guest.proofs.AskingLaws.{asking-begins, kept-over}
use Rattle.pd_guest.proofs.StandingLaws.{standing_by}
use Rattle.pd_guest.proofs.stopping.attend.Goals as goal

pub serve-requires-clause-stands : goal.serve-requires-clause-stands
serve-requires-clause-stands g c = standing_by c.args.m.now (g.B.Board.standing c.args.board.now).nodes c.requires.kept.at_next.nodes c.requires.placed

pub stop_all-requires-clause-stands : goal.stop_all-requires-clause-stands
stop_all-requires-clause-stands g c = standing_by c.args.m.now (g.B.Board.standing c.args.board.now).nodes c.requires.kept.at_next.nodes c.requires.placed

pub stop_all-requires-clause-asking : goal.stop_all-requires-clause-asking
stop_all-requires-clause-asking g c =
    let m : At = c.args.m.now in
    let h : Progress = c.args.h.now in
    let old : Standing = g.B.Board.standing c.args.board.now in
    let new : Standing = g.B.Board.standing c.serve.new.board in
    subst (λ first. IsAsking m first 0 true new c.serve.new.h) (omega (arith, c.len-first.ensures, h.kept.seen.ok.0))
    (asking-begins m old new h c.serve.new.h c.requires.kept c.serve.ensures.rest c.in_ok-serve.ensures.kept
    (omega (arith, c.requires.next.0, c.requires.few)) c.requires.next.0 c.in_ok-serve.ensures.more c.in_ok-serve.ensures.context c.serve.ensures.steady)

pub returns-clause-kept : goal.returns-clause-kept
returns-clause-kept g c =
    let m : At = c.args.m.now in
    let s : Standing = g.B.Board.standing c.stop_all.new.board in
    let h : Progress = c.stop_all.new.h in
    kept-over m c.len-first.result (is_go c.in_ok-verdict.verdict) s h _ c.in_ok-verdict.ensures.asking refl
    (c.and-h.ensures ∙ ap (λ (y : At). h.history.events ++ y.told ∷ []) c.m.view_is)
