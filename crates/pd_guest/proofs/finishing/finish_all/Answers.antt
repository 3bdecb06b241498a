-- One binding more is served, and at last all are.
use Rattle.std.proofs.Common.{◌≡◌, ℕ, List, drop, ◌∷◌, get_or, subst, ◌+◌, arith, ◌∙◌}
use Rattle.pd_board.specs.Standing.{Standing}
use Rattle.pd_guest.specs.Moment.{At}
use Rattle.pd_guest.specs.Finishing.{IsFit, IsFinishing}
use Rattle.pd_guest.proofs.FinishingLaws.{split_drop, dropped, fit-more, used-more, finishing-more}
use Rattle.pd_guest.proofs.GrowingLaws.{more-after, more-finished}
use Rattle.pd_guest.proofs.finishing.finish_all.Goals as goal

pub on-preserved : goal.on-preserved
on-preserved g c =
    let m : At = c.args.m.now in
    let i : ℕ = c.on.b-index in
    let xs : List ℕ = c.args.on.now in
    let b : ℕ = get_or xs i 0 in
    let bs : List ℕ = drop (i + 1) xs in
    let first : Standing = g.B.Board.standing c.args.board.now in
    let old : Standing = g.B.Board.standing c.on.board in
    let new : Standing = g.B.Board.standing c.finish.new.board in
    let split : drop i xs ≡ b ∷ bs = split_drop xs i c.on-test.true in
    let fit : IsFit (b ∷ bs) old c.on.kept = subst (λ x. IsFit x old c.on.kept) split c.on.invariant.fit in
    record {
      fit = fit-more m b bs old new c.on.kept c.finish.new.kept fit c.in_ok-finish.ensures.finished;
      used = used-more m i b first old new c.args.kept.now c.on.kept c.finish.new.kept c.on.invariant.used c.in_ok-finish.ensures.finished;
      more = more-after m.plan m.told.event.number first old new c.on.invariant.more (more-finished m b old new c.on.kept c.finish.new.kept c.in_ok-finish.ensures.finished);
      base = c.finish.ensures.base ∙ c.on.invariant.base;
      finishing = λ start ts done end x.
          finishing-more m start ts done b bs old new c.on.kept c.finish.new.kept end fit c.in_ok-finish.ensures.finished
          (subst (λ y. IsFinishing m start ts done y old c.on.kept) split (c.on.invariant.finishing start ts done end x));
    }

pub returns-clause-finishing : goal.returns-clause-finishing
returns-clause-finishing g c = λ start ts done end x.
    subst (λ y. IsFinishing c.args.m.now start ts done y (g.B.Board.standing c.on.board) c.on.kept) (dropped c.args.on.now c.on.b-index (omega arith)) (c.on.invariant.finishing start ts done end x)
