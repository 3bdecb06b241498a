-- The binding was drawn.
use Rattle.std.proofs.Common.{subst}
use Rattle.pd_board.specs.Standing.{Standing}
use Rattle.pd_guest.specs.Delivering.{IsDelivered}
use Rattle.pd_guest.specs.Finishing.{drawn}
use Rattle.pd_guest.proofs.finishing.finish.Goals as goal

pub returns-in_ok-deliver-in-Fresh : goal.returns-in_ok-deliver-in-Fresh
returns-in_ok-deliver-in-Fresh g c =
    let old : Standing = g.B.Board.standing c.args.board.now in
    let new : Standing = g.B.Board.standing c.deliver.new.board in
    record {
      finished = drawn c.in_ok-deliver-in-Fresh.field-0
          (subst (λ y. IsDelivered y.plan y.told.event c.args.b c.in_ok-deliver-in-Fresh.field-0 old new c.args.kept.now c.deliver.new.kept) c.m.view_is c.in_ok-deliver-in-Fresh.ensures.delivered);
      steady = c.deliver.ensures.steady;
      base = c.deliver.ensures.base;
    }
