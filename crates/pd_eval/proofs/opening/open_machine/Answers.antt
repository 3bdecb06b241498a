-- The machine begins with the entry's frame.
use Rattle.pd_eval.proofs.Begun.{begun}
use Rattle.pd_eval.proofs.opening.open_machine.Goals as goal

pub returns-clause-begun : goal.returns-clause-begun
returns-clause-begun c =
    begun c.args.program.now c.args.fuel c.args.root c.new.result c.in_ok-frame.frame c.in_ok-mains.mains.items (c.in_ok-frame.ensures c.args.fuel) c.in_ok-mains.ensures c.new.ensures
