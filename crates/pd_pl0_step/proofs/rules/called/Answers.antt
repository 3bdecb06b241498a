-- The call leaves its result to be dropped.
use Rattle.std.proofs.Common.{IfOk, [], subst}
use Rattle.pd_tree.specs.Program.{item_at}
use Rattle.pd_meaning.specs.Machine.{item_called}
use Rattle.pd_meaning.specs.Steps.{Does}
use Rattle.pd_machine.specs.Held.{Held}
use Rattle.pd_pl0_step.proofs.rules.called.Goals as goal

pub returns-in_ok-push-in-Item : goal.returns-in_ok-push-in-Item
returns-in_ok-push-in-Item c =
    rw c.in-Item.is
    (subst (λ (h : Held). IfOk c.call.result (λ _. Does (λ stack s. item_called c.args.program.now c.args.n (item_at c.args.program.now c.in-Item.item).root [] stack s) h c.call.new.m)) c.in_ok-push-in-Item.ensures c.call.ensures)
