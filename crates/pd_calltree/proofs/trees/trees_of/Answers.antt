use Rattle.std.proofs.Common.{map, sym, subst}
use Rattle.pd_running.specs.Running.{mark_in}
use Rattle.pd_paths.specs.Tally.{AreRising, IsTally}
use Rattle.pd_calltree.specs.Counting.{AreTallied}
use Rattle.pd_calltree.proofs.Contexts.{countable_at, tallied_more, tallied_all}
use Rattle.pd_calltree.proofs.trees.trees_of.Goals as goal

pub counted-requires : goal.counted-requires
counted-requires c =
    subst (λ log. AreRising 0 c.context-item.result.events (map mark_in log)) (sym c.log_in-log.ensures)
    (countable_at c.args.binding c.args.contexts.now c.loop-context.context-index c.context-item.result c.requires c.loop-context-test.true c.context-item.is)

pub loop-context-preserved : goal.loop-context-preserved
loop-context-preserved c =
    subst (AreTallied c.args.binding _) (sym c.in_ok-push.ensures.items)
    (tallied_more c.args.binding c.args.contexts.now c.loop-context.context-index c.loop-context.trees.items c.context-item.result c.in_ok-counted.field-0 c.loop-context-test.true c.context-item.is c.loop-context.invariant
    (subst (λ log. IsTally c.context-item.result.events (map mark_in log) c.in_ok-counted.field-0) c.log_in-log.ensures c.in_ok-counted.ensures))

pub returns : goal.returns
returns c =
    subst (AreTallied c.args.binding c.args.contexts.now) (sym c.of.ensures)
    (tallied_all c.args.binding c.args.contexts.now c.loop-context.context-index c.loop-context.trees.items c.loop-context-test.false c.loop-context.invariant)
