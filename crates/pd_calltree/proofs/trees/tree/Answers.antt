use Rattle.std.proofs.Common.{sym, subst}
use Rattle.pd_calltree.specs.Counting.{AreCountable, AreTallied}
use Rattle.pd_calltree.proofs.Records.{logs_count, trees_told, sums_told}
use Rattle.pd_calltree.proofs.trees.tree.Goals as goal

pub trees_of-requires : goal.trees_of-requires
trees_of-requires c =
    subst (AreCountable c.args.binding) (sym c.as_slice.ensures) (logs_count c.args.plan.now c.args.program.now c.args.report.now c.args.binding c.requires.run c.requires.suits)

pub returns-clause-trees : goal.returns-clause-trees
returns-clause-trees c =
    trees_told c.args.plan.now c.args.program.now c.args.report.now c.args.binding c.in_ok-contexts.contexts c.requires.run c.requires.suits
    (subst (λ rs. AreTallied c.args.binding rs c.in_ok-contexts.contexts) c.as_slice.ensures c.in_ok-contexts.ensures)

pub returns-clause-sums : goal.returns-clause-sums
returns-clause-sums c = λ rooted.
    sums_told c.args.plan.now c.args.program.now c.args.report.now c.args.binding c.in_ok-contexts.contexts c.requires.run c.requires.suits rooted
    (subst (λ rs. AreTallied c.args.binding rs c.in_ok-contexts.contexts) c.as_slice.ensures c.in_ok-contexts.ensures)
