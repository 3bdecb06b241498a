use Rattle.std.proofs.Common.{◌∙◌, ap, sym}
use Rattle.pd_coverage.specs.Report.{watches}
use Rattle.pd_calltree.specs.Suits.{is_for_tree}
use Rattle.pd_top.specs.Causes.{unfit_binding}
use Rattle.pd_top.proofs.PlanLemmas.{binding_fits}
use Rattle.pd_top.proofs.top.answer_of.Goals as goal

pub covered-requires-clause-observer : goal.covered-requires-clause-observer
covered-requires-clause-observer g c κs within =
    let plan = c.args.accepted.now.plan in
    let binding = c.in-Coverage.words.binding in
    binding_fits (watches plan binding) binding (ap (λ command. unfit_binding command plan) (sym c.in-Coverage.is) ∙ c.requires.fit)

pub treed-requires-clause-suits : goal.treed-requires-clause-suits
treed-requires-clause-suits g c κs within =
    let plan = c.args.accepted.now.plan in
    let binding = c.in-CallTree.words.binding in
    binding_fits (is_for_tree plan binding) binding (ap (λ command. unfit_binding command plan) (sym c.in-CallTree.is) ∙ c.requires.fit)
