use Rattle.std.proofs.Common.{◌∙◌}
use Rattle.std.proofs.lemmas.Result.{IfOk-weaker}
use Rattle.pd_gen.proofs.PlanLemmas.{sources_are, texts_of}
use Rattle.pd_gen.proofs.sources.workload_sources.Goals as goal

pub returns-clause-sources : goal.returns-clause-sources
returns-clause-sources c =
    let both = sources_are c.args.number c.in_ok-sl.sl c.in_ok-pl0.pl0 c.in_ok-sl.ensures.source c.in_ok-pl0.ensures.source in
    IfOk-weaker c.two.result _ _ (λ sources are. are ∙ both) c.two.ensures

pub returns-clause-texts : goal.returns-clause-texts
returns-clause-texts c =
    IfOk-weaker c.two.result _ _ (λ sources are. texts_of sources c.in_ok-sl.sl c.in_ok-pl0.pl0 are c.in_ok-sl.ensures.text c.in_ok-pl0.ensures.text) c.two.ensures
