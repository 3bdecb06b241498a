use Rattle.std.proofs.Common.{◌∙◌, rules, tests}
use Rattle.std.proofs.lemmas.Iterator.{YieldsList-from_slice}
use Rattle.std.proofs.lemmas.Iterator.Consumers.{YieldsList-from_filter, count_from_yields_List}
use Rattle.std.proofs.lemmas.List.Sums.{length-filter}
use Rattle.pd_gen.specs.Summing.{is_done}
use Rattle.pd_gen.proofs.summing.done_among.Goals as goal

pub returns : goal.returns
returns c =
    count_from_yields_List c.filter.result _ c.count.ensures.ran
    (YieldsList-from_filter _ (λ context. is_done context.«end») (YieldsList-from_slice c.args.contexts.now cc) c.filter.ensures.closure (λ x b q k. search (rules, tests)))
    ∙ length-filter (λ context. is_done context.«end») c.args.contexts.now
