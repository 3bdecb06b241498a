use Rattle.std.proofs.Common.{ap, ◌∙◌}
use Rattle.pd_coverage.specs.Table.{covered_with}
use Rattle.pd_coverage.proofs.Splits.{sources_more}
use Rattle.pd_coverage.proofs.covering.sources_covered.Goals as goal

pub loop-source-preserved : goal.loop-source-preserved
loop-source-preserved c =
    let k = c.loop-source.source in
    let nodes = c.index-statements-source in
    let table = c.args.marked.now in
    sources_more table c.args.statements.now k nodes.result c.in_ok-covered_source.field-0 c.loop-source.sources.items c.push.new.self.items
    c.loop-source-test.true nodes.is (c.in_ok-covered_source.ensures ∙ ap (covered_with table k) c.as_slice.ensures) c.loop-source.invariant c.in_ok-push.ensures.items
