use Rattle.std.proofs.Common.{◌≡◌, ◌<◌, ◌≤◌, ◌^◌, length, map, slice_index_or, subst, ap, ◌∙◌}
use Rattle.std.proofs.lemmas.List.{take_all}
use Rattle.pd_steady.specs.Steady.{about}
use Rattle.pd_coverage.specs.Coverage.{is_hit, is_hit_in, sources_covered}
use Rattle.pd_coverage.specs.Report.{log_in}
use Rattle.pd_coverage.specs.Table.{IsTable}
use Rattle.pd_coverage.proofs.Told.{marked_is_hit, contexts_more, split_about, split_few, fresh_table, next_table, whole_coverage}
use Rattle.pd_coverage.proofs.covering.cover.Goals as goal

pub sources_covered-requires : goal.sources_covered-requires
sources_covered-requires c =
    let plan = c.args.plan.now in
    let p = c.args.program.now in
    let split = split_about plan p c.args.binding c.filter_of.result.now c.as_slice-sources.result.now c.in_ok-by_source.by_source.items c.filter_of.ensures c.as_slice-sources.ensures c.in_ok-by_source.ensures in
    record { few = split_few p (about plan p c.args.binding) (length plan.sources) (2 ^ 32) c.in_ok-by_source.by_source.items c.as_slice.result.now split c.as_slice.ensures.value c.requires.few }

pub sources_covered-requires-2 : goal.sources_covered-requires-2
sources_covered-requires-2 c =
    let plan = c.args.plan.now in
    let p = c.args.program.now in
    let split = split_about plan p c.args.binding c.filter_of.result.now c.as_slice-sources.result.now c.in_ok-by_source.by_source.items c.filter_of.ensures c.as_slice-sources.ensures c.in_ok-by_source.ensures in
    record { few = split_few p (about plan p c.args.binding) (length plan.sources) (2 ^ 32) c.in_ok-by_source.by_source.items c.as_slice-2.result.now split c.as_slice-2.ensures.value c.requires.few }

pub loop-context-preserved : goal.loop-context-preserved
loop-context-preserved c =
    let plan = c.args.plan.now in
    let p = c.args.program.now in
    let b = c.args.binding in
    let rs = c.args.report.now.contexts in
    let k = c.loop-context.context-index in
    let r = c.context-item.result in
    let split = split_about plan p b c.filter_of.result.now c.as_slice-sources.result.now c.in_ok-by_source.by_source.items c.filter_of.ensures c.as_slice-sources.ensures c.in_ok-by_source.ensures in
    let below = subst (λ xs. k < length xs) c.as_slice-context-items.ensures c.loop-context-test.true in
    let is = subst (λ xs. r ≡ slice_index_or xs k r) c.as_slice-context-items.ensures c.context-item.is in
    let own = fresh_table (log_in b r) c.log_in.result.now c.nodes-nodes.result (length p.nodes) c.in_ok-own.own c.mark_entered.new.own c.log_in.ensures c.nodes-nodes.ensures.count c.in_ok-own.ensures c.mark_entered.ensures.own in
    let covered = marked_is_hit p (length plan.sources) (about plan p b) (is_hit (log_in b r)) c.mark_entered.new.own c.as_slice.result.now c.in_ok-sources_covered.field-0 own (c.as_slice.ensures.value ∙ split) c.in_ok-sources_covered.ensures in
    record {
      contexts = contexts_more (λ log. sources_covered p (length plan.sources) (about plan p b) (is_hit log)) b rs k r c.loop-context.contexts.items c.push.new.self.items c.in_ok-sources_covered.field-0 below is
          c.loop-context.invariant.contexts covered c.in_ok-push.ensures.items;
      all = next_table b rs k r c.log_in.result.now (length p.nodes) c.loop-context.all c.mark_entered.new.all below is c.log_in.ensures c.loop-context.invariant.all c.mark_entered.ensures.all;
    }

pub returns : goal.returns
returns c =
    let plan = c.args.plan.now in
    let p = c.args.program.now in
    let b = c.args.binding in
    let rs = c.args.report.now.contexts in
    let k = c.loop-context.context-index in
    let split = split_about plan p b c.filter_of.result.now c.as_slice-sources.result.now c.in_ok-by_source.by_source.items c.filter_of.ensures c.as_slice-sources.ensures c.in_ok-by_source.ensures in
    let gone = take_all k rs (subst (λ xs. length xs ≤ k) c.as_slice-context-items.ensures c.loop-context-test.false) in
    let each = c.of.ensures ∙ c.loop-context.invariant.contexts
    ∙ ap (λ xs. map (λ log. sources_covered p (length plan.sources) (about plan p b) (is_hit log)) (map (log_in b) xs)) gone in
    let all = subst (λ xs. IsTable (is_hit_in (map (log_in b) xs)) (length p.nodes) c.loop-context.all) gone c.loop-context.invariant.all in
    let whole = marked_is_hit p (length plan.sources) (about plan p b) (is_hit_in (map (log_in b) rs)) c.loop-context.all c.as_slice-2.result.now c.in_ok-sources_covered-2.field-0 all (c.as_slice-2.ensures.value ∙ split) c.in_ok-sources_covered-2.ensures in
    whole_coverage plan p c.args.report.now b c.of.result c.in_ok-sources_covered-2.field-0 c.requires.run each whole
