use Rattle.std.proofs.Common.{◌∙◌, ap, length, map}
use Rattle.std.specs.List.{count_by, sum_by}
use Rattle.pd_gen.specs.Summing.{is_done, first_output, last_line}
use Rattle.pd_gen.proofs.SummingLemmas.{summary_is}
use Rattle.pd_gen.proofs.summing.summary.Goals as goal

pub returns : goal.returns
returns c =
    let contexts = c.as_slice-contexts.ensures in
    summary_is c.args.number c.args.report.now (length c.as_slice-contexts.result.now) c.done_among.result c.events_of.result c.in_ok-counts_of.field-0 c.of.result
    (ap length contexts) (c.done_among.ensures ∙ ap (count_by (λ context. is_done context.«end»)) contexts)
    (c.events_of.ensures ∙ ap (sum_by (λ context. context.events)) contexts)
    (c.in_ok-counts_of.ensures ∙ ap (map (λ tally. tally.count)) c.bindings.ensures.bindings)
    (c.of.ensures ∙ c.in_ok-from_str.ensures.ok ∙ c.last_line-last.ensures ∙ ap last_line (c.first_output.ensures ∙ ap first_output contexts))
