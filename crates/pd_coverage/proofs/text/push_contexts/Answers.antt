use Rattle.std.proofs.Common.{◌++◌, ap, ◌∙◌, string_bytes}
use Rattle.std.specs.Fmt.{decimal}
use Rattle.pd_report.proofs.NumberedLemmas.{numbered_more}
use Rattle.pd_coverage.specs.Text.{sources_text}
use Rattle.pd_coverage.proofs.text.push_contexts.Goals as goal

pub loop-number-preserved : goal.loop-number-preserved
loop-number-preserved c =
    let next = c.index-contexts-number in
    numbered_more (λ context. sources_text c.args.plan.now c.args.program.now (decimal context)) c.args.contexts.now c.loop-number.number next.result (string_bytes c.args.text.now) (string_bytes c.loop-number.text)
    (string_bytes c.push_context.new.text) c.loop-number-test.true next.is c.loop-number.invariant
    (c.in_ok-push_context.ensures ∙ ap (λ xs. string_bytes c.loop-number.text ++ sources_text c.args.plan.now c.args.program.now (decimal c.loop-number.number) xs) c.as_slice.ensures)
