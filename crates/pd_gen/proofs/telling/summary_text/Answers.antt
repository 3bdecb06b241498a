use Rattle.std.proofs.Common.{◌++◌, ◌∙◌, ap}
use Rattle.pd_report.specs.Lines.{numbered}
use Rattle.pd_gen.specs.Summing.{first_lines, count_line, end_line, summary_text}
use Rattle.pd_gen.proofs.telling.summary_text.Goals as goal

pub returns : goal.returns
unfolding summary_text
returns c =
    let s = c.args.summary.now in
    let first = c.in_ok-push_first.ensures ∙ ap (λ text. text ++ first_lines s) c.new-text.ensures.bytes in
    let counts = c.in_ok-push_counts.ensures ∙ ap (λ text. text ++ numbered count_line 0 c.as_slice.result.now) first
    ∙ ap (λ counts. first_lines s ++ numbered count_line 0 counts) c.as_slice.ensures in
    c.of.ensures ∙ c.in_ok-push_end.ensures ∙ ap (λ text. text ++ end_line c.as_str.result.now) counts
    ∙ ap (λ last. first_lines s ++ numbered count_line 0 s.counts ++ end_line last) c.as_str.ensures
