use Rattle.std.proofs.Common.{◌≡◌, ◌++◌, length, string_bytes, ap, ◌∙◌}
use Rattle.std.specs.Prelude.{codes}
use Rattle.pd_coverage.specs.Lines.{lines_of, covered_lines, missed_lines}
use Rattle.pd_coverage.specs.Text.{share_text, source_head, missed_text}
use Rattle.pd_coverage.proofs.Pieces.{six_pieces}
use Rattle.pd_coverage.proofs.text.push_source.Goals as goal

pub returns : goal.returns
returns c =
    let p = c.args.program.now in
    let x = c.args.x.now in
    let lines = c.in_ok-lines.ensures in
    let head : string_bytes c.push_head.new.text ≡ string_bytes c.args.text.now ++ source_head c.args.plan.now c.args.who.now x.source = c.in_ok-push_head.ensures in
    let share : string_bytes c.push_share.new.text ≡ string_bytes c.push_head.new.text ++ share_text (length x.hit) (length x.nodes) =
    c.in_ok-push_share.ensures ∙ ap (λ ns. string_bytes c.push_head.new.text ++ share_text (length ns) (length c.as_slice-2.result.now)) c.as_slice.ensures
    ∙ ap (λ ns. string_bytes c.push_head.new.text ++ share_text (length x.hit) (length ns)) c.as_slice-2.ensures in
    let between : string_bytes c.push_str.new.self ≡ string_bytes c.push_share.new.text ++ codes " lines " = c.in_ok-push_str.ensures.bytes in
    let of_lines : string_bytes c.push_share-2.new.text ≡ string_bytes c.push_str.new.self ++ share_text (length (covered_lines p x)) (length (lines_of p x.nodes)) =
    c.in_ok-push_share-2.ensures ∙ ap (λ n. string_bytes c.push_str.new.self ++ share_text n c.in_ok-lines.lines.all) lines.covered
    ∙ ap (λ n. string_bytes c.push_str.new.self ++ share_text (length (covered_lines p x)) n) lines.all in
    let end_line : string_bytes c.push_str-2.new.self ≡ string_bytes c.push_share-2.new.text ++ codes "\n" = c.in_ok-push_str-2.ensures.bytes in
    let missed : string_bytes c.push_missed.new.text ≡ string_bytes c.push_str-2.new.self ++ missed_text (missed_lines p x) =
    c.in_ok-push_missed.ensures ∙ ap (λ ls. string_bytes c.push_str-2.new.self ++ missed_text ls) (c.as_slice-3.ensures.value ∙ lines.missed) in
    six_pieces (string_bytes c.args.text.now) (source_head c.args.plan.now c.args.who.now x.source) (share_text (length x.hit) (length x.nodes)) (codes " lines ")
    (share_text (length (covered_lines p x)) (length (lines_of p x.nodes))) (codes "\n") (missed_text (missed_lines p x))
    (string_bytes c.push_head.new.text) (string_bytes c.push_share.new.text) (string_bytes c.push_str.new.self) (string_bytes c.push_share-2.new.text) (string_bytes c.push_str-2.new.self) (string_bytes c.push_missed.new.text)
    head share between of_lines end_line missed
