use Rattle.std.proofs.Common.{◌+◌, sym, ◌∙◌}
use Rattle.std.proofs.lemmas.List.{take_rest}
use Rattle.pd_sl_lex.proofs.Finding.{comment_later_on}
use Rattle.pd_sl_lex.proofs.comment_end.Goals as goal

pub loop-place-preserved : goal.loop-place-preserved
loop-place-preserved c =
    let bytes = c.args.bytes.now in
    let place = c.loop-place.place in
    comment_later_on bytes _ place c.loop-place-test.true (take_rest bytes (place + 1)) (sym c.ends_comment.ensures ∙ c.if-ends_comment.false) c.loop-place.invariant
