use Rattle.std.proofs.Common.{◌++◌, ◌∷◌, [], ap, ◌∙◌, arith}
use Rattle.pd_meaning.specs.Meaning.{filled}
use Rattle.pd_cross.proofs.Argument.{filled_more}
use Rattle.pd_cross.proofs.arguments.filled.Goals as goal

pub loop-all-preserved : goal.loop-all-preserved
loop-all-preserved c =
    let xs = c.loop-all.all.items in
    let v = c.args.value.now in
    ap (filled c.args.size v) (c.in_ok-push.ensures.items ∙ ap (λ a. xs ++ a ∷ []) c.in_ok-copy.ensures)
    ∙ filled_more c.args.size v xs (omega (arith, c.loop-all.all.ok.0)) ∙ c.loop-all.invariant
