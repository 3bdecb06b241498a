use Rattle.std.proofs.Common.{◌+◌, subst, sym}
use Rattle.pd_pl0_parse.specs.Additions.{IsText, AreNames}
use Rattle.pd_pl0_parse.proofs.Lists.{names_more}
use Rattle.pd_pl0_parse.proofs.kinds.every_second.Goals as goal

pub loop-k-preserved : goal.loop-k-preserved
loop-k-preserved c =
    subst (AreNames c.args.source.now.bytes c.args.tokens.now c.args.first 2 (c.loop-k.k + 1)) (sym c.in_ok-push.ensures.items)
    (names_more c.args.source.now.bytes c.args.tokens.now c.args.first 2 c.loop-k.k c.loop-k.names.items c.in_ok-name.name c.loop-k.invariant
    (subst (λ b. IsText b c.in_ok-name.name) c.text_at.ensures c.in_ok-name.ensures))
