use Rattle.std.proofs.Common.{sym, ap, ◌∙◌}
use Rattle.pd_origins.specs.declared.ledger.Live.{Live}
use Rattle.pd_origins.proofs.Lookups.{seen_at}
use Rattle.pd_origins.proofs.ledger.blocks.Goals as goal

pub returns-then-i-live : goal.returns-then-i-live
returns-then-i-live c =
    c.as_slice.ensures ∙ ap (λ (x : Live). x.blocks) (sym c.index-live-live.is)
    ∙ sym (seen_at c.args.live.now c.args.i c.index-live-live.result c.if-i-live.true c.index-live-live.is)
