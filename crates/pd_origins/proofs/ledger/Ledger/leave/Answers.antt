use Rattle.std.proofs.Common.{subst, ap, ◌≡◌, ◌∙◌}
use Rattle.pd_origins.specs.Ledger.{Ledger, left}
use Rattle.pd_origins.proofs.Lookups.{but_last_take}
use Rattle.pd_origins.proofs.ledger.Ledger.leave.Goals as goal

pub returns : goal.returns
returns c =
    let old : Ledger = record { live = c.self.inside.live.items; mains = c.self.inside.mains.items } in
    subst (λ l. record old { live = c.pop.new.live.items } ≡ left l) c.self.view_is
    (ap (λ xs. record old { live = xs }) (c.pop.ensures ∙ but_last_take c.self.inside.live.items))
