use Rattle.std.proofs.Common.{arith, sym, ap, ◌∙◌}
use Rattle.atomic_table.proofs.Lists.{set_else}
use Rattle.pd_core.specs.Tokens.{Hub, Holder}
use Rattle.pd_core.specs.Views.{joined}
use Rattle.pd_core.proofs.Seats.{join_keeps}
use Rattle.pd_core.proofs.hub.Core.join.Goals as goal

pub join_seat-requires : goal.join_seat-requires
join_seat-requires c = (
  ap (λ (h : Holder). h.id) c.p.view_is ∙ (c.requires.0 ∙ sym (ap (λ (h : Hub). h.id) c.self.view_is)),
  ap (λ (h : Holder). h.id) c.other.view_is ∙ (c.requires.1 ∙ sym (ap (λ (h : Hub). h.id) c.self.view_is)),
  c.other.invariant.0,
  omega (arith, c.self.invariant.1),
  λ s good at apart there. join_keeps _ s.words s.views _ _ _ _ good at apart (sym (set_else s.views _ _ (joined c.p.inside.seat.me.0 c.other.inside.seat.me.0) apart) ∙ there) c.p.invariant.1,
)
