use Rattle.std.proofs.Common.{◌≡◌, arith, sym, ap, ◌∙◌, subst}
use Rattle.pd_core.specs.declared.view.View.{View}
use Rattle.pd_core.specs.Layout.{Layout}
use Rattle.pd_core.specs.Tokens.{Hub, Holder}
use Rattle.pd_core.specs.Runs.{MaySplit}
use Rattle.pd_core.proofs.Seats.{split_keeps}
use Rattle.pd_core.proofs.hub.Core.split.Goals as goal

pub split_seat-seat-requires : goal.split_seat-seat-requires
split_seat-seat-requires c =
    let same : c.self.inside.table.shared.key ≡ c.args.self.now.layout = ap (λ (h : Hub). h.layout) c.self.view_is in
    let old = ap (λ (h : Holder). h.view) c.p.view_is in
    let may : MaySplit c.self.inside.table.shared.key c.p.inside.seat.me.0 = subst (λ (x : Layout × View). MaySplit x.0 x.1) (λ i. (sym same i, sym old i)) c.requires.1 in (
      ap (λ (h : Holder). h.id) c.p.view_is ∙ (c.requires.0 ∙ sym (ap (λ (h : Hub). h.id) c.self.view_is)),
      omega (arith, c.self.invariant.1),
      λ s good at. split_keeps _ s.words s.views _ _ good at may,
    )
