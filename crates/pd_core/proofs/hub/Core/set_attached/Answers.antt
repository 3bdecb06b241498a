use Rattle.std.proofs.Common.{◌≡◌, arith, refl, sym, ap, ◌∙◌}
use Rattle.pd_core.specs.Layout.{Layout, binding_at}
use Rattle.pd_core.specs.Tokens.{Hub, Holder}
use Rattle.pd_core.specs.Kinds.{May, word_of, set_attached}
use Rattle.pd_core.proofs.Admitted.{admitted_at, told, inside, found_out}
use Rattle.pd_core.proofs.hub.Core.set_attached.Goals as goal

pub set-requires : goal.set-requires
set-requires c =
    let same : c.self.inside.table.shared.key ≡ c.args.self.now.layout = ap (λ (h : Hub). h.layout) c.self.view_is in
    let may : May c.self.inside.table.shared.key (set_attached c.args.b) c.p.inside.seat.me.0 = inside (set_attached c.args.b) _ _ _ _ (ap (λ (h : Hub). h.layout) c.self.view_is) (ap (λ (h : Holder). h.view) c.p.view_is) c.requires.1 in
    let there : c.binding_word-word.result ≡ word_of c.self.inside.table.shared.key (set_attached c.args.b) = c.binding_word-word.ensures ∙ ap (λ (p : Layout). binding_at p c.args.b) (sym same) in (
      ap (λ (h : Holder). h.id) c.p.view_is ∙ (c.requires.0 ∙ sym (ap (λ (h : Hub). h.id) c.self.view_is)),
      omega (arith, c.self.invariant.1, there, may.0),
      refl,
      admitted_at _ (set_attached c.args.b) _ _ _ _ there c.p.invariant.1 may,
    )

pub returns-clause-view : goal.returns-clause-view
returns-clause-view c = told (set_attached c.args.b) _ _ _ c.set.result _ _ _ _ _ c.set.ensures c.binding_word-word.ensures c.p.view_is (ap (λ (h : Hub). h.layout) c.self.view_is)

pub returns-clause-found : goal.returns-clause-found
returns-clause-found c = found_out (set_attached c.args.b) _ _ _ _ _ (ap (λ (h : Hub). h.layout) c.self.view_is) (ap (λ (h : Holder). h.view) c.p.view_is) c.set.ensures.1.1

pub binding_word-word-requires : goal.binding_word-word-requires
binding_word-word-requires c = c.requires.1.0
