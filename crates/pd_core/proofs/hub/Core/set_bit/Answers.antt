use Rattle.std.proofs.Common.{◌≡◌, ◌/◌, arith, refl, sym, ap, ◌∙◌}
use Rattle.pd_core.specs.Layout.{Layout, row_at}
use Rattle.pd_core.specs.Tokens.{Hub, Holder}
use Rattle.pd_core.specs.Kinds.{May, word_of, set_bit}
use Rattle.pd_core.proofs.Admitted.{admitted_at, told, inside, found_out}
use Rattle.pd_core.proofs.Places.{row_of, row_inside}
use Rattle.pd_core.proofs.hub.Core.set_bit.Goals as goal

pub set-requires : goal.set-requires
set-requires c =
    let same : c.self.inside.table.shared.key ≡ c.args.self.now.layout = ap (λ (h : Hub). h.layout) c.self.view_is in
    let may : May c.self.inside.table.shared.key (set_bit c.args.n c.args.b) c.p.inside.seat.me.0 = inside (set_bit c.args.n c.args.b) _ _ _ _ (ap (λ (h : Hub). h.layout) c.self.view_is) (ap (λ (h : Holder). h.view) c.p.view_is) c.requires.1 in
    let there : c.row_word-word.result ≡ word_of c.self.inside.table.shared.key (set_bit c.args.n c.args.b) = c.row_word-word.ensures ∙ ap (λ (p : Layout). row_at p c.args.n (c.args.b / 64)) (sym same) in (
      ap (λ (h : Holder). h.id) c.p.view_is ∙ (c.requires.0 ∙ sym (ap (λ (h : Hub). h.id) c.self.view_is)),
      omega (arith, c.self.invariant.1, row_inside c.self.inside.table.shared.key c.args.n (c.args.b / 64) may.0.0 (row_of c.self.inside.table.shared.key c.args.b may.0.1), there),
      refl,
      admitted_at _ (set_bit c.args.n c.args.b) _ _ _ _ there c.p.invariant.1 may,
    )

pub returns-clause-view : goal.returns-clause-view
returns-clause-view c = told (set_bit c.args.n c.args.b) _ _ _ c.set.result _ _ _ _ _ c.set.ensures c.row_word-word.ensures c.p.view_is (ap (λ (h : Hub). h.layout) c.self.view_is)

pub returns-clause-found : goal.returns-clause-found
returns-clause-found c = found_out (set_bit c.args.n c.args.b) _ _ _ _ _ (ap (λ (h : Hub). h.layout) c.self.view_is) (ap (λ (h : Holder). h.view) c.p.view_is) c.set.ensures.1.1

pub row_word-word-requires : goal.row_word-word-requires
row_word-word-requires c = (c.requires.1.0.0, row_of c.args.self.now.layout c.args.b c.requires.1.0.1)
