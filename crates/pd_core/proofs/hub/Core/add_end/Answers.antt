use Rattle.std.proofs.Common.{◌≡◌, ℕ, arith, refl, sym, ap, ◌∙◌}
use Rattle.pd_core.specs.Layout.{Layout, session_at, end_at}
use Rattle.pd_core.specs.Tokens.{Hub, Holder}
use Rattle.pd_core.specs.Kinds.{May, word_of, count_end}
use Rattle.pd_core.proofs.Admitted.{admitted_at, told, inside, found_out}
use Rattle.pd_core.proofs.hub.Core.add_end.Goals as goal

pub add-requires : goal.add-requires
add-requires c =
    let same : c.self.inside.table.shared.key ≡ c.args.self.now.layout = ap (λ (h : Hub). h.layout) c.self.view_is in
    let may : May c.self.inside.table.shared.key count_end c.p.inside.seat.me.0 = inside count_end _ _ _ _ (ap (λ (h : Hub). h.layout) c.self.view_is) (ap (λ (h : Holder). h.view) c.p.view_is) c.requires.1 in
    let there : c.session_word-word.result ≡ word_of c.self.inside.table.shared.key count_end = (c.session_word-word.ensures ∙ ap (λ (s : ℕ). session_at c.args.self.now.layout s) (c.self.invariant.5 ∙ ap (λ (h : Hub). h.layout.sessions) c.self.view_is)) ∙ ap (λ (p : Layout). end_at p) (sym same) in (
      ap (λ (h : Holder). h.id) c.p.view_is ∙ (c.requires.0 ∙ sym (ap (λ (h : Hub). h.id) c.self.view_is)),
      omega (arith, c.self.invariant.1, there),
      refl,
      admitted_at _ count_end _ _ _ _ there c.p.invariant.1 may,
    )

pub returns-clause-view : goal.returns-clause-view
returns-clause-view c = told count_end _ _ _ c.add.result _ _ _ _ _ c.add.ensures (c.session_word-word.ensures ∙ ap (λ (s : ℕ). session_at c.args.self.now.layout s) (c.self.invariant.5 ∙ ap (λ (h : Hub). h.layout.sessions) c.self.view_is)) c.p.view_is (ap (λ (h : Hub). h.layout) c.self.view_is)

pub returns-clause-found : goal.returns-clause-found
returns-clause-found c = found_out count_end _ _ _ _ _ (ap (λ (h : Hub). h.layout) c.self.view_is) (ap (λ (h : Holder). h.view) c.p.view_is) c.add.ensures.1.1

pub session_word-word-requires : goal.session_word-word-requires
session_word-word-requires c = omega (arith, (c.self.invariant.5 ∙ ap (λ (h : Hub). h.layout.sessions) c.self.view_is))
