use Rattle.std.proofs.Common.{rules, ◌≡◌, ◌<◌, ◌≤◌, true, sym, subst, ap, ◌∙◌, arith}
use Rattle.pd_core.specs.Layout.{Layout, bindings}
use Rattle.pd_core.specs.Tokens.{Holder}
use Rattle.pd_core.specs.Words.{live}
use Rattle.pd_core.specs.Views.{known}
use Rattle.pd_core.proofs.Facts.{known_drew_on}
use Rattle.call_tests.proofs.core_words.draw_twice.Goals as goal

pub add_draw-one-requires : goal.add_draw-one-requires
add_draw-one-requires c = (c.requires.0, (subst (λ (q : Layout). 0 < bindings q) (sym c.requires.1) (omega arith), (c.requires.2, omega (arith, c.requires.3)), tt))

pub add_draw-two-requires : goal.add_draw-two-requires
add_draw-two-requires c =
    let found : live c.add_draw-one.result ≡ true = search rules in
    let now = ap (λ (h : Holder). known h.view 0) c.add_draw-one.ensures.view ∙ (known_drew_on c.args.core.now.layout 0 0 c.add_draw-one.result c.args.p.view found 0 ∙ c.requires.2) in
    let share = ap (λ (h : Holder). h.view.draw_share) c.add_draw-one.ensures.view in
    (search rules, (subst (λ (q : Layout). 0 < bindings q) (sym c.requires.1) (omega arith), (now, omega (arith, share, c.requires.3)), tt))
