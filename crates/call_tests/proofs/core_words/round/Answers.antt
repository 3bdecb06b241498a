use Rattle.std.proofs.Common.{rules, ◌≡◌, true, refl, sym, ap, ◌∙◌}
use Rattle.pd_core.specs.Examples.{one_binding}
use Rattle.pd_core.specs.Tokens.{Holder}
use Rattle.pd_core.specs.declared.view.View.{View}
use Rattle.pd_core.specs.Views.{halved}
use Rattle.call_tests.proofs.CoreExamples.{split_first, split_second, split_third, is_known, known_halved, known_new, share_new, share_thrice}
use Rattle.call_tests.proofs.core_words.round.Goals as goal

pub split-q-requires : goal.split-q-requires
split-q-requires generic c =
    let yes : c.attach-ready.result ≡ true = search rules in
    (search rules, split_first _ _ c.requires.1 (c.attach-ready.ensures.attached yes))

pub split-r-requires : goal.split-r-requires
split-r-requires generic c =
    let yes : c.attach-ready.result ≡ true = search rules in
    (search rules, split_second _ _ _ c.requires.1 (c.attach-ready.ensures.attached yes) (ap (λ (h : Holder). h.view) c.split-q.ensures.old))

pub split-s-requires : goal.split-s-requires
split-s-requires generic c =
    let yes : c.attach-ready.result ≡ true = search rules in
    (search rules, split_third _ _ _ c.requires.1 (c.attach-ready.ensures.attached yes) (ap (λ (h : Holder). h.view) c.split-r.ensures.old ∙ ap (λ (v : View). halved v) (ap (λ (h : Holder). h.view) c.split-q.ensures.old)))

pub draw_beside-requires : goal.draw_beside-requires
draw_beside-requires generic c =
    let yes : c.attach-ready.result ≡ true = search rules in
    let there = c.attach-ready.ensures.attached yes in
    let e = ap (λ (h : Holder). h.view) c.split-q.ensures.old in
    let f = ap (λ (h : Holder). h.view) c.split-r.ensures.old in
    let g = ap (λ (h : Holder). h.view) c.split-s.ensures.old in
    let q = ap (λ (h : Holder). h.view) c.split-q.ensures.new in
    let r = ap (λ (h : Holder). h.view) c.split-r.ensures.new in
    let s = ap (λ (h : Holder). h.view) c.split-s.ensures.new in
    let k0 = is_known _ there in
    let k1 = known_halved _ _ e ∙ k0 in
    let k2 = known_halved _ _ f ∙ k1 in
    let k3 = known_halved _ _ g ∙ k2 in (
      search rules,
      (
        c.requires.1,
        (search rules, k3, share_thrice _ _ _ _ there e f g),
        (search rules, known_new c.attach-ready.new.p.view c.split-q.result.view q ∙ k0, share_new c.attach-ready.new.p.view c.split-q.result.view q),
        (search rules, known_new c.split-q.new.p.view c.split-r.result.view r ∙ k1, share_new c.split-q.new.p.view c.split-r.result.view r),
        (search rules, known_new c.split-r.new.p.view c.split-s.result.view s ∙ k2, share_new c.split-r.new.p.view c.split-s.result.view s),
      ),
    )
