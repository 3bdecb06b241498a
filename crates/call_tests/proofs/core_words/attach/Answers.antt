use Rattle.std.proofs.Common.{rules, ◌≡◌, ◌==◌, true, false, ap, ◌∙◌}
use Rattle.pd_core.specs.Examples.{one_binding}
use Rattle.pd_core.specs.Layout.{Layout}
use Rattle.pd_core.specs.Tokens.{Holder}
use Rattle.pd_core.specs.Words.{disposed}
use Rattle.pd_core.specs.Kinds.{after, set_bit, set_summary, set_attached}
use Rattle.pd_core.proofs.Admitted.{inside}
use Rattle.call_tests.proofs.CoreExamples.{first_bit, first_summary, first_attach}
use Rattle.call_tests.proofs.core_words.attach.Goals as goal

pub set_bit-requires : goal.set_bit-requires
set_bit-requires c = (c.requires.0, inside (set_bit 3 0) _ _ _ _ c.requires.1 c.requires.2 first_bit)

pub set_summary-requires : goal.set_summary-requires
set_summary-requires c =
    let lay : c.args.core.now.layout ≡ one_binding = c.requires.1 in
    let v1 = ap (λ (h : Holder). h.view) c.set_bit.ensures.view ∙ (λ i. after (lay i) (set_bit 3 0) c.set_bit.result (c.requires.2 i)) in
    (search rules, inside (set_summary 3 0) _ _ _ _ lay v1 (first_summary c.set_bit.result))

pub set_attached-made-requires : goal.set_attached-made-requires
set_attached-made-requires c =
    let lay : c.args.core.now.layout ≡ one_binding = c.requires.1 in
    let v1 = ap (λ (h : Holder). h.view) c.set_bit.ensures.view ∙ (λ i. after (lay i) (set_bit 3 0) c.set_bit.result (c.requires.2 i)) in
    let v2 = ap (λ (h : Holder). h.view) c.set_summary.ensures.view ∙ (λ i. after (lay i) (set_summary 3 0) c.set_summary.result (v1 i)) in
    (search rules, inside (set_attached 0) _ _ _ _ lay v2 (first_attach c.set_bit.result c.set_summary.result))

pub returns-clause-attached : goal.returns-clause-attached
returns-clause-attached c = λ e.
    let lay : c.args.core.now.layout ≡ one_binding = c.requires.1 in
    let v1 = ap (λ (h : Holder). h.view) c.set_bit.ensures.view ∙ (λ i. after (lay i) (set_bit 3 0) c.set_bit.result (c.requires.2 i)) in
    let v2 = ap (λ (h : Holder). h.view) c.set_summary.ensures.view ∙ (λ i. after (lay i) (set_summary 3 0) c.set_summary.result (v1 i)) in
    let v3 = ap (λ (h : Holder). h.view) c.set_attached-made.ensures.view ∙ (λ i. after (lay i) (set_attached 0) c.set_attached-made.result (v2 i)) in
    let alive : (disposed c.set_attached-made.result == 1) ≡ false = search rules in
    (c.set_bit.result, c.set_summary.result, c.set_attached-made.result, v3, alive)
