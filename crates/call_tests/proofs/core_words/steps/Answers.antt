use Rattle.std.proofs.Common.{rules, ◌≡◌, ◌==◌, true, false, refl, ap, ◌∙◌}
use Rattle.pd_core.specs.declared.view.View.{View}
use Rattle.pd_core.specs.Examples.{one_binding}
use Rattle.pd_core.specs.Tokens.{Holder}
use Rattle.pd_core.specs.Words.{disposed, live, bit_of}
use Rattle.pd_core.specs.Views.{halved, newcomer}
use Rattle.pd_core.specs.Kinds.{after, load_node, load_binding, draw, clear_bit, set_bit, set_attached, set_disposed, count_answer, load_row, set_summary, set_off, clear_off}
use Rattle.pd_core.proofs.Admitted.{inside}
use Rattle.call_tests.proofs.CoreExamples.{splits, may_split, may_bit, may_summary, may_attach, may_draw, may_miss, bit_there, may_row, may_look, may_clear, may_answer, ask}
use Rattle.call_tests.proofs.core_words.steps.Goals as goal

pub split-q-requires : goal.split-q-requires
split-q-requires c = (c.requires.0, splits _ _ _ _ c.requires.1 c.requires.2 may_split)

pub set_bit-bit-requires : goal.set_bit-bit-requires
set_bit-bit-requires c =
    let lay : c.args.core.now.layout ≡ one_binding = c.requires.1 in
    let v0 = ap (λ (h : Holder). h.view) c.split-q.ensures.old ∙ ap (λ (v : View). halved v) c.requires.2 in
    let v1 = ap (λ (h : Holder). h.view) c.load_node-loaded.ensures.view ∙ (λ i. after (lay i) (load_node 3) c.load_node-loaded.result (v0 i)) in
    (search rules, inside (set_bit 3 0) _ _ _ _ lay v1 (may_bit c.load_node-loaded.result))

pub set_summary-summary-requires : goal.set_summary-summary-requires
set_summary-summary-requires c =
    let lay : c.args.core.now.layout ≡ one_binding = c.requires.1 in
    let v0 = ap (λ (h : Holder). h.view) c.split-q.ensures.old ∙ ap (λ (v : View). halved v) c.requires.2 in
    let v1 = ap (λ (h : Holder). h.view) c.load_node-loaded.ensures.view ∙ (λ i. after (lay i) (load_node 3) c.load_node-loaded.result (v0 i)) in
    let v2 = ap (λ (h : Holder). h.view) c.set_bit-bit.ensures.view ∙ (λ i. after (lay i) (set_bit 3 0) c.set_bit-bit.result (v1 i)) in
    (search rules, inside (set_summary 3 0) _ _ _ _ lay v2 (may_summary c.load_node-loaded.result c.set_bit-bit.result))

pub set_attached-made-requires : goal.set_attached-made-requires
set_attached-made-requires c =
    let lay : c.args.core.now.layout ≡ one_binding = c.requires.1 in
    let v0 = ap (λ (h : Holder). h.view) c.split-q.ensures.old ∙ ap (λ (v : View). halved v) c.requires.2 in
    let v1 = ap (λ (h : Holder). h.view) c.load_node-loaded.ensures.view ∙ (λ i. after (lay i) (load_node 3) c.load_node-loaded.result (v0 i)) in
    let v2 = ap (λ (h : Holder). h.view) c.set_bit-bit.ensures.view ∙ (λ i. after (lay i) (set_bit 3 0) c.set_bit-bit.result (v1 i)) in
    let v3 = ap (λ (h : Holder). h.view) c.set_summary-summary.ensures.view ∙ (λ i. after (lay i) (set_summary 3 0) c.set_summary-summary.result (v2 i)) in
    (search rules, inside (set_attached 0) _ _ _ _ lay v3 (may_attach c.load_node-loaded.result c.set_bit-bit.result c.set_summary-summary.result))

pub add_draw-on-requires : goal.add_draw-on-requires
add_draw-on-requires c =
    let lay : c.args.core.now.layout ≡ one_binding = c.requires.1 in
    let v0 = ap (λ (h : Holder). h.view) c.split-q.ensures.old ∙ ap (λ (v : View). halved v) c.requires.2 in
    let v1 = ap (λ (h : Holder). h.view) c.load_node-loaded.ensures.view ∙ (λ i. after (lay i) (load_node 3) c.load_node-loaded.result (v0 i)) in
    let v2 = ap (λ (h : Holder). h.view) c.set_bit-bit.ensures.view ∙ (λ i. after (lay i) (set_bit 3 0) c.set_bit-bit.result (v1 i)) in
    let v3 = ap (λ (h : Holder). h.view) c.set_summary-summary.ensures.view ∙ (λ i. after (lay i) (set_summary 3 0) c.set_summary-summary.result (v2 i)) in
    let v4 = ap (λ (h : Holder). h.view) c.set_attached-made.ensures.view ∙ (λ i. after (lay i) (set_attached 0) c.set_attached-made.result (v3 i)) in
    let alive : (disposed c.set_attached-made.result == 1) ≡ false = search rules in
    (search rules, inside (draw 4 0) _ _ _ _ lay v4 (may_draw c.load_node-loaded.result c.set_bit-bit.result c.set_summary-summary.result c.set_attached-made.result alive))

pub add_draw-missed-requires : goal.add_draw-missed-requires
add_draw-missed-requires c =
    let lay : c.args.core.now.layout ≡ one_binding = c.requires.1 in
    let v0 = ap (λ (h : Holder). h.view) c.split-q.ensures.old ∙ ap (λ (v : View). halved v) c.requires.2 in
    let v1 = ap (λ (h : Holder). h.view) c.load_node-loaded.ensures.view ∙ (λ i. after (lay i) (load_node 3) c.load_node-loaded.result (v0 i)) in
    let v2 = ap (λ (h : Holder). h.view) c.set_bit-bit.ensures.view ∙ (λ i. after (lay i) (set_bit 3 0) c.set_bit-bit.result (v1 i)) in
    let v3 = ap (λ (h : Holder). h.view) c.set_summary-summary.ensures.view ∙ (λ i. after (lay i) (set_summary 3 0) c.set_summary-summary.result (v2 i)) in
    let v4 = ap (λ (h : Holder). h.view) c.set_attached-made.ensures.view ∙ (λ i. after (lay i) (set_attached 0) c.set_attached-made.result (v3 i)) in
    let v5 = ap (λ (h : Holder). h.view) c.add_draw-on.ensures.view ∙ (λ i. after (lay i) (draw 4 0) c.add_draw-on.result (v4 i)) in
    let v6 = ap (λ (h : Holder). h.view) c.set_off-off.ensures.view ∙ (λ i. after (lay i) (set_off 0) c.set_off-off.result (v5 i)) in
    let alive : (disposed c.set_attached-made.result == 1) ≡ false = search rules in
    let found : live c.add_draw-on.result ≡ true = search rules in
    let kept : (disposed c.set_off-off.result == 1) ≡ false = search rules in
    (search rules, inside (draw 5 0) _ _ _ _ lay v6 (may_miss c.load_node-loaded.result c.set_bit-bit.result c.set_summary-summary.result c.set_attached-made.result c.add_draw-on.result c.set_off-off.result alive found kept))

pub load_row-row-requires : goal.load_row-row-requires
load_row-row-requires c =
    let lay : c.args.core.now.layout ≡ one_binding = c.requires.1 in
    let v0 = ap (λ (h : Holder). h.view) c.split-q.ensures.old ∙ ap (λ (v : View). halved v) c.requires.2 in
    let v1 = ap (λ (h : Holder). h.view) c.load_node-loaded.ensures.view ∙ (λ i. after (lay i) (load_node 3) c.load_node-loaded.result (v0 i)) in
    let v2 = ap (λ (h : Holder). h.view) c.set_bit-bit.ensures.view ∙ (λ i. after (lay i) (set_bit 3 0) c.set_bit-bit.result (v1 i)) in
    let v3 = ap (λ (h : Holder). h.view) c.set_summary-summary.ensures.view ∙ (λ i. after (lay i) (set_summary 3 0) c.set_summary-summary.result (v2 i)) in
    let v4 = ap (λ (h : Holder). h.view) c.set_attached-made.ensures.view ∙ (λ i. after (lay i) (set_attached 0) c.set_attached-made.result (v3 i)) in
    let v5 = ap (λ (h : Holder). h.view) c.add_draw-on.ensures.view ∙ (λ i. after (lay i) (draw 4 0) c.add_draw-on.result (v4 i)) in
    let v6 = ap (λ (h : Holder). h.view) c.set_off-off.ensures.view ∙ (λ i. after (lay i) (set_off 0) c.set_off-off.result (v5 i)) in
    let v7 = ap (λ (h : Holder). h.view) c.add_draw-missed.ensures.view ∙ (λ i. after (lay i) (draw 5 0) c.add_draw-missed.result (v6 i)) in
    let v8 = ap (λ (h : Holder). h.view) c.clear_off-back.ensures.view ∙ (λ i. after (lay i) (clear_off 0) c.clear_off-back.result (v7 i)) in
    let v9 = ap (λ (h : Holder). h.view) c.load_node-again.ensures.view ∙ (λ i. after (lay i) (load_node 3) c.load_node-again.result (v8 i)) in
    let bit : (bit_of c.load_node-again.result 0 == 1) ≡ true = search rules in
    (search rules, may_row _ _ _ c.load_node-again.result lay v9 refl (bit_there c.load_node-again.result 0 bit))

pub load_binding-looked-requires : goal.load_binding-looked-requires
load_binding-looked-requires c =
    let lay : c.args.core.now.layout ≡ one_binding = c.requires.1 in
    let v0 = ap (λ (h : Holder). h.view) c.split-q.ensures.new ∙ ap (λ (v : View). newcomer v) c.requires.2 in
    (search rules, inside (load_binding 6 0) _ _ _ _ lay v0 (may_look))

pub clear_bit-cleared-requires : goal.clear_bit-cleared-requires
clear_bit-cleared-requires c =
    let lay : c.args.core.now.layout ≡ one_binding = c.requires.1 in
    let v0 = ap (λ (h : Holder). h.view) c.split-q.ensures.new ∙ ap (λ (v : View). newcomer v) c.requires.2 in
    let v1 = ap (λ (h : Holder). h.view) c.load_binding-looked.ensures.view ∙ (λ i. after (lay i) (load_binding 6 0) c.load_binding-looked.result (v0 i)) in
    let dead : (disposed c.load_binding-looked.result == 1) ≡ true = search rules in
    (search rules, inside (clear_bit 3 0) _ _ _ _ lay v1 (may_clear c.load_binding-looked.result dead))

pub add_answer-answer-requires : goal.add_answer-answer-requires
add_answer-answer-requires c =
    let lay : c.args.core.now.layout ≡ one_binding = c.requires.1 in
    let v0 = ap (λ (h : Holder). h.view) c.split-q.ensures.new ∙ ap (λ (v : View). newcomer v) c.requires.2 in
    let v1 = ap (λ (h : Holder). h.view) c.load_binding-looked.ensures.view ∙ (λ i. after (lay i) (load_binding 6 0) c.load_binding-looked.result (v0 i)) in
    let v2 = ap (λ (h : Holder). h.view) c.clear_bit-cleared.ensures.view ∙ (λ i. after (lay i) (clear_bit 3 0) c.clear_bit-cleared.result (v1 i)) in
    (search rules, inside (count_answer 0) _ _ _ _ lay v2 (may_answer c.load_binding-looked.result c.clear_bit-cleared.result))

pub load_answers-answers-requires : goal.load_answers-answers-requires
load_answers-answers-requires c =
    let lay : c.args.core.now.layout ≡ one_binding = c.requires.1 in
    let v0 = ap (λ (h : Holder). h.view) c.split-q.ensures.old ∙ ap (λ (v : View). halved v) c.requires.2 in
    let v1 = ap (λ (h : Holder). h.view) c.load_node-loaded.ensures.view ∙ (λ i. after (lay i) (load_node 3) c.load_node-loaded.result (v0 i)) in
    let v2 = ap (λ (h : Holder). h.view) c.set_bit-bit.ensures.view ∙ (λ i. after (lay i) (set_bit 3 0) c.set_bit-bit.result (v1 i)) in
    let v3 = ap (λ (h : Holder). h.view) c.set_summary-summary.ensures.view ∙ (λ i. after (lay i) (set_summary 3 0) c.set_summary-summary.result (v2 i)) in
    let v4 = ap (λ (h : Holder). h.view) c.set_attached-made.ensures.view ∙ (λ i. after (lay i) (set_attached 0) c.set_attached-made.result (v3 i)) in
    let v5 = ap (λ (h : Holder). h.view) c.add_draw-on.ensures.view ∙ (λ i. after (lay i) (draw 4 0) c.add_draw-on.result (v4 i)) in
    let v6 = ap (λ (h : Holder). h.view) c.set_off-off.ensures.view ∙ (λ i. after (lay i) (set_off 0) c.set_off-off.result (v5 i)) in
    let v7 = ap (λ (h : Holder). h.view) c.add_draw-missed.ensures.view ∙ (λ i. after (lay i) (draw 5 0) c.add_draw-missed.result (v6 i)) in
    let v8 = ap (λ (h : Holder). h.view) c.clear_off-back.ensures.view ∙ (λ i. after (lay i) (clear_off 0) c.clear_off-back.result (v7 i)) in
    let v9 = ap (λ (h : Holder). h.view) c.load_node-again.ensures.view ∙ (λ i. after (lay i) (load_node 3) c.load_node-again.result (v8 i)) in
    let v10 = ap (λ (h : Holder). h.view) c.load_row-row.ensures.view ∙ (λ i. after (lay i) (load_row 3 0) c.load_row-row.result (v9 i)) in
    let v11 = ap (λ (h : Holder). h.view) c.set_disposed-gone.ensures.view ∙ (λ i. after (lay i) (set_disposed 0) c.set_disposed-gone.result (v10 i)) in
    (search rules, ask _ _ _ lay v11 refl)
