use Rattle.std.proofs.Common.{◌++◌, ◌<◌, length, string_bytes, sym, ap, ◌∙◌, arith}
use Rattle.pd_suspend.specs.declared.context.ContextRecord.{ContextRecord}
use Rattle.pd_paths.specs.Text.{tree_text}
use Rattle.pd_calltree.proofs.Texts.{text_more, text_over}
use Rattle.pd_calltree.proofs.text.push_trees.Goals as goal

pub loop-number-preserved : goal.loop-number-preserved
loop-number-preserved c =
    let k = c.loop-number.number in
    let r = c.index-contexts-number in
    let t = c.index-trees-number in
    let within : k < length c.args.contexts.now = omega arith in
    let inside : k < length c.args.trees.now = omega arith in
    text_more c.args.program.now c.args.contexts.now c.args.trees.now k r.result t.result (string_bytes c.args.text.now) (string_bytes c.loop-number.text) (string_bytes c.push_tree.new.text) within inside r.is t.is c.loop-number.invariant
    (c.in_ok-push_tree.ensures
    ∙ ap (λ (y : ContextRecord). string_bytes c.loop-number.text ++ tree_text c.args.program.now k y.events c.as_slice.result.now) (sym r.is)
    ∙ ap (λ x. string_bytes c.loop-number.text ++ tree_text c.args.program.now k r.result.events x) c.as_slice.ensures)

pub returns : goal.returns
returns c =
    let k = c.loop-number.number in
    let over : k < length c.args.contexts.now → k < length c.args.trees.now → ⊥ = λ a b. omega (arith, a, b) in
    text_over c.args.program.now c.args.contexts.now c.args.trees.now k (string_bytes c.args.text.now) (string_bytes c.loop-number.text) over c.loop-number.invariant
