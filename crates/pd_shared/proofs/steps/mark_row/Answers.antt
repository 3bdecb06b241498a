use Rattle.std.proofs.Common.{rules, ◌/◌, ◌≡◌, ◌<◌, refl, sym, ap, ◌∙◌, subst, length, List, ℕ}
use Rattle.std.specs.Prelude.{slice_index}
use Rattle.pd_core.specs.Kinds.{Found, set_summary}
use Rattle.pd_core.specs.Tokens.{Holder}
use Rattle.pd_shared.specs.Steps.{HasMarked}
use Rattle.pd_shared.proofs.MarkLemmas.{marked_start, may_mark, may_sum, marked_more, item_read}
use Rattle.pd_shared.proofs.steps.mark_row.Goals as goal

pub loop-n-init : goal.loop-n-init
loop-n-init c = (refl, marked_start c.args.core.now.layout c.args.b c.args.pass.now.view c.requires.idle.0 c.requires.idle.1)

pub set_bit-requires : goal.set_bit-requires
set_bit-requires c =
    let within = subst (λ (xs : List ℕ). c.loop-n.n-index < length xs) c.requires.row c.loop-n-test.true in
    let here = item_read c.args.nodes.now c.loop-n.n-index c.n-item.result c.loop-n-test.true c.n-item.is ∙ sym c.n.view_is in
    let is = subst (λ (xs : List ℕ). slice_index xs c.loop-n.n-index ≡ c.n.inside.0) c.requires.row here in
    let node = subst (λ (i : ℕ). i < c.args.core.now.layout.nodes) is (c.requires.sound.1 c.args.b c.loop-n.n-index within) in (
      c.loop-n.invariant.0 ∙ c.requires.id,
      may_mark c.args.core.now.layout c.n.inside.0 c.args.b c.loop-n.n-index c.loop-n.pass.view c.requires.binding node within is c.loop-n.invariant.1.past c.loop-n.invariant.1.whole,
    )

pub set_summary-requires : goal.set_summary-requires
set_summary-requires c =
    let within = subst (λ (xs : List ℕ). c.loop-n.n-index < length xs) c.requires.row c.loop-n-test.true in
    let here = item_read c.args.nodes.now c.loop-n.n-index c.n-item.result c.loop-n-test.true c.n-item.is ∙ sym c.n.view_is in
    let is = subst (λ (xs : List ℕ). slice_index xs c.loop-n.n-index ≡ c.n.inside.0) c.requires.row here in
    let node = subst (λ (i : ℕ). i < c.args.core.now.layout.nodes) is (c.requires.sound.1 c.args.b c.loop-n.n-index within) in (
      ap (λ (h : Holder). h.id) c.set_bit.ensures.view ∙ (c.loop-n.invariant.0 ∙ c.requires.id),
      rw (c.set_bit.ensures.view) (may_sum c.args.core.now.layout c.n.inside.0 c.args.b c.loop-n.n-index c.set_bit.result c.loop-n.pass.view c.requires.binding node within is c.loop-n.invariant.1.past),
    )

pub loop-n-preserved : goal.loop-n-preserved
loop-n-preserved c =
    let here = item_read c.args.nodes.now c.loop-n.n-index c.n-item.result c.loop-n-test.true c.n-item.is ∙ sym c.n.view_is in
    let is = subst (λ (xs : List ℕ). slice_index xs c.loop-n.n-index ≡ c.n.inside.0) c.requires.row here in
    let summary = subst (λ (h : Holder). Found c.args.core.now.layout (set_summary c.n.inside.0 (c.args.b / 64)) h.view c.set_summary.result) c.set_bit.ensures.view c.set_summary.ensures.found in (
      ap (λ (h : Holder). h.id) c.set_summary.ensures.view ∙ (ap (λ (h : Holder). h.id) c.set_bit.ensures.view ∙ c.loop-n.invariant.0),
      rw (c.set_summary.ensures.view, c.set_bit.ensures.view) (marked_more c.args.core.now.layout c.n.inside.0 c.args.b c.loop-n.n-index c.set_bit.result c.set_summary.result c.args.pass.now.view c.loop-n.pass.view is c.set_bit.ensures.found summary c.loop-n.invariant.1),
    )

pub returns-clause-marked : goal.returns-clause-marked
returns-clause-marked c =
    let all : c.loop-n.n-index ≡ length c.args.nodes.now = search rules in
    subst (λ (k : ℕ). HasMarked c.args.core.now.layout c.args.b k c.args.pass.now.view c.loop-n.pass.view) (all ∙ ap length c.requires.row) c.loop-n.invariant.1
