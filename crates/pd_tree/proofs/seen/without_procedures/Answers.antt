use Rattle.std.proofs.Common.{◌≡◌, ◌∙◌, ap, sym, ◌+◌, drop, get_or}
use Rattle.std.proofs.lemmas.List.{drop_all, get_or_read}
use Rattle.pd_tree.specs.Linked.{without_all, procedure_names}
use Rattle.pd_tree.specs.Seen.{without_part}
use Rattle.pd_tree.proofs.Variables.{part-next, kind-found, kind-past}
use Rattle.pd_tree.proofs.seen.without_procedures.Goals as goal
use Rattle.pd_tree.proofs.seen.without_procedures.Goals.{then-n-all+in_ok-seen, else-n-all}

pub loop-part-preserved : goal.loop-part-preserved
loop-part-preserved c =
    let all = c.args.all.now in
    let parts = c.args.parts.now in
    let i = c.loop-part.part-index in
    let m = c.part.inside.0 in
    let at : m ≡ get_or parts i m = c.part.view_is ∙ get_or_read parts i c.part-item.result c.loop-part-test.true c.part-item.is m in
    let before = c.loop-part.seen.items in
    let rest = procedure_names all (drop (i + 1) parts) in
    let next = part-next all parts i m before c.loop-part-test.true at in
    elim c.if-n-all.branch [
      | then-n-all+in_ok-seen w ↦
          let kind = kind-found all m w.index-all-n.result w.if-n-all.true in
          rw w.seen-is (ap (without_all rest) (w.in_ok-seen.ensures ∙ ap (λ k. without_part k before) (sym kind)) ∙ next ∙ c.loop-part.invariant)
      | else-n-all w ↦
          let past = kind-past all m w.if-n-all.false in
          rw w.seen-is (ap (λ k. without_all rest (without_part k before)) (sym past) ∙ next ∙ c.loop-part.invariant)
    ]

pub returns : goal.returns
returns c =
    let done = drop_all c.loop-part.part-index c.args.parts.now c.loop-part-test.false in
    sym (ap (λ ms. without_all (procedure_names c.args.all.now ms) c.loop-part.seen.items) done) ∙ c.loop-part.invariant
