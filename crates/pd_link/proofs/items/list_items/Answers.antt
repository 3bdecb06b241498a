use Rattle.std.proofs.Common.{◌≡◌, sym, ◌∙◌, ap, ◌+◌, ◌<◌, ◌++◌, List, ◌∷◌, length, drop, Some, arith}
use Rattle.std.proofs.lemmas.List.{drop_more}
use Rattle.pd_tree.specs.Program.{Item}
use Rattle.pd_tree.specs.Kinds.{root_name_of}
use Rattle.pd_tree.specs.Linked.{items_of, items_from}
use Rattle.pd_tree.specs.Kept.{items_in}
use Rattle.pd_link.proofs.Listed.{items-push, beside-push, items-root, items-other}
use Rattle.pd_link.proofs.items.list_items.Goals as goal
use Rattle.pd_link.proofs.items.list_items.Goals.{in-Some+in_ok-copy+in_ok-push+in_ok-push-2, in_default}

pub loop-n-preserved : goal.loop-n-preserved
loop-n-preserved c =
    let n = c.loop-n.n in
    let all = c.args.all.now in
    let a = c.index-all-n.result in
    let rest = drop (n + 1) all in
    let below : n < length all = omega arith in
    let e : drop n all ≡ a ∷ rest = drop_more all n a below ∙ ap (λ x. x ∷ rest) (sym c.index-all-n.is) in
    let so_far : items_in c.loop-n.names.items c.loop-n.roots.items ++ items_from n (a ∷ rest) ≡ items_of all =
    ap (λ xs. items_in c.loop-n.names.items c.loop-n.roots.items ++ items_from n xs) (sym e) ∙ c.loop-n.invariant.items in
    let kept = λ (xs : List Item). items_in c.loop-n.names.items c.loop-n.roots.items ++ xs in
    elim c.match-root_name.branch [
      | in-Some+in_ok-copy+in_ok-push+in_ok-push-2 w ↦
          let is = w.in-Some.ensures in
          let pushed = items-push c.loop-n.names.items c.loop-n.roots.items (root_name_of a.kind) (Some n) (items_from (n + 1) rest) c.loop-n.invariant.beside in
          record {
            items = rw (w.names-is, w.roots-is, w.in_ok-push.ensures.items, w.in_ok-push-2.ensures.items, w.in_ok-copy.ensures, is.1)
                (pushed ∙ ap kept (sym (items-root n a rest is.0)) ∙ so_far);
            beside = rw (w.names-is, w.roots-is, w.in_ok-push.ensures.items, w.in_ok-push-2.ensures.items, w.in_ok-copy.ensures, is.1)
                (beside-push c.loop-n.names.items c.loop-n.roots.items (root_name_of a.kind) (Some n) c.loop-n.invariant.beside);
          }
      | in_default w ↦
          record {
            items = rw (w.names-is, w.roots-is) (ap kept (sym (items-other n a rest w.in_default.ensures)) ∙ so_far);
            beside = rw (w.names-is, w.roots-is) c.loop-n.invariant.beside;
          }
    ]
