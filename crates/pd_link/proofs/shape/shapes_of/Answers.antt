use Rattle.std.proofs.Common.{◌≡◌, refl, ◌∙◌, ap, subst, ◌+◌, ◌-◌, ◌≤◌, [], ◌∷◌, take, drop, reverse, length, arith}
use Rattle.std.proofs.lemmas.List.{length-reverse, reverse-append}
use Rattle.pd_tree.specs.Linked.{tops, AllComplete, more_slots}
use Rattle.pd_link.proofs.Lists.{drop-before}
use Rattle.pd_link.proofs.Shapes.{length-tops, complete-drop, shapes-step}
use Rattle.pd_link.proofs.shape.shapes_of.Goals as goal

pub take_tops-requires : goal.take_tops-requires
take_tops-requires c =
    let n = c.loop-n.n in
    let all = c.args.all.now in
    let e = drop-before n all c.index-all-n.result (omega arith) c.loop-n.invariant.within c.index-all-n.is in
    let complete = subst AllComplete e (complete-drop (n - 1) all c.requires.complete) in
    let enough = complete.0 in
    let same : length (reverse c.loop-n.tops.items) ≡ length (tops n (drop n all)) = ap length c.loop-n.invariant.tops in
    omega (arith, length-tops 0 n (drop n all), length-reverse c.loop-n.tops.items, c.loop-n.tops.ok.0)

pub more_slots-assigned-requires : goal.more_slots-assigned-requires
more_slots-assigned-requires c =
    let n = c.loop-n.n in
    let all = c.args.all.now in
    let e = drop-before n all c.index-all-n.result (omega arith) c.loop-n.invariant.within c.index-all-n.is in
    let complete = subst AllComplete e (complete-drop (n - 1) all c.requires.complete) in
    complete.3

pub loop-n-preserved : goal.loop-n-preserved
loop-n-preserved c =
    let n = c.loop-n.n in
    let all = c.args.all.now in
    let e = drop-before n all c.index-all-n.result (omega arith) c.loop-n.invariant.within c.index-all-n.is in
    let complete = subst AllComplete e (complete-drop (n - 1) all c.requires.complete) in
    let enough : c.index-all-n.result.children ≤ length (tops n (drop n all)) = omega (arith, length-tops 0 n (drop n all), complete.0) in
    let next : n ≡ n - 1 + 1 = omega arith in
    let moved = ap (λ xs. take c.index-all-n.result.children xs) c.loop-n.invariant.tops in
    let left = ap (λ xs. drop c.index-all-n.result.children xs) c.loop-n.invariant.tops in
    record {
      shapes = rw (e, c.in_ok-take_tops.ensures.moved, c.in_ok-push-2.ensures.items, moved)
          (shapes-step n (n - 1) c.index-all-n.result (drop n all) c.loop-n.parts.items c.loop-n.shapes.items _ next c.loop-n.invariant.shapes (omega (arith, c.len-from.ensures, c.loop-n.parts.ok.0)) refl c.loop-n.invariant.assigned enough);
      tops = rw (e, c.in_ok-push.ensures.items)
          (reverse-append c.take_tops.new.tops.items ((n - 1) ∷ []) ∙ ap (λ xs. (n - 1) ∷ xs) (c.in_ok-take_tops.ensures.rest ∙ left ∙ ap (λ k. drop c.index-all-n.result.children (tops k (drop n all))) next));
      assigned = rw e (c.more_slots-assigned.ensures ∙ ap (more_slots c.index-all-n.result.kind c.index-all-n.result.meaning) c.loop-n.invariant.assigned);
      fits = c.more_slots-assigned.type_inv;
      within = omega arith;
    }
