use Rattle.std.proofs.Common.{◌≡◌, ◌∙◌, ap, sym, ℕ, ◌+◌, true, false, cond, List, [], ◌∷◌, ◌++◌, length, drop, Some, is_some, arith}
use Rattle.std.proofs.lemmas.List.{length_push}
use Rattle.std.proofs.lemmas.Map.Text.{btree_map_updates_str}
use Rattle.std.specs.BTreeMap.{get_by}
use Rattle.std.specs.Cmp.Lexicographic.{slice_cmp}
use Rattle.std.specs.Ordering.{nat_cmp}
use Rattle.std.specs.Str.{bytes_eq}
use Rattle.pd_tree.specs.declared.kind.Visible.{Visible}
use Rattle.pd_tree.specs.Linked.{sees_name, with_parameters}
use Rattle.pd_tree.proofs.Variables.{front, known-more, parameters-next, parameters-known}
use Rattle.pd_tree.proofs.seen.parameters_seen.Goals as goal
use Rattle.pd_tree.proofs.seen.parameters_seen.Goals.{then-not-contains_key+in_ok-insert+in_ok-copy+in_ok-push, else-not-contains_key}

pub loop-x-preserved : goal.loop-x-preserved
loop-x-preserved c =
    let inv = c.loop-x.invariant in
    let old = c.loop-x.known in
    let seen = c.loop-x.seen.items in
    let x = c.x-item.result in
    let rest = drop (c.loop-x.x-index + 1) c.args.parameters.now in
    let name = c.as_str-name.result.now in
    let next = ap (with_parameters seen) (front c.args.parameters.now c.loop-x.x-index x c.loop-x-test.true c.x-item.is) in
    let asked : sees_name x seen ≡ c.contains_key.result =
    inv.known x ∙ ap (λ t. is_some (get_by (λ k. slice_cmp nat_cmp t k.now) old)) (sym c.as_str-name.ensures) ∙ sym c.contains_key.ensures in
    elim c.if-not-contains_key.branch [
      | then-not-contains_key+in_ok-insert+in_ok-copy+in_ok-push w ↦
          let made : List ℕ → ℕ → Visible = λ n s. record { name = n; up = 0; slot = s } in
          let v : Visible = made x (length seen) in
          let slot : w.len.result ≡ length seen = omega (arith, w.len.ensures, c.loop-x.seen.ok.0) in
          let pushed : c.if-not-contains_key.seen.items ≡ seen ++ v ∷ [] =
          rw w.seen-is w.in_ok-push.ensures.items ∙ ap (λ n. seen ++ made n w.len.result ∷ []) w.in_ok-copy.ensures ∙ ap (λ s. seen ++ made x s ∷ []) slot in
          record {
            seen = ap (λ l. with_parameters l rest) pushed ∙ sym (next ∙ parameters-next seen x rest (asked ∙ w.if-not-contains_key.true)) ∙ inv.seen;
            few = omega (arith, ap length pushed, length_push seen v, inv.few);
            known = λ q.
                let sets = btree_map_updates_str name old w.insert.new.self (Some tt) w.in_ok-insert.ensures.updates q
                ∙ ap (λ t. cond (bytes_eq t q) (Some tt) (get_by (λ k. slice_cmp nat_cmp q k.now) old)) c.as_str-name.ensures in
                ap (sees_name q) pushed
                ∙ known-more q seen v tt (get_by (λ k. slice_cmp nat_cmp q k.now) old) (get_by (λ k. slice_cmp nat_cmp q k.now) w.insert.new.self) sets (inv.known q)
                ∙ ap (λ m. is_some (get_by (λ k. slice_cmp nat_cmp q k.now) m)) (sym w.known-is);
          }
      | else-not-contains_key w ↦
          record {
            seen = rw w.seen-is (sym (next ∙ parameters-known seen x rest (asked ∙ w.if-not-contains_key.false)) ∙ inv.seen);
            few = rw w.seen-is (omega (arith, inv.few));
            known = λ q. rw (w.seen-is, w.known-is) (inv.known q);
          }
    ]
