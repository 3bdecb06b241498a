use Rattle.std.proofs.Common.{◌≡◌, ◌∙◌, ap, sym, ◌<◌, [], ◌∷◌, length, take, drop, get_or, arith}
use Rattle.std.specs.List.{insert}
use Rattle.std.proofs.lemmas.List.{get_or_read, append_assoc}
use Rattle.pd_tree.specs.declared.kind.Visible.{Visible}
use Rattle.pd_tree.specs.Seen.{slots_before}
use Rattle.pd_tree.proofs.Variables.{inserted-there, inserted-new}
use Rattle.pd_tree.proofs.seen.with_assigned.Goals as goal
use Rattle.pd_tree.proofs.seen.with_assigned.Goals.{else-at-len-via-then-at-len+else-index-slot, else-at-len-via-else-at-len}

pub returns-then-index-slot : goal.returns-then-index-slot
returns-then-index-slot c =
    let seen = c.args.seen.items in
    let x = c.index.result.now in
    let v : Visible = record { name = c.args.name.now; up = 0; slot = c.args.slot } in
    let at : c.slots_before-at.result ≡ slots_before c.args.slot seen = c.slots_before-at.ensures.count ∙ ap (slots_before c.args.slot) c.as_slice.ensures.value in
    let within : slots_before c.args.slot seen < length seen = omega (arith, c.len.ensures, c.if-at-len.true) in
    let here : x ≡ get_or seen (slots_before c.args.slot seen) x =
    get_or_read seen c.slots_before-at.result x (omega (arith, at, within)) c.index.ensures x ∙ ap (λ k. get_or seen k x) at in
    sym (inserted-there v seen x within here (omega arith))

pub returns : goal.returns
returns c =
    let seen = c.args.seen.items in
    let v : Visible = record { name = c.args.name.now; up = 0; slot = c.args.slot } in
    let at : c.slots_before-at.result ≡ slots_before c.args.slot seen = c.slots_before-at.ensures.count ∙ ap (slots_before c.args.slot) c.as_slice.ensures.value in
    let apart : slots_before v.slot seen < length seen → (get_or seen (slots_before v.slot seen) v).slot ≡ v.slot → ⊥ = λ lt e. elim c.else-at-len.branch [
      | else-at-len-via-then-at-len+else-index-slot w ↦
          let here : w.index.result.now ≡ get_or seen (slots_before c.args.slot seen) v =
          get_or_read seen c.slots_before-at.result w.index.result.now (omega (arith, at, lt)) w.index.ensures v ∙ ap (λ k. get_or seen k v) at in
          let slot = ap (λ (x : Visible). x.slot) here in
          omega arith
      | else-at-len-via-else-at-len w ↦ omega (arith, at, lt, c.len.ensures)
    ] in
    let named = ap (λ n. let x : Visible = record { name = n; up = 0; slot = c.args.slot } in insert seen c.slots_before-at.result x) c.in_ok-copy.ensures in
    c.in_ok-insert.ensures.items
    ∙ named
    ∙ ap (λ k. insert seen k v) at
    ∙ sym (append_assoc (take (slots_before c.args.slot seen) seen) (v ∷ []) (drop (slots_before c.args.slot seen) seen))
    ∙ sym (inserted-new v seen apart)
