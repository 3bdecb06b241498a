use Rattle.std.proofs.Common.{◌≡◌, ◌∙◌, ◌<◌, ◌^◌, refl, sym, ap, subst, ℕ, List, length, arith}
use Rattle.std.proofs.lemmas.List.{get_or_read}
use Rattle.pd_tree.specs.declared.kind.Kind.{Kind}
use Rattle.pd_tree.specs.declared.addition.Addition.{Addition}
use Rattle.pd_tree.specs.Linked.{no_addition, kind_at, names_in, next_root, next_level, seen_inside}
use Rattle.pd_tree.specs.Kept.{list_at}
use Rattle.pd_link.specs.Walks.{AllOpenAt, Sees, walk_of}
use Rattle.pd_link.proofs.Variables.{within-grew}
use Rattle.pd_link.proofs.Opens.{opened_in-grow}
use Rattle.pd_link.proofs.Steps.{opens-more, opens-entered-below, opens-next, stepped}
use Rattle.pd_link.proofs.walk.Walker.step.Goals as goal

pub slots-requires : goal.slots-requires
slots-requires c =
    let a = c.index-all-n.result in
    let at : a ≡ _ = get_or_read c.args.all.now c.args.n a c.requires.within c.index-all-n.is no_addition in
    let P : Kind → Type 0 = λ k. length (names_in k) < 2 ^ 32 in
    subst P (sym (ap (λ (x : Addition). x.kind) at)) c.requires.names

pub stands-stands-requires : goal.stands-stands-requires
stands-stands-requires c = opens-more c.args.n (length c.args.all.now) (walk_of c.args.all.now c.args.self.now).open_nodes (omega arith) c.requires.kept.open_nodes

pub level-level-requires-clause-near : goal.level-level-requires-clause-near
level-level-requires-clause-near c = opens-more c.args.n 65536 (walk_of c.args.all.now c.args.self.now).open_nodes (omega arith) c.requires.kept.open_nodes

pub enter-requires-clause-opened : goal.enter-requires-clause-opened
enter-requires-clause-opened c =
    let a = c.index-all-n.result in
    let at = get_or_read c.args.all.now c.args.n a c.requires.within c.index-all-n.is no_addition in
    let inside = c.in_ok-inside.ensures c.args.all.now (ap (λ (x : Addition). x.kind) at) in
    opened_in-grow c.args.self.now.changes.items c.seen_inside.new.changes.items c.args.self.now.opened.items inside.grew c.requires.kept.opened_within

pub enter-requires-clause-outside : goal.enter-requires-clause-outside
enter-requires-clause-outside c =
    let a = c.index-all-n.result in
    let at = get_or_read c.args.all.now c.args.n a c.requires.within c.index-all-n.is no_addition in
    let inside = c.in_ok-inside.ensures c.args.all.now (ap (λ (x : Addition). x.kind) at) in
    within-grew c.args.self.now.changes.items c.seen_inside.new.changes.items c.args.self.now.seen inside.grew c.requires.kept.seen_within

pub enter-requires-clause-inside : goal.enter-requires-clause-inside
enter-requires-clause-inside c =
    let a = c.index-all-n.result in
    let at = get_or_read c.args.all.now c.args.n a c.requires.within c.index-all-n.is no_addition in
    (c.in_ok-inside.ensures c.args.all.now (ap (λ (x : Addition). x.kind) at)).within

pub enter-requires-clause-nodes : goal.enter-requires-clause-nodes
enter-requires-clause-nodes c =
    let all = c.args.all.now in
    let n = c.args.n in
    let old = c.args.self.now in
    let a = c.index-all-n.result in
    let w = walk_of all old in
    let kind : a.kind ≡ kind_at all n = ap (λ (x : Addition). x.kind) (get_or_read all n a c.requires.within c.index-all-n.is no_addition) in
    let inside = c.in_ok-inside.ensures all kind in
    let next = opens-next all n a old.opened.items old.seen old.changes.items c.seen_inside.new.changes.items c.root-root.result c.level-level.result inside.grew c.requires.kept.opened_within c.requires.kept.seen_within
    (c.root-root.ensures ∙ ap (λ k. next_root k n w.open_nodes) (sym kind)) (c.level-level.ensures ∙ ap (λ k. next_level k w.open_nodes) (sym kind)) in
    subst (AllOpenAt (length all)) (sym next)
    (opens-entered-below n (length all) a w c.requires.within c.requires.kept.open_nodes)

pub returns : goal.returns
returns c =
    let all = c.args.all.now in
    let n = c.args.n in
    let a = c.index-all-n.result in
    let old = c.args.self.now in
    let w = walk_of all old in
    let first = c.seen_inside.new.changes.items in
    let at = get_or_read all n a c.requires.within c.index-all-n.is no_addition in
    let kind : a.kind ≡ kind_at all n = ap (λ (x : Addition). x.kind) at in
    let P : List (List ℕ) → Type 0 = λ l. Sees all old.changes.items first c.in_ok-inside.inside (seen_inside a.kind l (list_at all old.changes.items old.seen)) in
    stepped all n c.args.found c.args.parts.now c.args.shape a old c.enter.new.self first c.in_ok-inside.inside _
    at c.requires.kept c.requires.parts
    (subst P (sym (ap (λ (x : Addition). x.constants) at)) (c.in_ok-inside.ensures all kind))
    refl c.seen_at.ensures c.linked.ensures c.stands-stands.ensures
    (c.root-root.ensures ∙ ap (λ k. next_root k n w.open_nodes) (sym kind))
    (c.level-level.ensures ∙ ap (λ k. next_level k w.open_nodes) (sym kind))
    c.in_ok-slots.ensures c.in_ok-enter.ensures
