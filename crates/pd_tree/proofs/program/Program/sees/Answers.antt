use Rattle.std.proofs.Common.{◌≡◌, ◌<◌, ◌∙◌, ap, subst, List, length, slice_index_or, IfOk, arith}
use Rattle.std.proofs.lemmas.List.{get_or_read, get_or_default}
use Rattle.pd_tree.specs.declared.addition.Addition.{Addition}
use Rattle.pd_tree.specs.declared.kind.Visible.{Visible}
use Rattle.pd_tree.specs.Program.{node_at}
use Rattle.pd_tree.specs.Linked.{no_addition, procedure_names}
use Rattle.pd_tree.specs.Kept.{no_place, stretch, list_at, seen_by}
use Rattle.pd_tree.proofs.Kept.{below-kept, node-kept, children-kept, sees-kept, seen-kept}
use Rattle.pd_tree.proofs.program.Program.sees.Goals as goal

pub index-place-requires : goal.index-place-requires
index-place-requires c =
    let i = c.self.inside in
    let below : c.n.inside.0 < length i.additions.items = below-kept i.parts.items i.changes.items i.additions.items i.places.items i.names.items i.roots.items i.mains.items i.entries.items c.args.self.now c.args.n c.n.inside.0 c.self.view_is c.n.view_is c.requires c.self.invariant.0.nodes in
    omega (arith, i.places.ok.0, c.self.invariant.0.nodes)

pub list_of-requires-clause-within : goal.list_of-requires-clause-within
list_of-requires-clause-within c =
    let i = c.self.inside in
    let below : c.n.inside.0 < length i.additions.items = below-kept i.parts.items i.changes.items i.additions.items i.places.items i.names.items i.roots.items i.mains.items i.entries.items c.args.self.now c.args.n c.n.inside.0 c.self.view_is c.n.view_is c.requires c.self.invariant.0.nodes in
    let inside : c.n.inside.0 < length i.places.items = omega (arith, c.self.invariant.0.nodes) in
    let within = sees-kept i.parts.items i.changes.items c.index-place.result.now _ (get_or_read i.places.items _ _ inside c.index-place.ensures no_place) (c.self.invariant.0.within c.n.inside.0 inside) in
    rw c.as_slice.ensures.value within

pub stretch-parts-requires : goal.stretch-parts-requires
stretch-parts-requires c =
    let i = c.self.inside in
    let below : c.n.inside.0 < length i.additions.items = below-kept i.parts.items i.changes.items i.additions.items i.places.items i.names.items i.roots.items i.mains.items i.entries.items c.args.self.now c.args.n c.n.inside.0 c.self.view_is c.n.view_is c.requires c.self.invariant.0.nodes in
    let inside : c.n.inside.0 < length i.places.items = omega (arith, c.self.invariant.0.nodes) in
    let within = children-kept i.parts.items i.changes.items c.index-place.result.now _ (get_or_read i.places.items _ _ inside c.index-place.ensures no_place) (c.self.invariant.0.within c.n.inside.0 inside) in
    rw c.deref.ensures.value within

pub bounds-additions-n-inside : goal.bounds-additions-n-inside
bounds-additions-n-inside c =
    let i = c.self.inside in
    let below : c.n.inside.0 < length i.additions.items = below-kept i.parts.items i.changes.items i.additions.items i.places.items i.names.items i.roots.items i.mains.items i.entries.items c.args.self.now c.args.n c.n.inside.0 c.self.view_is c.n.view_is c.requires c.self.invariant.0.nodes in
    rw c.as_slice-additions.ensures.value below

pub returns : goal.returns
returns c =
    let i = c.self.inside in
    let all = i.additions.items in
    let n = c.n.inside.0 in
    let a = slice_index_or c.as_slice-additions.result.now n c.index-additions-n.result in
    let b = slice_index_or all n no_addition in
    let place = c.index-place.result.now in
    let own = c.stretch-parts.result.now in
    let seen = c.in_ok-seen.seen.items in
    let below : n < length all = below-kept i.parts.items i.changes.items all i.places.items i.names.items i.roots.items i.mains.items i.entries.items c.args.self.now c.args.n n c.self.view_is c.n.view_is c.requires c.self.invariant.0.nodes in
    let inside : n < length i.places.items = omega (arith, c.self.invariant.0.nodes) in
    let listed = c.as_slice-additions.ensures.value in
    let read : a ≡ b = get_or_default c.as_slice-additions.result.now n c.index-additions-n.result no_addition (rw listed below) ∙ ap (λ l. slice_index_or l n no_addition) listed in
    let made : seen ≡ list_at all i.changes.items place.sees =
    c.in_ok-seen.ensures ∙ ap (λ l. list_at l c.as_slice.result.now place.sees) listed ∙ ap (λ l. list_at all l place.sees) c.as_slice.ensures.value in
    let P : List Visible → Type 0 = λ l. IfOk c.seen_by.result (λ v. v.items ≡ l) in
    let same : seen_by a.kind (procedure_names c.as_slice-additions.result.now own) seen ≡ (node_at c.args.self.now c.args.n).sees =
    ap (λ (x : Addition). seen_by x.kind (procedure_names c.as_slice-additions.result.now own) seen) read
    ∙ ap (λ l. seen_by b.kind (procedure_names l own) seen) listed
    ∙ seen-kept i.parts.items i.changes.items all b place (slice_index_or i.places.items n no_place) _ own seen
    (node-kept i.parts.items i.changes.items all i.places.items i.names.items i.roots.items i.mains.items i.entries.items c.args.self.now c.args.n n c.self.view_is c.n.view_is below c.self.invariant.0.nodes)
    (get_or_read i.places.items n place inside c.index-place.ensures no_place)
    (c.stretch-parts.ensures ∙ ap (λ l. stretch place.parts l) c.deref.ensures.value)
    made in
    subst P same c.seen_by.ensures
