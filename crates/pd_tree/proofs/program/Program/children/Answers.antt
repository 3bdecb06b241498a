use Rattle.std.proofs.Common.{◌<◌, ◌∙◌, ap, length, arith}
use Rattle.std.proofs.lemmas.List.{get_or_read}
use Rattle.pd_tree.specs.Kept.{no_place, stretch}
use Rattle.pd_tree.proofs.Kept.{below-kept, node-kept, children-kept}
use Rattle.pd_tree.proofs.program.Program.children.Goals as goal

pub index-requires : goal.index-requires
index-requires c =
    let i = c.self.inside in
    let below : c.n.inside.0 < length i.additions.items = below-kept i.parts.items i.changes.items i.additions.items i.places.items i.names.items i.roots.items i.mains.items i.entries.items c.args.self.now c.args.n c.n.inside.0 c.self.view_is c.n.view_is c.requires c.self.invariant.0.nodes in
    omega (arith, i.places.ok.0, c.self.invariant.0.nodes)

pub stretch-requires : goal.stretch-requires
stretch-requires c =
    let i = c.self.inside in
    let below : c.n.inside.0 < length i.additions.items = below-kept i.parts.items i.changes.items i.additions.items i.places.items i.names.items i.roots.items i.mains.items i.entries.items c.args.self.now c.args.n c.n.inside.0 c.self.view_is c.n.view_is c.requires c.self.invariant.0.nodes in
    let inside : c.n.inside.0 < length i.places.items = omega (arith, c.self.invariant.0.nodes) in
    let within = children-kept i.parts.items i.changes.items c.index.result.now _ (get_or_read i.places.items _ _ inside c.index.ensures no_place) (c.self.invariant.0.within c.n.inside.0 inside) in
    rw c.deref.ensures.value within

pub returns : goal.returns
returns c =
    let i = c.self.inside in
    let below : c.n.inside.0 < length i.additions.items = below-kept i.parts.items i.changes.items i.additions.items i.places.items i.names.items i.roots.items i.mains.items i.entries.items c.args.self.now c.args.n c.n.inside.0 c.self.view_is c.n.view_is c.requires c.self.invariant.0.nodes in
    let inside : c.n.inside.0 < length i.places.items = omega (arith, c.self.invariant.0.nodes) in
    c.stretch.ensures
    ∙ ap (λ xs. stretch c.index.result.now.parts xs) c.deref.ensures.value
    ∙ ap (λ place. stretch place.parts i.parts.items) (get_or_read i.places.items _ _ inside c.index.ensures no_place)
    ∙ ap (λ node. node.children) (node-kept i.parts.items i.changes.items i.additions.items i.places.items i.names.items i.roots.items i.mains.items i.entries.items c.args.self.now c.args.n c.n.inside.0 c.self.view_is c.n.view_is below c.self.invariant.0.nodes)
