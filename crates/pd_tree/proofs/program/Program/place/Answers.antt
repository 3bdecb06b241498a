use Rattle.std.proofs.Common.{◌<◌, length, slice_index_or, arith}
use Rattle.std.proofs.lemmas.List.{get_or_read}
use Rattle.pd_tree.specs.Kept.{no_place}
use Rattle.pd_tree.specs.Linked.{no_addition}
use Rattle.pd_tree.proofs.Kept.{below-kept, node-kept, place-kept}
use Rattle.pd_tree.proofs.program.Program.place.Goals as goal

pub index-requires : goal.index-requires
index-requires c =
    let i = c.self.inside in
    let below : c.n.inside.0 < length i.additions.items = below-kept i.parts.items i.changes.items i.additions.items i.places.items i.names.items i.roots.items i.mains.items i.entries.items c.args.self.now c.args.n c.n.inside.0 c.self.view_is c.n.view_is c.requires c.self.invariant.0.nodes in
    omega (arith, i.places.ok.0, c.self.invariant.0.nodes)

pub returns-clause-place : goal.returns-clause-place
returns-clause-place c =
    let i = c.self.inside in
    let below : c.n.inside.0 < length i.additions.items = below-kept i.parts.items i.changes.items i.additions.items i.places.items i.names.items i.roots.items i.mains.items i.entries.items c.args.self.now c.args.n c.n.inside.0 c.self.view_is c.n.view_is c.requires c.self.invariant.0.nodes in
    place-kept i.parts.items i.changes.items i.additions.items (slice_index_or i.additions.items c.n.inside.0 no_addition) _ _ _
    (node-kept i.parts.items i.changes.items i.additions.items i.places.items i.names.items i.roots.items i.mains.items i.entries.items c.args.self.now c.args.n c.n.inside.0 c.self.view_is c.n.view_is below c.self.invariant.0.nodes)
    (get_or_read i.places.items _ _ (omega (arith, c.self.invariant.0.nodes)) c.index.ensures no_place)
