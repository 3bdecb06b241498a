use Rattle.std.proofs.Common.{◌<◌, length, arith}
use Rattle.std.proofs.lemmas.List.{get_or_read}
use Rattle.pd_tree.specs.Linked.{no_addition}
use Rattle.pd_tree.proofs.Kept.{below-kept, node-kept, addition-kept}
use Rattle.pd_tree.proofs.program.Program.addition.Goals as goal

pub index-requires : goal.index-requires
index-requires c =
    let i = c.self.inside in
    let below : c.n.inside.0 < length i.additions.items = below-kept i.parts.items i.changes.items i.additions.items i.places.items i.names.items i.roots.items i.mains.items i.entries.items c.args.self.now c.args.n c.n.inside.0 c.self.view_is c.n.view_is c.requires c.self.invariant.0.nodes in
    omega (arith, i.additions.ok.0)

pub returns : goal.returns
returns c =
    let i = c.self.inside in
    let below : c.n.inside.0 < length i.additions.items = below-kept i.parts.items i.changes.items i.additions.items i.places.items i.names.items i.roots.items i.mains.items i.entries.items c.args.self.now c.args.n c.n.inside.0 c.self.view_is c.n.view_is c.requires c.self.invariant.0.nodes in
    addition-kept i.parts.items i.changes.items i.additions.items _ _ _ _
    (node-kept i.parts.items i.changes.items i.additions.items i.places.items i.names.items i.roots.items i.mains.items i.entries.items c.args.self.now c.args.n c.n.inside.0 c.self.view_is c.n.view_is below c.self.invariant.0.nodes)
    (get_or_read i.additions.items _ _ below c.index.ensures no_addition)
