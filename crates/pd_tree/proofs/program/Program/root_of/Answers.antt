use Rattle.std.proofs.Common.{◌<◌, ◌∙◌, sym, length, None, arith}
use Rattle.std.proofs.lemmas.List.{get_or_read}
use Rattle.pd_tree.proofs.Kept.{item-below-kept, root-kept}
use Rattle.pd_tree.proofs.program.Program.root_of.Goals as goal

pub index-requires : goal.index-requires
index-requires c =
    let i = c.self.inside in
    let below : c.args.item < length i.names.items = item-below-kept i.parts.items i.changes.items i.additions.items i.places.items i.names.items i.roots.items i.mains.items i.entries.items c.args.self.now c.args.item c.self.view_is c.self.invariant.0.items c.requires in
    omega (arith, i.roots.ok.0, c.self.invariant.0.items)

pub returns-in-Some : goal.returns-in-Some
returns-in-Some c =
    let i = c.self.inside in
    let below : c.args.item < length i.names.items = item-below-kept i.parts.items i.changes.items i.additions.items i.places.items i.names.items i.roots.items i.mains.items i.entries.items c.args.self.now c.args.item c.self.view_is c.self.invariant.0.items c.requires in
    sym c.in-Some.is ∙ get_or_read i.roots.items _ _ (omega (arith, c.self.invariant.0.items)) c.index.ensures None
    ∙ root-kept i.parts.items i.changes.items i.additions.items i.places.items i.names.items i.roots.items i.mains.items i.entries.items c.args.self.now c.args.item c.self.view_is c.self.invariant.0.items below

pub returns-in-None : goal.returns-in-None
returns-in-None c =
    let i = c.self.inside in
    let below : c.args.item < length i.names.items = item-below-kept i.parts.items i.changes.items i.additions.items i.places.items i.names.items i.roots.items i.mains.items i.entries.items c.args.self.now c.args.item c.self.view_is c.self.invariant.0.items c.requires in
    sym c.in-None.is ∙ get_or_read i.roots.items _ _ (omega (arith, c.self.invariant.0.items)) c.index.ensures None
    ∙ root-kept i.parts.items i.changes.items i.additions.items i.places.items i.names.items i.roots.items i.mains.items i.entries.items c.args.self.now c.args.item c.self.view_is c.self.invariant.0.items below
