use Rattle.std.proofs.Common.{◌≡◌, ap, length, arith}
use Rattle.pd_tree.specs.Kept.{nodes_in}
use Rattle.pd_tree.proofs.Kept.{length-nodes_in}
use Rattle.pd_tree.proofs.program.Program.nodes.Goals as goal

pub returns-clause-count : goal.returns-clause-count
returns-clause-count c =
    let i = c.self.inside in
    let same : length (nodes_in i.parts.items i.changes.items i.additions.items i.additions.items i.places.items) ≡ length c.args.self.now.nodes = ap (λ q. length q.nodes) c.self.view_is in
    let len : length (nodes_in i.parts.items i.changes.items i.additions.items i.additions.items i.places.items) ≡ length i.additions.items = length-nodes_in i.parts.items i.changes.items i.additions.items i.additions.items i.places.items c.self.invariant.0.nodes in
    omega (arith, i.additions.ok.0, c.len.ensures)
