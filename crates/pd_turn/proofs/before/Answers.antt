use Rattle.std.proofs.Common.{sym, ◌∙◌}
use Rattle.pd_turn.proofs.Turns.{leaf_next, node_next, all_turned}
use Rattle.pd_turn.proofs.before.Goals as goal

pub loop-node-preserved-in-Continue-branch-2 : goal.loop-node-preserved-in-Continue-branch-2
loop-node-preserved-in-Continue-branch-2 g c =
    leaf_next c.loop-node.nodes.items c.pop.new.self.items c.loop-node.unfinished.items c.part_done.new.unfinished.items c.in-Some.node c.loop-node.done.items _ c.part_done.new.done.items
    c.in-Some.ensures.items c.if-node-eq0.true c.in_ok-push.ensures.items c.in_ok-part_done.ensures
    ∙ c.loop-node.invariant

pub loop-node-preserved : goal.loop-node-preserved
loop-node-preserved g c =
    node_next c.loop-node.nodes.items c.pop.new.self.items c.loop-node.unfinished.items c.push-else-node-eq0.new.self.items c.in-Some.node c.loop-node.done.items
    c.in-Some.ensures.items c.if-node-eq0.false c.in_ok-push-2.ensures.items
    ∙ c.loop-node.invariant

pub returns : goal.returns
returns g c t p =
    c.reverse.ensures.items
    ∙ all_turned c.loop-node.nodes.items c.pop.new.self.items c.args.nodes.items _ c.loop-node.done.items t (sym c.loop-node.nodes.ok.0 ∙ c.in_default.ensures.cases.0) c.loop-node.invariant p
