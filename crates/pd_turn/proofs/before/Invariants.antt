use Rattle.std.proofs.Common.{◌≡◌, reverse, [], vec_len}
use Rattle.pd_turn.specs.Turned.{turns}
use Rattle.pd_turn.proofs.before.Given as goal

abbrev pub invariant-loop-node : goal.invariant-loop-node
invariant-loop-node g l = turns (reverse l.nodes.items) (reverse l.unfinished.items, l.done.items) ≡ turns (reverse l.fn.nodes.items) ([], [])

abbrev pub decreases-loop-node : goal.decreases-loop-node
decreases-loop-node g l = vec_len l.nodes
