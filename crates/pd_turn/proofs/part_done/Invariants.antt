use Rattle.std.proofs.Common.{◌≡◌, reverse, vec_len}
use Rattle.pd_turn.specs.Turned.{part_done}
use Rattle.pd_turn.proofs.part_done.Given as goal

abbrev pub invariant-loop-top : goal.invariant-loop-top
invariant-loop-top g l = part_done (reverse l.unfinished.items) l.done.items ≡ part_done (reverse l.fn.unfinished.items) l.fn.done.items

abbrev pub decreases-loop-top : goal.decreases-loop-top
decreases-loop-top g l = vec_len l.unfinished
