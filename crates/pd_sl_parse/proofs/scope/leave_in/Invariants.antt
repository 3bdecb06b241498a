use Rattle.std.proofs.Common.{◌≡◌, reverse, vec_len}
use Rattle.pd_sl_parse.specs.Scopes.{open_at}
use Rattle.pd_sl_parse.proofs.scope.leave_in.Given as goal

abbrev pub invariant-loop-end : goal.invariant-loop-end
invariant-loop-end l = open_at l.at (reverse l.blocks.items) ≡ open_at l.at (reverse l.fn.blocks.items)

abbrev pub decreases-loop-end : goal.decreases-loop-end
decreases-loop-end l = vec_len l.blocks
