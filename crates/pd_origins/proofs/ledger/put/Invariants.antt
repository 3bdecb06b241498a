use Rattle.std.proofs.Common.{◌≡◌, ◌+◌, ◌-◌, length}
use Rattle.pd_origins.specs.Ledger.{put}
use Rattle.pd_origins.proofs.ledger.put.Given as goal

-- the empty slots so far change nothing
abbrev pub invariant-grow : goal.invariant-grow
invariant-grow l = put l.slot l.event l.slots ≡ put l.slot l.event l.initial.slots

abbrev pub decreases-grow : goal.decreases-grow
decreases-grow l = l.slot + 1 - length l.slots
