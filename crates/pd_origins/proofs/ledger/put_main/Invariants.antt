use Rattle.std.proofs.Common.{◌≡◌, ◌+◌, ◌-◌, length}
use Rattle.pd_origins.specs.Ledger.{put_in}
use Rattle.pd_origins.proofs.ledger.put_main.Given as goal

-- the empty lists so far change nothing
abbrev pub invariant-grow : goal.invariant-grow
invariant-grow l = put_in l.source l.slot l.event l.mains.items ≡ put_in l.source l.slot l.event l.initial.mains.items

abbrev pub decreases-grow : goal.decreases-grow
decreases-grow l = l.source + 1 - length l.mains.items
