use Rattle.std.proofs.Common.{sym}
use Rattle.pd_origins.proofs.Lookups.{latest_some, latest_none}
use Rattle.pd_origins.proofs.ledger.latest.Goals as goal

pub returns-in-Some : goal.returns-in-Some
returns-in-Some c = sym (latest_some c.args.slot c.args.slots.now c.in-Some.event.now (sym c.in-Some.ensures))

pub returns-in-None : goal.returns-in-None
returns-in-None c = sym (latest_none c.args.slot c.args.slots.now (sym c.in-None.ensures))
