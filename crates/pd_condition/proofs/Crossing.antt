-- A condition with resolved names may be shared among threads. The kit doesn't find this of a tree, so it is shown here.
use denote.Param.Send.{IsSync, sendable}
use Rattle.sqlite_items.proofs.boxed.Boxed.TheSendSync as boxed
use Rattle.pd_values.proofs.text.Text.TheSendSync as text
use Rattle.pd_plan.proofs.condition.Op.TheSendSync as op
use Rattle.pd_condition.specs.contracts.resolved.Resolved as resolved
use Rattle.pd_condition.proofs.resolved.Resolved.TheLaws.TheKnot as knot

pub resolved_sync : IsSync resolved.the_row
resolved_sync = search (knot.sync-Resolved, text.the_sync, op.the_field_sync, boxed.the_sync, sendable) depth 20
