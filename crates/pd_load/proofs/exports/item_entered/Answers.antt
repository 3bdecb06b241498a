use Rattle.std.proofs.Common.{Some, None}
use Rattle.pd_load.specs.Linked.{interface_at}
use Rattle.pd_load.proofs.Tables.{table_at, entry_answered}
use Rattle.pd_load.proofs.exports.item_entered.Goals as goal

pub returns-in-Some : goal.returns-in-Some
returns-in-Some c = λ all are.
    let t = c.index-tables-source in
    let found = table_at c.args.tables.now all c.args.context.now.source t.result are c.requires t.is in
    entry_answered all c.args.number c.args.context.now (Some c.in-Some.item) ((rw c.as_str.ensures at c.in-Some.ensures) (interface_at all c.args.context.now.source) found)

pub returns-in-None : goal.returns-in-None
returns-in-None c = λ all are.
    let t = c.index-tables-source in
    let found = table_at c.args.tables.now all c.args.context.now.source t.result are c.requires t.is in
    entry_answered all c.args.number c.args.context.now None ((rw c.as_str.ensures at c.in-None.ensures) (interface_at all c.args.context.now.source) found)
