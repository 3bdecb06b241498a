use Rattle.std.proofs.Common.{◌≡◌, false, Some, None, is_some}
use Rattle.std.specs.BTreeMap.{get_by_text}
use Rattle.pd_load.proofs.Tables.{table_at, export_answered}
use Rattle.pd_load.proofs.exports.item_exported.Goals as goal

pub returns-in-Some : goal.returns-in-Some
returns-in-Some c = λ all are symbols before.
    let t = c.index-tables-source in
    let found = table_at c.args.tables.now all c.args.export.now.source t.result are c.requires t.is in
    let flag : is_some (get_by_text c.args.earlier.now c.args.export.now.name) ≡ false = cc in
    let is : get_by_text t.result.symbols c.args.export.now.item ≡ Some c.in-Some.item = cc (c.in-Some.ensures) in
    export_answered all c.args.number symbols c.args.export.now c.args.earlier.now t.result.symbols before found.symbols flag (Some c.in-Some.item) is

pub returns-in-None : goal.returns-in-None
returns-in-None c = λ all are symbols before.
    let t = c.index-tables-source in
    let found = table_at c.args.tables.now all c.args.export.now.source t.result are c.requires t.is in
    let flag : is_some (get_by_text c.args.earlier.now c.args.export.now.name) ≡ false = cc in
    let is : get_by_text t.result.symbols c.args.export.now.item ≡ None = cc (c.in-None.ensures) in
    export_answered all c.args.number symbols c.args.export.now c.args.earlier.now t.result.symbols before found.symbols flag None is
