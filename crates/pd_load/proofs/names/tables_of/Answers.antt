use Rattle.std.proofs.Common.{◌+◌, ◌<◌, ◌≤◌, length, sym, subst, arith}
use Rattle.pd_plan.specs.declared.plan.SourceSpec.{SourceSpec}
use Rattle.pd_load.specs.Names.{interface_of}
use Rattle.pd_load.specs.Tables.{IsInterface}
use Rattle.pd_load.proofs.Tables.{TablesTo, tables_more, tables_all}
use Rattle.pd_load.proofs.names.tables_of.Goals as goal

pub loop-number-preserved : goal.loop-number-preserved
loop-number-preserved c =
    let k = c.loop-number.number in
    let s = c.index-specs-number in
    let t = c.index-trees-number in
    let lt : k < length c.args.specs.now = omega arith in
    subst (TablesTo c.args.specs.now c.args.trees.now (k + 1) c.in_ok-table.next) (sym c.in_ok-push.ensures.items)
    (tables_more c.args.specs.now c.args.trees.now k c.loop-number.first c.in_ok-table.next c.loop-number.tables.items s.result t.result c.in_ok-table.table
    lt s.is c.loop-number-test.true t.is c.loop-number.invariant
    (subst (λ (x : SourceSpec). IsInterface c.in_ok-table.table (interface_of x.language c.loop-number.first t.result)) (sym s.is) (rw c.additions.ensures.value at c.in_ok-table.ensures.table)) (rw c.additions.ensures.value at c.in_ok-table.ensures.next))

pub returns-clause-tables : goal.returns-clause-tables
returns-clause-tables c =
    let le : length c.args.specs.now ≤ c.loop-number.number = omega arith in
    tables_all c.args.specs.now c.args.trees.now c.loop-number.number c.loop-number.first c.loop-number.tables.items le c.loop-number.invariant
