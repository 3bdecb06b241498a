use Rattle.std.proofs.Common.{◌<◌, length, ap, arith}
use Rattle.pd_load.proofs.Lists.{item_at}
use Rattle.pd_load.proofs.Tables.{found_more, main_small}
use Rattle.pd_load.proofs.found.found_for.Goals as goal

pub add_found-requires : goal.add_found-requires
add_found-requires c = λ main some.
    let lt : c.loop-index.index < length c.args.specs.now = omega arith in
    let spec = item_at c.args.specs.now c.loop-index.index lt in
    let table_lt : c.loop-index.index < length c.args.tables.now = omega arith in
    omega (
      arith,
      ap length c.additions.ensures.value,
      main_small c.args.specs.now c.args.trees.now c.args.tables.now c.args.exports.now c.loop-index.index c.loop-index.found.items spec.0 c.index-trees-index.result c.index-tables-index.result
          lt spec.1 c.loop-index-test.true c.index-trees-index.is table_lt c.index-tables-index.is c.loop-index.invariant main some,
    )

pub loop-index-preserved : goal.loop-index-preserved
loop-index-preserved c =
    let lt : c.loop-index.index < length c.args.specs.now = omega arith in
    let spec = item_at c.args.specs.now c.loop-index.index lt in
    let table_lt : c.loop-index.index < length c.args.tables.now = omega arith in
    found_more c.args.specs.now c.args.trees.now c.args.tables.now c.args.exports.now c.loop-index.index c.loop-index.found.items c.add_found.new.found.items
    spec.0 c.index-trees-index.result c.index-tables-index.result lt spec.1 c.loop-index-test.true c.index-trees-index.is table_lt c.index-tables-index.is
    c.loop-index.invariant (rw c.additions.ensures.value at c.in_ok-add_found.ensures)
