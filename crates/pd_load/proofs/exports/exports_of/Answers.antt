use Rattle.std.proofs.Common.{Ok, refl}
use Rattle.pd_load.proofs.Tables.{exports_more}
use Rattle.pd_load.proofs.exports.exports_of.Goals as goal

pub loop-index-preserved : goal.loop-index-preserved
loop-index-preserved c =
    exports_more c.args.tables.now c.args.exports.now c.loop-index.index c.loop-index.table c.index-exports-index.result c.loop-index-test.true c.index-exports-index.is c.loop-index.invariant
    (Ok c.in-Ok.item) c.in-Ok.ensures c.in-Ok.item c.define.new.table refl (rw c.as_str.ensures at c.in_ok-define-in-Ok.ensures)
