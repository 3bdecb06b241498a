-- One row more.
use Rattle.seat_threads.proofs.RowLemmas.{row_more, count_more}
use Rattle.seat_threads.proofs.rows.table.Goals as goal

pub loop-b-preserved : goal.loop-b-preserved
loop-b-preserved c = record {
  counted = count_more _ _ _ c.in_ok-push.ensures c.loop-b.invariant.counted;
  are_rows = row_more _ _ _ c.loop-b.invariant.are_rows c.in_ok-row.ensures c.in_ok-push.ensures;
}
