-- Each row so far is one, and there are as many as the index.
use Rattle.std.proofs.Common.{◌≡◌, length}
use Rattle.std.specs.List.{All}
use Rattle.seat_threads.specs.Rows.{IsRow}
use Rattle.seat_threads.proofs.rows.table.Given as goal

abbrev pub invariant-loop-b : goal.invariant-loop-b
invariant-loop-b l = record { counted : length l.rows ≡ l.b; are_rows : All (λ r. IsRow r) l.rows }
