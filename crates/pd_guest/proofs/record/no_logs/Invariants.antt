-- So many logs so far, and each is empty.
use Rattle.std.proofs.Common.{◌≡◌, ℕ, [], length}
use Rattle.pd_record.specs.Serving.{log_at}
use Rattle.pd_guest.proofs.record.no_logs.Given as goal

abbrev pub invariant-logs : goal.invariant-logs
invariant-logs l = record {
  count : length l.logs.items ≡ l.counter;
  empty : (c : ℕ) → log_at l.logs.items c ≡ [];
}
