-- The row's nodes so far.
use Rattle.std.proofs.Common.{◌≡◌}
use Rattle.std.specs.List.{range_with_len, filter}
use Rattle.pd_filter.specs.Matching.{is_about}
use Rattle.pd_filter.proofs.matching.row.Given as goal

abbrev pub invariant-loop-n : goal.invariant-loop-n
invariant-loop-n l = l.row.items ≡ filter (is_about l.program l.binding) (range_with_len 0 l.n)
