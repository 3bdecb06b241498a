-- The least line of the nodes so far.
use Rattle.std.proofs.Common.{◌≡◌}
use Rattle.std.specs.List.{range_with_len, filter}
use Rattle.pd_break.specs.Resolving.{least_line, starts_from}
use Rattle.pd_break.proofs.resolving.resolve.Given as goal

abbrev pub invariant-loop-n : goal.invariant-loop-n
invariant-loop-n l = l.least ≡ least_line l.program (filter (starts_from l.program l.source l.line) (range_with_len 0 l.n))
