use Rattle.std.specs.List.{range_with_len}
use Rattle.pd_filter.specs.Matching.{satisfies}
use Rattle.pd_coverage.specs.Coverage.{is_counted}
use Rattle.pd_coverage.specs.Table.{IsSplit}
use Rattle.pd_coverage.proofs.statements.statements.Given as goal

-- the nodes so far stand in their lists
abbrev pub invariant-loop-n : goal.invariant-loop-n
invariant-loop-n l = IsSplit (is_counted l.program (satisfies l.filter l.program)) (range_with_len 0 l.n) l.sources l.lists.items
