use Rattle.std.proofs.Common.{◌≡◌, [], replicate}
use Rattle.pd_coverage.proofs.statements.empty_lists.Given as goal

-- so many are there
abbrev pub invariant-loop-source : goal.invariant-loop-source
invariant-loop-source l = l.lists.items ≡ replicate l._source []
