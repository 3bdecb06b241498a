use Rattle.std.proofs.Common.{◌≡◌, take}
use Rattle.pd_coverage.specs.Table.{covered_from}
use Rattle.pd_coverage.proofs.covering.sources_covered.Given as goal

-- the sources so far
abbrev pub invariant-loop-source : goal.invariant-loop-source
invariant-loop-source l = l.sources.items ≡ covered_from l.marked 0 (take l.source l.statements)
