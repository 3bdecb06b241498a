use Rattle.std.proofs.Common.{◌≡◌, take}
use Rattle.pd_coverage.specs.Lines.{last_line}
use Rattle.pd_coverage.proofs.lines.last_line.Given as goal

-- the greatest line of those so far
abbrev pub invariant-loop-n : goal.invariant-loop-n
invariant-loop-n l = l.last ≡ last_line l.program (take l.n-index l.nodes)
