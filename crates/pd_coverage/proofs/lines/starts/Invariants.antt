use Rattle.std.proofs.Common.{take}
use Rattle.pd_coverage.specs.Lines.{is_line_of}
use Rattle.pd_coverage.specs.Table.{IsTable}
use Rattle.pd_coverage.proofs.lines.starts.Given as goal

-- the lines of those so far are marked
abbrev pub invariant-loop-n : goal.invariant-loop-n
invariant-loop-n l = IsTable (is_line_of l.program (take l.n-index l.nodes)) l.count l.lines
