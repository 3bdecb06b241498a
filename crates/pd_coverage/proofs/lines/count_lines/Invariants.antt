use Rattle.std.proofs.Common.{◌≡◌, not}
use Rattle.std.specs.List.{filter, range_with_len}
use Rattle.pd_coverage.specs.Lines.{is_line_of}
use Rattle.pd_coverage.proofs.lines.count_lines.Given as goal

-- the lines so far
abbrev pub invariant-loop-line : goal.invariant-loop-line
invariant-loop-line l = record {
  all : l.all.items ≡ filter (is_line_of l.program l.x.nodes) (range_with_len 0 l.line);
  missed : l.missed.items ≡ filter (λ line. not (is_line_of l.program l.x.hit line)) (filter (is_line_of l.program l.x.nodes) (range_with_len 0 l.line));
}
