use Rattle.std.proofs.Common.{◌≡◌, length, Some, []}
use Rattle.std.specs.Prelude.{unwrap_or}
use Rattle.std.specs.List.{last_or}
use denote.Text.{Utf8}
use denote.Shadow.{shadow}
use Rattle.pd_report.specs.Lines.{lines_of}
use Rattle.pd_gen.specs.Summing.{last_line}
use Rattle.pd_gen.proofs.summing.last_line.Given as goal

-- the last line of what is left, or else this one, is the last line of all
abbrev pub invariant-lines : goal.invariant-lines
invariant-lines l =
    shadow (Utf8 l.rest) × shadow (Utf8 l.last) × (unwrap_or (last_or (Some l.last) (lines_of l.rest)) [] ≡ last_line l.output)

abbrev pub decreases-lines : goal.decreases-lines
decreases-lines l = length l.rest
