use Rattle.std.proofs.Common.{◌≡◌, ◌++◌, take, string_bytes}
use Rattle.pd_report.specs.Lines.{numbered}
use Rattle.pd_gen.specs.Summing.{count_line}
use Rattle.pd_gen.proofs.telling.push_counts.Given as goal

-- the counts so far are written
abbrev pub invariant-loop-number : goal.invariant-loop-number
invariant-loop-number l = string_bytes l.text ≡ string_bytes l.initial.text ++ numbered count_line 0 (take l.number-counter l.counts)
