use Rattle.std.proofs.Common.{◌≡◌, ◌++◌, take, string_bytes}
use Rattle.std.specs.Fmt.{decimal}
use Rattle.pd_report.specs.Lines.{numbered}
use Rattle.pd_coverage.specs.Text.{sources_text}
use Rattle.pd_coverage.proofs.text.push_contexts.Given as goal

-- the contexts so far are written
abbrev pub invariant-loop-number : goal.invariant-loop-number
invariant-loop-number l = string_bytes l.text ≡ string_bytes l.initial.text ++ numbered (λ context. sources_text l.plan l.program (decimal context)) 0 (take l.number l.contexts)
