use Rattle.std.proofs.Common.{◌≡◌, ◌++◌, take, string_bytes}
use Rattle.pd_coverage.specs.Text.{sources_text}
use Rattle.pd_coverage.proofs.text.push_sources.Given as goal

-- those so far are written
abbrev pub invariant-loop-x : goal.invariant-loop-x
invariant-loop-x l = string_bytes l.text ≡ string_bytes l.initial.text ++ sources_text l.plan l.program l.who (take l.x-index l.sources)
