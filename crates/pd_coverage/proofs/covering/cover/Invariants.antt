use Rattle.std.proofs.Common.{◌≡◌, length, map, take}
use Rattle.pd_steady.specs.Steady.{about}
use Rattle.pd_coverage.specs.Coverage.{is_hit, is_hit_in, sources_covered}
use Rattle.pd_coverage.specs.Report.{log_in}
use Rattle.pd_coverage.specs.Table.{IsTable}
use Rattle.pd_coverage.proofs.covering.cover.Given as goal

-- the contexts so far, and the nodes that were hit in one of them
abbrev pub invariant-loop-context : goal.invariant-loop-context
invariant-loop-context l = record {
  contexts : l.contexts.items ≡ map (λ log. sources_covered l.program (length l.plan.sources) (about l.plan l.program l.binding) (is_hit log)) (map (log_in l.binding) (take l.context-index l.report.contexts));
  all : IsTable (is_hit_in (map (log_in l.binding) (take l.context-index l.report.contexts))) (length l.program.nodes) l.all;
}
