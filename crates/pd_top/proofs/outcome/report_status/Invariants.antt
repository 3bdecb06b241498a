use Rattle.std.proofs.Common.{◌≡◌, take, true}
use Rattle.std.specs.List.{list_all}
use Rattle.pd_top.specs.Answers.{is_done}
use Rattle.pd_top.proofs.outcome.report_status.Given as goal

-- the contexts before this one are done
abbrev pub invariant-loop-context : goal.invariant-loop-context
invariant-loop-context l = list_all (λ context. is_done context.«end») (take l.context-index l.report.contexts) ≡ true
