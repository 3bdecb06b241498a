use Rattle.std.proofs.Common.{◌≡◌}
use Rattle.pd_shared.specs.Steps.{HasMarked}
use Rattle.pd_shared.proofs.steps.mark_row.Given as goal

abbrev pub invariant-loop-n : goal.invariant-loop-n
invariant-loop-n l = (l.pass.id ≡ l.initial.pass.id) × HasMarked l.core.layout l.b l.n-index l.initial.pass.view l.pass.view
