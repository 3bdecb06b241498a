use Rattle.pd_load.proofs.Scopes.{FindsTo}
use Rattle.pd_load.proofs.scope.Scope.find.Given as goal

abbrev pub invariant-loop-procedure : goal.invariant-loop-procedure
invariant-loop-procedure l = FindsTo l.name l.self.visible.items l.procedure-index l.found
