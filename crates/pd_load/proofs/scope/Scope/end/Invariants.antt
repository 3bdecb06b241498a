use Rattle.std.proofs.Common.{vec_len}
use Rattle.pd_load.proofs.Scopes.{EndsTo}
use Rattle.pd_load.proofs.scope.Scope.end.Given as goal

abbrev pub invariant-loop-last : goal.invariant-loop-last
invariant-loop-last l = EndsTo l.fn.self l.self

abbrev pub decreases-loop-last : goal.decreases-loop-last
decreases-loop-last l = vec_len l.self.unfinished
