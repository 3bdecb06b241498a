use Rattle.std.proofs.Common.{◌≡◌, ◌≤◌}
use Rattle.pd_sl_parse.specs.Scopes.{with_parameters}
use Rattle.pd_sl_parse.proofs.scope.Scope.declare_parameters.Given as goal

abbrev pub invariant-loop-k : goal.invariant-loop-k
invariant-loop-k l = record { few : l.self.slots ≤ l.k; done : l.self ≡ with_parameters l.source.bytes l.tokens l.first l.until l.k l.fn.self }
