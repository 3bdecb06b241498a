use Rattle.std.proofs.Common.{◌≡◌, [], drop}
use Rattle.std.specs.Prelude.{map}
use Rattle.pd_meaning.specs.Meaning.{parameter_values}
use Rattle.pd_cross.proofs.arguments.parameter_values.Given as goal

abbrev pub invariant-loop-i : goal.invariant-loop-i
invariant-loop-i l = parameter_values (map (λ r. r.now) l.names.items) l.values.items (drop l.i l.parameters) (drop l.i l.arguments) ≡ parameter_values [] [] l.parameters l.arguments
