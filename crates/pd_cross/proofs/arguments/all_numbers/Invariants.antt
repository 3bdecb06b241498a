use Rattle.std.proofs.Common.{◌≡◌, drop}
use Rattle.pd_meaning.specs.Meaning.{all_numbers}
use Rattle.pd_cross.proofs.arguments.all_numbers.Given as goal

abbrev pub invariant-loop-value : goal.invariant-loop-value
invariant-loop-value l = all_numbers (drop l.value-index l.values) ≡ all_numbers l.values
