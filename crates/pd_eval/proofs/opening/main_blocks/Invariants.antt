use Rattle.std.proofs.Common.{◌≡◌, take}
use Rattle.std.specs.Prelude.{map}
use Rattle.pd_meaning.specs.Meaning.{main_variables}
use Rattle.pd_eval.proofs.opening.main_blocks.Given as goal

abbrev pub invariant-loop-main : goal.invariant-loop-main
invariant-loop-main l = l.blocks.items ≡ map (main_variables l.program) (take l.main-index l.main-items)
