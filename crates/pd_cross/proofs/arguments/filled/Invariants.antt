use Rattle.std.proofs.Common.{◌≡◌, ◌-◌, vec_len}
use Rattle.pd_meaning.specs.Meaning.{filled}
use Rattle.pd_cross.proofs.arguments.filled.Given as goal

abbrev pub invariant-loop-all : goal.invariant-loop-all
invariant-loop-all l = filled l.size l.value l.all.items ≡ filled l.size l.value l.initial.all.items

abbrev pub decreases-loop-all : goal.decreases-loop-all
decreases-loop-all l = l.size - vec_len l.all
