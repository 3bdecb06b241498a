-- Both laws are proved of the definitions.
use Rattle.std.proofs.Common.{arith}
use Rattle.pd_meaning.specs.Machine.{start}
use Rattle.pd_ending.proofs.Over.{over_in_time}
use Rattle.pd_ending.proofs.Spent.{uses_all}
use Rattle.pd_ending.proofs.ending_law.Goals as goal

pub returns-clause-in_time : goal.returns-clause-in_time
returns-clause-in_time c p v fuel root k h = over_in_time p v k (start p fuel root) (omega (arith, h))

pub returns-clause-all : goal.returns-clause-all
returns-clause-all c p v fuel entry = uses_all p v fuel entry
