use Rattle.pd_shared.specs.Closed.{AreNumbers}
use Rattle.pd_shared.proofs.close.numbers_in.Given as goal

abbrev pub invariant-loop-s : goal.invariant-loop-s
invariant-loop-s l = AreNumbers l.words l.first l.s l.numbers.items
