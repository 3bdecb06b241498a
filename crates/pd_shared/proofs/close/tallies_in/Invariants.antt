use Rattle.pd_shared.specs.Closed.{AreTallies}
use Rattle.pd_shared.proofs.close.tallies_in.Given as goal

abbrev pub invariant-loop-b : goal.invariant-loop-b
invariant-loop-b l = AreTallies l.words l.first l.counts l.b l.tallies.items
