use Rattle.pd_shared.specs.Loading.{IsLoading}
use Rattle.pd_shared.proofs.steps.load_chain.Given as goal

abbrev pub invariant-loop-r : goal.invariant-loop-r
invariant-loop-r l = IsLoading l.board.core.layout l.board.table l.n l.summary l.r l.fn.token l.token l.chain
