-- None of the nodes so far is a Statement.
use Rattle.std.proofs.Common.{◌≡◌, drop}
use Rattle.std.specs.List.{filter}
use Rattle.pd_break.specs.Resolving.{is_statement}
use Rattle.pd_index.proofs.matching.first_stop.Given as goal

abbrev pub invariant-loop-n : goal.invariant-loop-n
invariant-loop-n l = filter (is_statement l.program) l.nodes ≡ filter (is_statement l.program) (drop l.n-index l.nodes)
