use Rattle.std.proofs.Common.{◌≡◌, take, filter}
use Rattle.pd_coverage.specs.Table.{is_marked}
use Rattle.pd_coverage.proofs.covering.covered_source.Given as goal

-- the statements so far, and those of them that are marked
abbrev pub invariant-loop-n : goal.invariant-loop-n
invariant-loop-n l = record {
  all : l.all.items ≡ take l.n-index l.nodes;
  hit : l.hit.items ≡ filter (is_marked l.marked) (take l.n-index l.nodes);
}
