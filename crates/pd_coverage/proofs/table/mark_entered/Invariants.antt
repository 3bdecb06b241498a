use Rattle.std.proofs.Common.{take}
use Rattle.pd_coverage.specs.Coverage.{is_hit}
use Rattle.pd_coverage.specs.Table.{IsMarked}
use Rattle.pd_coverage.proofs.table.mark_entered.Given as goal

-- what the entries so far enter is marked
abbrev pub invariant-loop-entry : goal.invariant-loop-entry
invariant-loop-entry l = record {
  own : IsMarked (is_hit (take l.entry-index l.log)) l.initial.own l.own;
  all : IsMarked (is_hit (take l.entry-index l.log)) l.initial.all l.all;
}
