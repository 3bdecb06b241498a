use Rattle.std.proofs.Common.{max}
use Rattle.pd_shared.specs.Merged.{IsMerged}
use Rattle.pd_shared.proofs.merge.merge_counts.Given as goal

abbrev pub invariant-loop-i : goal.invariant-loop-i
invariant-loop-i l = IsMerged max 0 l.i l.initial.own.items l.other l.own.items
