use Rattle.pd_shared.specs.Book.{unread}
use Rattle.pd_shared.specs.Merged.{with_last, IsMerged}
use Rattle.pd_shared.proofs.merge.merge_reads.Given as goal

abbrev pub invariant-loop-i : goal.invariant-loop-i
invariant-loop-i l = IsMerged with_last unread l.i l.initial.own.items l.other l.own.items
