use Rattle.pd_board.specs.declared.answers.Known.TheVariants as knowns
use Rattle.pd_shared.specs.Merged.{later, IsMerged}
use Rattle.pd_shared.proofs.merge.merge_known.Given as goal

abbrev pub invariant-loop-i : goal.invariant-loop-i
invariant-loop-i l = IsMerged later knowns.Fresh l.i l.initial.own.items l.other l.own.items
