-- The logs were found apart.
use Rattle.std.proofs.Common.{subst}
use Rattle.pd_log.specs.Merging.{entries_in, PlacesDiffer}
use Rattle.merge_cases.proofs.print_merged.Goals as goal

pub merge-requires : goal.merge-requires
merge-requires c = record { differ = subst (λ ls. PlacesDiffer (entries_in ls)) c.as_slice.ensures.value (c.are_apart.ensures c.if-not-are_apart.false) }
