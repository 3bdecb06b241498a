use Rattle.std.proofs.Common.{sym, subst}
use Rattle.pd_log.specs.Merging.{PlacesDiffer, IsMerged}
use Rattle.pd_report.specs.Logs.{entries_of}
use Rattle.pd_report.proofs.MergedLemmas.{merged_is}
use Rattle.pd_report.proofs.logs.merged_log.Goals as goal

pub merge-requires : goal.merge-requires
merge-requires c = record { differ = subst PlacesDiffer (sym c.in_ok-logs.ensures) c.requires }

pub returns : goal.returns
returns c =
    merged_is (entries_of c.args.binding c.args.contexts.now) c.in_ok-merged.merged.items c.requires
    (subst (λ es. IsMerged es c.in_ok-merged.merged.items) c.in_ok-logs.ensures c.in_ok-merged.ensures)
