use Rattle.std.proofs.Common.{sym, subst}
use Rattle.pd_log.specs.Merging.{PlacesDiffer}
use Rattle.pd_report.specs.Logs.{entries_of}
use Rattle.pd_report.proofs.json.binding_value.Goals as goal

pub log_values-requires : goal.log_values-requires
log_values-requires c = λ is. subst (λ cs. PlacesDiffer (entries_of c.args.number cs)) (sym c.as_slice-contexts.ensures) (c.requires is c.args.number)
