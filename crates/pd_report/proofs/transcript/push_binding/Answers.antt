use Rattle.std.proofs.Common.{sym, subst}
use Rattle.pd_log.specs.Merging.{PlacesDiffer}
use Rattle.pd_report.specs.Logs.{entries_of}
use Rattle.pd_report.proofs.transcript.push_binding.Goals as goal

pub push_log-requires : goal.push_log-requires
push_log-requires c = λ is. subst (λ cs. PlacesDiffer (entries_of c.args.number cs)) (sym c.as_slice.ensures) (c.requires is c.args.number)
