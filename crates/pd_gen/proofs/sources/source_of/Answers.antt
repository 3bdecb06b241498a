use Rattle.std.proofs.Common.{rules}
use Rattle.pd_gen.proofs.TextLemmas.{never_refused}
use Rattle.pd_gen.proofs.sources.source_of.Goals as goal

pub unreachable-requires : goal.unreachable-requires
unreachable-requires c =
    never_refused c.args.text c.into_bytes.result.items c.in-Err-Refused.field-0 c.in-Err-Refused.field-0-0 (search rules) c.in-Err-Refused.field-0-is c.in-Err-Refused.ensures.refused
