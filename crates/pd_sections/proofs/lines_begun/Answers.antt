use Rattle.std.proofs.Common.{leb, rules}
use Rattle.std.proofs.lemmas.List.Sorted.{IsPartitionPoint-from_clause}
use Rattle.pd_sections.proofs.LineStarts.{in_two_parts, found}
use Rattle.pd_sections.proofs.lines_begun.Goals as goal

pub returns : goal.returns
returns c = λ bytes table_is.
    let parts = IsPartitionPoint-from_clause (λ start. leb start c.args.at) _ _ c.partition_point.ensures.partitioned
    (in_two_parts bytes _ c.args.at table_is) (λ a r q k. search rules) in
    found bytes _ c.args.at _ table_is c.partition_point.ensures.bound parts
