-- The entries of the first log stand at places of their own.
use Rattle.merge_cases.proofs.Apart.{apart_logs}
use Rattle.merge_cases.proofs.+are_apart.Goals as goal

pub returns-then-is_apart : goal.returns-then-is_apart
returns-then-is_apart t c = λ are.
    apart_logs c.args.logs.now c.first-item.result c.as_slice.result.now c.in-len1-up.len_at_least c.first-item.is c.as_slice.ensures.value
    (c.is_apart.ensures c.if-is_apart.true (c.are_apart.ensures are))
