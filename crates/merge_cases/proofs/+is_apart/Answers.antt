-- The first entry stands at a place of its own.
use Rattle.std.proofs.Common.{false}
use Rattle.pd_log.specs.Merging.{entries_in}
use Rattle.merge_cases.proofs.Apart.{apart_behind, apart_empty}
use Rattle.merge_cases.proofs.+is_apart.Goals as goal

pub returns-in-empty : goal.returns-in-empty
returns-in-empty t c = λ _ others. apart_empty c.args.log.now (entries_in c.args.others.now) c.in-empty.len_below others

pub returns-else-have : goal.returns-else-have
returns-else-have t c = λ are others.
    apart_behind c.args.log.now c.first-item.result (entries_in c.args.others.now) c.in-len1-up.len_at_least c.first-item.is
    (c.has.ensures c.if-has.false) (c.have.ensures c.if-have.false) (c.is_apart.ensures are others)
