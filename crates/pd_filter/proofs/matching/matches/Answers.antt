-- The table is the definition's, of which the rest is known.
use Rattle.std.proofs.Common.{◌≡◌, length, sym, subst, arith}
use Rattle.std.proofs.lemmas.Grind.{common_steps}
use Rattle.pd_plan.specs.declared.table.MatchTable.{MatchTable}
use Rattle.pd_filter.specs.Matching.{table_of, IsOver}
use Rattle.pd_filter.proofs.Tables.{table_is_over}
use Rattle.pd_filter.proofs.matching.matches.Goals as goal

pub returns-clause-over : goal.returns-clause-over
returns-clause-over c =
    let plan = c.args.plan.now in
    let p = c.args.program.now in
    let table : MatchTable = record { rows = c.of.result; always = c.of-2.result } in
    let same : table ≡ table_of plan p = grind (arith, common_steps) in
    subst (IsOver (length p.nodes)) (sym same) (table_is_over plan p)
