use Rattle.std.proofs.Common.{Some, None}
use Rattle.pd_report.proofs.LineLemmas.{first_of_split, lines_last}
use Rattle.pd_gen.proofs.summing.next_line.Goals as goal

pub returns-in-Some-clause-lines : goal.returns-in-Some-clause-lines
returns-in-Some-clause-lines c =
    let first = first_of_split c.args.text.now (Some (c.in-Some.line, c.in-Some.behind)) c.in-Some.ensures.cases in first.lines

pub returns-in-None-clause-lines : goal.returns-in-None-clause-lines
returns-in-None-clause-lines c = lines_last c.args.text.now (first_of_split c.args.text.now None c.in-None.ensures.cases) c.requires
