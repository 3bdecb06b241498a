-- By the law on the first Statement.
use Rattle.std.proofs.Common.{ℕ, List, ap, sym, ◌∙◌}
use Rattle.std.specs.List.{filter}
use Rattle.pd_break.specs.Resolving.{is_statement}
use Rattle.pd_filter.specs.Matching.{stop_line}
use Rattle.pd_index.specs.Kept.{line_of_first}
use Rattle.pd_index.proofs.StopLaws.{first_stops}
use Rattle.pd_index.proofs.matching.line_of.Goals as goal

pub returns-in-Break : goal.returns-in-Break
returns-in-Break c =
    let p = c.args.program.now in
    let spec = c.in-Break.spec in
    c.first_stop.ensures
    ∙ ap (λ (ns : List ℕ). line_of_first p (filter (is_statement p) ns)) c.stretch-nodes.ensures
    ∙ first_stops p c.args.index.now.lines c.requires.lines spec.source spec.line
    ∙ ap (stop_line p) (sym c.in-Break.is)
