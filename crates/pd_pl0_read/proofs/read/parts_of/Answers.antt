use Rattle.std.proofs.Common.{sym, ◌∙◌}
use Rattle.pd_pl0_read.specs.Places.{program_trees}
use Rattle.pd_pl0_read.proofs.Turns.{program_turned}
use Rattle.pd_pl0_read.proofs.read.parts_of.Goals as goal

pub returns-in_ok-before-in-Ok-clause-spelled : goal.returns-in_ok-before-in-Ok-clause-spelled
returns-in_ok-before-in-Ok-clause-spelled c =
    let tree = c.in-Ok.ensures.spelled in
    (tree.0, tree.1, c.in_ok-before-in-Ok.ensures (program_trees tree.0) (tree.2 ∙ sym (program_turned tree.0)))
