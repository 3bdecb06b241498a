use Rattle.std.proofs.Common.{sym, ◌∙◌}
use Rattle.pd_sl_read.specs.Places.{roses}
use Rattle.pd_sl_read.proofs.Turns.{all_turned}
use Rattle.pd_sl_read.proofs.read.parts_of.Goals as goal

pub returns-in_ok-before-in-Ok-clause-spelled : goal.returns-in_ok-before-in-Ok-clause-spelled
returns-in_ok-before-in-Ok-clause-spelled c =
    let tree = c.in-Ok.ensures.spelled in
    (tree.0, tree.1, c.in_ok-before-in-Ok.ensures (roses 0 tree.0) (tree.2 ∙ sym (all_turned 0 tree.0)))
