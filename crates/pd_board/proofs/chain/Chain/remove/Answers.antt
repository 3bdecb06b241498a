use Rattle.std.proofs.Common.{◌∙◌}
use Rattle.pd_board.specs.Chain.{has}
use Rattle.pd_board.proofs.ChainLemmas.{held-removed}
use Rattle.pd_board.proofs.chain.Chain.remove.Goals as goal

pub returns : goal.returns
unfolding has
returns c d = c.set_row.ensures d ∙ held-removed c.args.self.now.words c.args.b d
