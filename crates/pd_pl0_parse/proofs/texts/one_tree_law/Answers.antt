use Rattle.pd_pl0_parse.proofs.Spelling.{all_spelled}
use Rattle.pd_pl0_parse.proofs.Once.{tree_once}
use Rattle.pd_pl0_parse.proofs.texts.one_tree_law.Goals as goal

pub returns : goal.returns
returns c = λ room bytes tokens source t u s h g. tree_once room bytes tokens source t u (all_spelled bytes tokens s.lexes) h g
