use Rattle.pd_sl_parse.proofs.Spelling.{all_spelled}
use Rattle.pd_sl_parse.proofs.texts.texts_law.Goals as goal

pub returns : goal.returns
returns c = λ bytes tokens u s. all_spelled bytes tokens u s.lexes
