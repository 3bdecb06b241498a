use Rattle.call_tests.proofs.CoreExamples.{splits, may_split}
use Rattle.call_tests.proofs.core_words.halved.Goals as goal

pub split-requires : goal.split-requires
split-requires c = (c.requires.0, splits _ _ _ _ c.requires.1 c.requires.2 may_split)
