use Rattle.std.proofs.Common.{arith}
use Rattle.std.proofs.lemmas.Grind.{common_steps}
use Rattle.pd_shared.specs.Matching.{stands}
use Rattle.pd_shared.proofs.MatchingLemmas.{word_tells}
use Rattle.pd_shared.proofs.matching.Matching.word.Goals as goal

pub returns : goal.returns
unfolding stands
returns c b here = word_tells c.args.self.now.width c.args.self.now.words.items c.args.n c.args.r b _ c.requires.row (grind (arith, common_steps, c.index.ensures)) here
