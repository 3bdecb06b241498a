-- The laws are proved of the definitions.
use Rattle.pd_paths.proofs.Told.{sums_whole}
use Rattle.pd_paths.proofs.Trees.{tally_is_tree}
use Rattle.pd_paths.proofs.paths_law.Goals as goal

pub returns-clause-trees : goal.returns-clause-trees
returns-clause-trees c p events tree nested t = tally_is_tree p events tree nested t

pub returns-clause-sums : goal.returns-clause-sums
returns-clause-sums c p events tree nested covered t = sums_whole p events tree nested covered t
