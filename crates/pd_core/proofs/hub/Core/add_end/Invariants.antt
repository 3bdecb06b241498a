use Rattle.pd_core.specs.Kinds.{count_end}
use Rattle.pd_core.proofs.hub.Core.add_end.Given as goal

abbrev pub ghosts-add : goal.ghosts-add
ghosts-add a = record { layout = a.words.now.key; kind = count_end }
