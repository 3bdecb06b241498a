use Rattle.pd_core.specs.Kinds.{count_answer}
use Rattle.pd_core.proofs.hub.Core.add_answer.Given as goal

abbrev pub ghosts-add : goal.ghosts-add
ghosts-add a = record { layout = a.words.now.key; kind = count_answer a.a }
