use Rattle.pd_core.specs.Kinds.{load_node}
use Rattle.pd_core.proofs.hub.Core.load_node.Given as goal

abbrev pub ghosts-read : goal.ghosts-read
ghosts-read a = record { layout = a.words.now.key; kind = load_node a.a }
