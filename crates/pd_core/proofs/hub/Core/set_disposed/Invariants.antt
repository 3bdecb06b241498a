use Rattle.pd_core.specs.Kinds.{set_disposed}
use Rattle.pd_core.proofs.hub.Core.set_disposed.Given as goal

abbrev pub ghosts-set : goal.ghosts-set
ghosts-set a = record { layout = a.words.now.key; kind = set_disposed a.a }
