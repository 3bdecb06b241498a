use Rattle.pd_core.specs.Kinds.{set_attached}
use Rattle.pd_core.proofs.hub.Core.set_attached.Given as goal

abbrev pub ghosts-set : goal.ghosts-set
ghosts-set a = record { layout = a.words.now.key; kind = set_attached a.a }
