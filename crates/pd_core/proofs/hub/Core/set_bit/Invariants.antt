use Rattle.pd_core.specs.Kinds.{set_bit}
use Rattle.pd_core.proofs.hub.Core.set_bit.Given as goal

abbrev pub ghosts-set : goal.ghosts-set
ghosts-set a = record { layout = a.words.now.key; kind = set_bit a.a a.b }
