use Rattle.pd_core.specs.Kinds.{load_binding}
use Rattle.pd_core.proofs.hub.Core.load_binding.Given as goal

abbrev pub ghosts-read : goal.ghosts-read
ghosts-read a = record { layout = a.words.now.key; kind = load_binding a.a a.b }
