use Rattle.pd_core.specs.Kinds.{clear_off}
use Rattle.pd_core.proofs.hub.Core.clear_off.Given as goal

abbrev pub ghosts-leave : goal.ghosts-leave
ghosts-leave a = record { layout = a.words.now.key; kind = clear_off a.a }
