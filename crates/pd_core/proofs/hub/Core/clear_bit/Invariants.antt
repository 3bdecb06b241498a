use Rattle.pd_core.specs.Kinds.{clear_bit}
use Rattle.pd_core.proofs.hub.Core.clear_bit.Given as goal

abbrev pub ghosts-leave : goal.ghosts-leave
ghosts-leave a = record { layout = a.words.now.key; kind = clear_bit a.a a.b }
