use Rattle.pd_core.specs.Kinds.{draw}
use Rattle.pd_core.proofs.hub.Core.add_draw.Given as goal

abbrev pub ghosts-add : goal.ghosts-add
ghosts-add a = record { layout = a.words.now.key; kind = draw a.a a.b }
