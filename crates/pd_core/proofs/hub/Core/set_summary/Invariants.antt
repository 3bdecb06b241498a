use Rattle.pd_core.specs.Kinds.{set_summary}
use Rattle.pd_core.proofs.hub.Core.set_summary.Given as goal

abbrev pub ghosts-set : goal.ghosts-set
ghosts-set a = record { layout = a.words.now.key; kind = set_summary a.a a.b }
