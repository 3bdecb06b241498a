use Rattle.pd_core.specs.Kinds.{load_row}
use Rattle.pd_core.proofs.hub.Core.load_row.Given as goal

abbrev pub ghosts-read : goal.ghosts-read
ghosts-read a = record { layout = a.words.now.key; kind = load_row a.a a.b }
