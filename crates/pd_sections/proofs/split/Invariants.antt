use Rattle.std.proofs.Common.{◌-◌, length}
use Rattle.pd_sections.proofs.Leading.{Leads}
use Rattle.pd_sections.proofs.split.Given as goal

abbrev pub invariant-loop-at : goal.invariant-loop-at
invariant-loop-at g l = Leads g.L.Lexicon.piece_of l.bytes l.at l.tokens.items

abbrev pub decreases-loop-at : goal.decreases-loop-at
decreases-loop-at g l = length l.bytes - l.at
