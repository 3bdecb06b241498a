use Rattle.std.proofs.Common.{◌≡◌, map, take}
use Rattle.pd_shared.proofs.shared.numbers_of.Given as goal

abbrev pub invariant-loop-row : goal.invariant-loop-row
invariant-loop-row l = map (λ r. r.items) l.all.items ≡ take l.row-index l.rows
