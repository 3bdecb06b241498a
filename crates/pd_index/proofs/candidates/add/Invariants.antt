-- The nodes so far come behind what was there.
use Rattle.std.proofs.Common.{◌≡◌, ◌++◌, take}
use Rattle.pd_index.proofs.candidates.add.Given as goal

abbrev pub invariant-loop-n : goal.invariant-loop-n
invariant-loop-n l = l.some.items ≡ l.fn.some.items ++ take l.n-index l.more
