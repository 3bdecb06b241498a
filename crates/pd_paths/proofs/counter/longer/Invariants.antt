use Rattle.std.proofs.Common.{◌≡◌, take}
use Rattle.pd_paths.proofs.counter.longer.Given as goal

abbrev pub invariant-loop-n : goal.invariant-loop-n
invariant-loop-n l = l.nodes.items ≡ take l.n-index l.path
