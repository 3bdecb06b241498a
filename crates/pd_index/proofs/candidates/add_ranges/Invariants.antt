-- The nodes of the ranges so far come behind what was there.
use Rattle.std.proofs.Common.{◌≡◌, ◌++◌, flat_map, take}
use Rattle.pd_index.specs.Kept.{on_range}
use Rattle.pd_index.proofs.candidates.add_ranges.Given as goal

abbrev pub invariant-loop-range : goal.invariant-loop-range
invariant-loop-range l = l.some.items ≡ l.fn.some.items ++ flat_map (on_range l.lines l.source) (take l.range-index l.ranges)
