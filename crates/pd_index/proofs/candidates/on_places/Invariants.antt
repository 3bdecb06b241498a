-- The nodes of the sources so far.
use Rattle.std.proofs.Common.{◌≡◌, flat_map, take}
use Rattle.pd_index.specs.Kept.{of_source}
use Rattle.pd_index.proofs.candidates.on_places.Given as goal

abbrev pub invariant-loop-source : goal.invariant-loop-source
invariant-loop-source l = l.some.items ≡ flat_map (of_source l.lines l.filter.lines) (take l.source-index l.source-items)
