use Rattle.std.proofs.Common.{vec_len}
use Rattle.pd_link.specs.Walks.{IsPlacedTo}
use Rattle.pd_link.proofs.places.places_of.Given as goal

abbrev pub invariant-loop-shape : goal.invariant-loop-shape
invariant-loop-shape l = IsPlacedTo l.n l.all l.found l.parts.items l.shapes.items l.walker l.places.items

abbrev pub decreases-loop-shape : goal.decreases-loop-shape
decreases-loop-shape l = vec_len l.shapes
