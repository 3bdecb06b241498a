-- The rows of the bindings so far, and whether these are always drawn.
use Rattle.std.proofs.Common.{◌≡◌, map, take}
use Rattle.pd_filter.specs.Matching.{row_of, is_always_drawn}
use Rattle.pd_filter.proofs.matching.matches.Given as goal

abbrev pub invariant-loop-binding : goal.invariant-loop-binding
invariant-loop-binding l =
    (l.rows.items ≡ map (row_of l.program) (take l.binding-index l.plan.bindings))
    × (l.always.items ≡ map is_always_drawn (take l.binding-index l.plan.bindings))
