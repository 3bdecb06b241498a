-- No variable before the index has the name.
use Rattle.std.proofs.Common.{◌≡◌, drop}
use Rattle.pd_condition.specs.Operands.{place_in}
use Rattle.pd_condition.proofs.resolved.place_of.Given as goal

abbrev pub invariant-seen : goal.invariant-seen
invariant-seen l = place_in l.seen l.name ≡ place_in (drop l.v-index l.seen) l.name
