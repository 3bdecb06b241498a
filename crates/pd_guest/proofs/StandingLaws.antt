-- An event that is placed stands at its node.
use Rattle.std.proofs.Common.{◌≡◌, ◌<◌, ℕ, length, subst}
use Rattle.pd_order.specs.Order.{IsPlaced}
use Rattle.pd_guest.specs.Moment.{At, IsStanding}

pub standing_by : (m : At) (nodes : ℕ) → nodes ≡ length m.program.nodes → IsPlaced nodes m.told.event m.told.scene → IsStanding m
standing_by m nodes same placed = record { node = subst (λ n. m.told.event.node < n) same placed.node; frame = placed.innermost }
