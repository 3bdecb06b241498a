-- For the code's proofs: no public contract needs it.
-- A number that each turn of the machine lowers, until the machine is over.
use Rattle.std.specs.Prelude.{ℕ, ◌+◌, ◌*◌, List, [], ◌∷◌}
use Rattle.pd_machine.specs.declared.run.Pending.{Pending}
use Rattle.pd_machine.specs.declared.run.Pending.TheVariants.{Operand}
use Rattle.pd_machine.specs.declared.run.Mode.{Mode}
use Rattle.pd_machine.specs.declared.run.Mode.TheVariants.{Entering, Starting, Coming}
use Rattle.pd_machine.specs.declared.run.NodeResult.TheVariants.{Stops}
use Rattle.pd_machine.specs.Events.{State}
use Rattle.pd_meaning.specs.Machine.{Machine}

-- how much something that waits adds to the weight
abbrev pub pending_weight : Pending → ℕ
pending_weight (Operand n values rest) = 2
pending_weight _ = 1

-- how much all that waits adds to it
abbrev pub stack_weight : List Pending → ℕ
stack_weight [] = 0
stack_weight (x ∷ xs) = pending_weight x + stack_weight xs

-- once a stop comes no node is entered any more
abbrev pub mode_weight : Mode → ℕ
mode_weight (Entering n) = 6
mode_weight (Starting n) = 10
mode_weight (Coming (Stops x)) = 1
mode_weight (Coming _) = 7

-- a number that each turn lowers
abbrev pub weight_of : Mode → List Pending → State → ℕ
weight_of mode stack s = 6 * s.left + stack_weight stack + mode_weight mode

-- the same, of a machine
abbrev pub weight : Machine → ℕ
weight m = weight_of m.mode m.stack m.state
