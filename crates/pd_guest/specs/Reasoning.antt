-- Twin of the code that gathers a session's reasons, for its proofs.
use Rattle.std.specs.Prelude.{ℕ, List, ◌++◌}
use Rattle.std.specs.List.{filter_map}
use Rattle.pd_board.specs.declared.answers.Sight.{Sight}
use Rattle.pd_suspend.specs.declared.suspension.Reason.{Reason}
use Rattle.pd_suspend.specs.declared.suspension.Reason.TheVariants.{Step, Halt}
use Rattle.pd_suspend.specs.declared.stepper.Stepper.{Stepper}
use Rattle.pd_suspend.specs.Counters.{sees_any}
use Rattle.pd_suspend.specs.Stops.{where_so}
use Rattle.pd_guest.specs.declared.reasons.Place.{Place}
use Rattle.pd_guest.specs.Moment.{At}
use Rattle.pd_guest.specs.Hitting.{hit_in}

-- the hits among what was seen, the end of the step, and the halt
abbrev pub reasons_seen : At → List Sight → ℕ → Stepper → Place → List Reason
reasons_seen m sights session stepper place =
    filter_map (hit_in m session) sights ++ where_so (sees_any stepper place.before place.after m.told.event.depth) Step ++ where_so place.halts Halt
