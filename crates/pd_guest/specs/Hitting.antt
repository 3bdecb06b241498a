-- Twin of the code that gathers a session's hits, for its proofs.
use Rattle.std.specs.Prelude.{ℕ, Bool, true, false, slice_get, Option, None, Some}
use Rattle.pd_plan.specs.declared.plan.BindingSpec.{BindingSpec}
use Rattle.pd_break.specs.declared.hits.Decision.{Decision}
use Rattle.pd_break.specs.declared.hits.Decision.TheVariants.{Suspend, Count}
use Rattle.pd_board.specs.declared.answers.Sight.{Sight}
use Rattle.pd_suspend.specs.declared.suspension.Reason.{Reason}
use Rattle.pd_suspend.specs.Stops.{hit_by}
use Rattle.pd_guest.specs.Moment.{At}

abbrev pub is_suspend : Decision → Bool
is_suspend Suspend = true
is_suspend Count = false

-- the hit of a session, where what was seen is one of a binding of the plan that suspends it
abbrev pub hit_at : At → ℕ → Sight → Option BindingSpec → Option Reason
hit_at m session s None = None
hit_at m session s (Some spec) = hit_by m.program session m.told s.binding spec s.drawn

abbrev pub hit_in : At → ℕ → Sight → Option Reason
hit_in m session s = hit_at m session s (slice_get m.plan.bindings s.binding)
