-- Definition, for the laws on a record that grows (Laws) and for the proofs of code; what a record is needs none of it.
-- How far the suspensions of a context are known: whatever is seen and replied later, they are these so far.
use Rattle.std.specs.Prelude.{◌≡◌, ℕ, ◌<◌, ◌≤◌, ◌==◌, Bool, List, [], ◌∷◌, ◌++◌, map, length, slice_get, Option, None, Some}
use Rattle.std.specs.List.{list_all}
use Rattle.pd_tree.specs.Program.{Program}
use Rattle.pd_machine.specs.Events.{Told}
use Rattle.pd_plan.specs.declared.plan.Plan.{Plan}
use Rattle.pd_board.specs.declared.answers.Drawn.{Drawn}
use Rattle.pd_board.specs.declared.answers.Sight.{Sight}
use Rattle.pd_suspend.specs.declared.suspension.Suspension.{Suspension}
use Rattle.pd_suspend.specs.declared.suspension.Reason.{Reason}
use Rattle.pd_suspend.specs.Stops.{Setting, Answered, answered_to, hit_by, reasons_at, suspension, stops_at, stops_of}
use Rattle.pd_record.specs.Logs.{answer_at}

-- the setting in which these suspensions were answered as they are, and the later ones are answered so
abbrev pub setting_with : Plan → Program → ℕ → (ℕ → ℕ → Drawn) → List Suspension → List Answered → Setting
setting_with plan p context drawn stops more = record { plan = plan; program = p; context = context; drawn = drawn; answered = map answered_to stops ++ more }

-- the suspensions at these events, which are below n
abbrev pub IsStoppedTo : Plan → Program → ℕ → ℕ → List Told → List Sight → List Suspension → Type 0
IsStoppedTo plan p context n ts seen stops =
    (drawn : ℕ → ℕ → Drawn) → ((e b : ℕ) → e < n → drawn e b ≡ answer_at seen e b) → (more : List Answered)
    → stops_of (setting_with plan p context drawn stops more) ts ≡ stops

-- and at the event t after them, where these sessions are left
abbrev pub IsStoppingAt : Plan → Program → ℕ → List Told → Told → List ℕ → List Sight → List Suspension → Type 0
IsStoppingAt plan p context ts t left seen stops =
    (drawn : ℕ → ℕ → Drawn) → ((e b : ℕ) → e ≤ t.event.number → drawn e b ≡ answer_at seen e b) → (more : List Answered)
    → stops_of (setting_with plan p context drawn stops more) (ts ++ t ∷ []) ≡ stops_at (setting_with plan p context drawn stops more) ts t left stops

-- the reasons that a session has at the event t after these, by what was seen
abbrev pub reasons_by : Plan → Program → ℕ → List Told → List Sight → List Suspension → Told → ℕ → List Reason
reasons_by plan p context ts seen stops t s = reasons_at (setting_with plan p context (answer_at seen) stops []) ts stops t s

-- the suspension of a session for these reasons after these suspensions, with what it was answered
abbrev pub stop_by : Plan → Program → ℕ → List Sight → List Suspension → Told → ℕ → List Reason → Answered → Suspension
stop_by plan p context seen stops t s rs given = suspension (setting_with plan p context (answer_at seen) stops []) t s (length stops) rs given

-- the hit of a session in what was seen, where there is one
abbrev pub hit_in : Plan → Program → ℕ → Told → Sight → Option Reason
hit_in plan p s t x = elim (slice_get plan.bindings x.binding) [ None ↦ None | Some spec ↦ hit_by p s t x.binding spec x.drawn ]

-- whether all of this was seen at event n
abbrev pub are_at : ℕ → List Sight → Bool
are_at n seen = list_all (λ x. x.event == n) seen
