-- Definition: what was answered to the suspensions of a context, and what who answers has kept of it.
use Rattle.std.specs.Prelude.{◌≡◌, ℕ, Bool, if◌then◌else◌, List, ◌++◌, map, Option, None, Some}
use Rattle.std.specs.List.{All, filter_map}
use Rattle.pd_plan.specs.declared.plan.Act.{Act}
use Rattle.pd_plan.specs.declared.plan.Act.TheVariants as acts
use Rattle.pd_plan.specs.declared.plan.Answer.{Answer}
use Rattle.pd_board.specs.declared.answers.ActResult.{ActResult}
use Rattle.pd_board.specs.declared.answers.ActResult.TheVariants as results
use Rattle.pd_suspend.specs.declared.suspension.Suspension.{Suspension}
use Rattle.pd_suspend.specs.Answers.{as_handed}

-- the act that was answered so
abbrev pub act_of : ActResult → Act
act_of (results.Attached b r) = acts.Attach b
act_of (results.Disposed b r) = acts.Dispose b
act_of (results.Enabled b r) = acts.Enable b
act_of (results.Disabled b r) = acts.Disable b

-- what a suspension was answered
abbrev pub answer_of : Suspension → Answer
answer_of x = record { first = map act_of x.acts; resume = x.resume }

-- a suspension of a session that is kept, as it was handed, with its answer
abbrev pub kept_stop : (ℕ → Bool) → Suspension → Option (Suspension × Answer)
kept_stop keeps x = if keeps x.session then Some (as_handed x, answer_of x) else None

abbrev pub kept_by : (ℕ → Bool) → List Suspension → List (Suspension × Answer)
kept_by keeps stops = filter_map (kept_stop keeps) stops

-- each answer is one that may be given for its suspension as it was handed, and who answers has added those of the sessions that it keeps
pub record IsGiven (admits : Suspension → Answer → Type 0) (keeps : ℕ → Bool) (first list : List (Suspension × Answer)) (stops : List Suspension) : Type 0 where
  pub admitted : All (λ x. admits (as_handed x) (answer_of x)) stops
  pub kept : list ≡ first ++ kept_by keeps stops
