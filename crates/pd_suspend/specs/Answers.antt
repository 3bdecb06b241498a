-- Definition: what is answered to the suspensions of a context.
use Rattle.std.specs.Prelude.{◌≡◌, ℕ, Bool, true, false, ◌==◌, ◌&&◌, List, [], ◌∷◌, map, filter, slice_index_or}
use Rattle.std.specs.List.{flat_map}
use Rattle.pd_plan.specs.declared.plan.Act.{Act}
use Rattle.pd_plan.specs.declared.plan.Answer.{Answer}
use Rattle.pd_plan.specs.declared.plan.Resume.TheVariants.{Continue}
use Rattle.pd_plan.specs.declared.plan.Plan.{Plan}
use Rattle.pd_plan.specs.Sound.{AnswerRefers, ResumeFits}
use Rattle.pd_board.specs.declared.answers.ActResult.{ActResult}
use Rattle.pd_board.specs.Answers.{is_result_of}
use Rattle.pd_suspend.specs.declared.suspension.Suspension.{Suspension}

-- ---- answers

-- an answer without acts after which the run goes on
abbrev pub goes_on : Answer
goes_on = record { first = []; resume = Continue }

-- answer k of a session's script, from 0; past the script and for a session that the plan doesn't have it is one without acts after
-- which the run goes on
abbrev pub scripted : Plan → ℕ → ℕ → Answer
scripted plan session k = slice_index_or (slice_index_or (map (λ s. s.answers) plan.sessions) session []) k goes_on

-- acts on bindings of the plan, of which only observers are switched on or off, and a way to go on whose numbers are in range
pub record IsLawful (plan : Plan) (a : Answer) : Type 0 where
  pub acts : AnswerRefers plan.bindings a
  pub resume : ResumeFits a.resume

-- ---- what an answer comes to

-- one result for each act, in order
abbrev pub are_results_of : List Act → List ActResult → Bool
are_results_of [] [] = true
are_results_of (a ∷ rest) (r ∷ rs) = is_result_of a r && are_results_of rest rs
are_results_of _ _ = false

-- a suspension as it is handed to who answers: nothing was done yet
abbrev pub as_handed : Suspension → Suspension
as_handed x = record x { acts = []; resume = Continue }

-- the suspension carries this answer: one result for each of its acts, and its way to go on
pub record Carries (x : Suspension) (a : Answer) : Type 0 where
  pub acts : are_results_of a.first x.acts ≡ true
  pub resume : x.resume ≡ a.resume

-- ---- lists of suspensions

-- those of a session
abbrev pub stops_in : ℕ → List Suspension → List Suspension
stops_in s stops = filter (λ x. x.session == s) stops

-- the answer numbers of a session's suspensions, in order
abbrev pub numbers_in : ℕ → List Suspension → List ℕ
numbers_in s stops = map (λ x. x.answer) (stops_in s stops)

-- what all acts were answered, each with the number of its event, in order
abbrev pub acts_of : List Suspension → List (ℕ × ActResult)
acts_of stops = flat_map (λ x. map (λ r. (x.event, r)) x.acts) stops
