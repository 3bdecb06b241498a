-- From the contract of a context to what the report asks for.
use Rattle.std.proofs.Common.{◌≡◌, ℕ, ◌+◌, ◌<◌, ◌==◌, true, List, [], ◌∷◌, ◌++◌, map, refl, subst, ◌∙◌, eq-eqb}
use Rattle.std.specs.List.{All}
use Rattle.std.proofs.lemmas.Bool.{and_from}
use Rattle.pd_tree.specs.Program.{Program}
use Rattle.pd_plan.specs.declared.plan.Plan.{Plan}
use Rattle.pd_board.specs.declared.answers.ActResult.{ActResult}
use Rattle.pd_board.specs.declared.answers.ActResult.TheVariants as results
use Rattle.pd_board.specs.declared.answers.Known.{Known}
use Rattle.pd_board.specs.Standing.{Standing}
use Rattle.pd_board.specs.Answers.{is_result_of}
use Rattle.pd_suspend.specs.declared.suspension.Suspension.{Suspension}
use Rattle.pd_suspend.specs.declared.context.ContextRecord.{ContextRecord}
use Rattle.pd_suspend.specs.Answers.{as_handed, are_results_of, Carries}
use Rattle.pd_shared.specs.Sitting.{Sitting, standing_of}
use Rattle.pd_guest.specs.Replying.{act_of, answer_of}
use Rattle.pd_run.specs.Run.{IsScripted}
use Rattle.pd_run.specs.Done.{IsDone}
use Rattle.pd_run.proofs.Ordered.{events_numbered}
use Rattle.pd_threads.specs.Tasks.{is_scripted, IsContextRun}

-- ---- each suspension carries its script's answer

one_result : (r : ActResult) → is_result_of (act_of r) r ≡ true
one_result (results.Attached b r) = eq-eqb b b refl
one_result (results.Disposed b r) = eq-eqb b b refl
one_result (results.Enabled b r) = eq-eqb b b refl
one_result (results.Disabled b r) = eq-eqb b b refl

own_results : (rs : List ActResult) → are_results_of (map act_of rs) rs ≡ true
own_results [] = refl
own_results (r ∷ rs) = and_from (is_result_of (act_of r) r) (are_results_of (map act_of rs) rs) (one_result r) (own_results rs)

carries_own : (x : Suspension) → Carries x (answer_of x)
carries_own x = record { acts = own_results x.acts; resume = refl }

all_scripted : (plan : Plan) (stops : List Suspension) → All (λ x. is_scripted plan (as_handed x) (answer_of x)) stops → (c : ℕ) → All (IsScripted plan c) stops
all_scripted plan stops h c k d lt = subst (Carries _) (h k d lt) (carries_own _)

-- ---- a context that ran

pub context_is_done : (plan : Plan) (p : Program) (start : ℕ → Known) (c : ℕ) (old : Standing) (seat : Sitting) (r : ContextRecord) → IsContextRun plan p c old (standing_of seat) r
    → ((b : ℕ) → old.known b ≡ start b) → old.replies ≡ [] → ((s : ℕ) → old.numbers s ≡ [])
    → IsDone (IsScripted plan) plan p start c (record { start = old; seat = seat; result = r })
context_is_done plan p start c old seat r h known none no_numbers = record {
  known = known;
  no_replies = none;
  no_numbers = no_numbers;
  run = h.is.run;
  observed = h.is.observed;
  stopped = h.is.stopped;
  replied = h.replied;
  numbered = events_numbered plan p c r;
  answered = all_scripted plan r.stops h.given.admitted c;
}
