-- For proofs above: no public contract needs it.
-- What follows from the contracts of the calls that attach and that do a session's actions.
use Rattle.std.specs.Prelude.{◌≡◌, ℕ, ◌<◌, ◌++◌, true, List, [], flat_map}
use Rattle.std.specs.List.{filter_map}
use Rattle.pd_plan.specs.declared.plan.Action.{Action}
use Rattle.pd_plan.specs.declared.plan.Script.{Script}
use Rattle.pd_board.specs.declared.answers.ActResult.{ActResult}
use Rattle.pd_board.specs.declared.answers.Known.TheVariants as knowns
use Rattle.pd_board.specs.Answers.{has_attach}
use Rattle.pd_board.specs.Standing.{Standing}
use Rattle.pd_session.specs.declared.record.ActionResult.{ActionResult}
use Rattle.pd_session.specs.Before.{befores_behind, AreAllAttached}
use Rattle.pd_session.specs.Doing.{AreDone}
use Rattle.pd_session.specs.Results.{act_in, readings_of, AreResults}

-- on a board that is alone and on which nothing was done the answers follow from the lists, and what was attached is known so
abbrev pub BeforesAreAttached : Type 0
BeforesAreAttached = (sessions : List Script) (befores : List (List ActResult)) (old new : Standing) → old.alone ≡ true → old.replies ≡ [] → AreAllAttached sessions befores old new
    → (befores ≡ befores_behind [] sessions) × (new.replies ≡ flat_map (λ rs. rs) befores) × ((b : ℕ) → has_attach b new.replies ≡ true → new.known b ≡ knowns.Attached)

-- a board that read nothing of the session and of ended contexts, and that has contexts
pub record IsUnread (session : ℕ) (s : Standing) : Type 0 where
  pub loads : s.answer_loads session ≡ 0
  pub end_loads : s.end_loads ≡ 0
  pub last : s.last_answers session ≡ 0
  pub last_ends : s.last_ends ≡ 0
  pub some : 0 < s.contexts

-- what such a board has when the session's actions were done: their results, by what it read; only their answers; no numbers
pub record HasDone (session : ℕ) (script : List Action) (rs : List ActionResult) (old new : Standing) : Type 0 where
  pub results : AreResults old.contexts (new.last_answers session) (readings_of session new) script rs
  pub replies : new.replies ≡ old.replies ++ filter_map act_in rs
  pub sights : new.sights ≡ old.sights
  pub numbers : (s : ℕ) → new.numbers s ≡ old.numbers s
  pub contexts : new.contexts ≡ old.contexts

abbrev pub ResultsAreTold : Type 0
ResultsAreTold = (session : ℕ) (script : List Action) (rs : List ActionResult) (old new : Standing) → IsUnread session old → AreDone session script rs old new → HasDone session script rs old new
