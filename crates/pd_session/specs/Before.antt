-- Definition, which public contracts cite.
-- The answers to the `before` lists of sessions, attached session by session on a board on which nobody else steps.
use Rattle.std.specs.Prelude.{ℕ, ◌==◌, if◌then◌else◌, List, [], ◌∷◌, ◌++◌}
use Rattle.std.specs.List.{list_any}
use Rattle.pd_plan.specs.declared.plan.Script.{Script}
use Rattle.pd_board.specs.declared.answers.ActResult.{ActResult}
use Rattle.pd_board.specs.declared.answers.ActResult.TheVariants as acts
use Rattle.pd_board.specs.declared.answers.Attach.{Attach}
use Rattle.pd_board.specs.declared.answers.Attach.TheVariants as attaches
use Rattle.pd_board.specs.Standing.{Standing}
use Rattle.pd_session.specs.Attaching.{IsAsBefore, AreAttached}

-- the first attach of a binding answers that it is attached now, a later one that it was already
abbrev pub attach_answer : List ℕ → ℕ → Attach
attach_answer earlier b = if list_any (λ x. x == b) earlier then attaches.Already else attaches.Attached

-- the answers to a list of attaches, where these bindings were attached earlier
abbrev pub answers_behind : List ℕ → List ℕ → List ActResult
answers_behind earlier [] = []
answers_behind earlier (b ∷ bs) = acts.Attached b (attach_answer earlier b) ∷ answers_behind (earlier ++ b ∷ []) bs

-- the answers to the `before` lists of these sessions, where these bindings were attached earlier
abbrev pub befores_behind : List ℕ → List Script → List (List ActResult)
befores_behind earlier [] = []
befores_behind earlier (s ∷ ss) = answers_behind earlier s.before ∷ befores_behind (earlier ++ s.before) ss

-- the `before` lists of these sessions were attached, session by session, with these answers
abbrev pub AreAllAttached : List Script → List (List ActResult) → Standing → Standing → Type 0
AreAllAttached [] [] old new = IsAsBefore old new
AreAllAttached (s ∷ ss) (rs ∷ more) old new = (between : Standing) × AreAttached s.before rs old between × AreAllAttached ss more between new
AreAllAttached _ _ old new = ⊥
