-- Definition, which public contracts cite.
-- What the actions of a session do.
use Rattle.std.specs.Prelude.{◌≡◌, ℕ, ◌+◌, ◌<◌, ◌≤◌, ◌==◌, true, false, List, [], ◌∷◌, ◌++◌}
use Rattle.pd_plan.specs.declared.plan.Act.{Act}
use Rattle.pd_plan.specs.declared.plan.Act.TheVariants.{Attach, Dispose, Enable, Disable}
use Rattle.pd_plan.specs.declared.plan.Action.{Action}
use Rattle.pd_plan.specs.declared.plan.Action.TheVariants as actions
use Rattle.pd_board.specs.declared.answers.ActResult.{ActResult}
use Rattle.pd_board.specs.Answers.{is_result_of}
use Rattle.pd_board.specs.Standing.{Standing}
use Rattle.pd_board.specs.declared.waiting.Waited.{Waited}
use Rattle.pd_board.specs.Reading.{HasRead, IsWaited, reread}
use Rattle.pd_session.specs.declared.record.ActionResult.{ActionResult}
use Rattle.pd_session.specs.declared.record.ActionResult.TheVariants as results
use Rattle.pd_session.specs.Attaching.{attached_to}

-- the binding of an act
abbrev pub binding_of : Act → ℕ
binding_of (Attach b) = b
binding_of (Dispose b) = b
binding_of (Enable b) = b
binding_of (Disable b) = b

-- how many turns an action may wait
abbrev pub turns_of : Action → ℕ
turns_of (actions.Act a) = 0
turns_of (actions.Await count turns) = turns

-- and all of them
abbrev pub turns_in : List Action → ℕ
turns_in [] = 0
turns_in (a ∷ rest) = turns_of a + turns_in rest

-- with so many bindings: an act is on one of them, and a wait has at least one turn
abbrev pub MayDo : ℕ → Action → Type 0
MayDo count (actions.Act a) = binding_of a < count
MayDo count (actions.Await n turns) = 1 ≤ turns

-- a board that stood at `old`, with what acts and waits change as `new` has it
abbrev pub done_to : Standing → Standing → Standing
done_to new old = reread new (attached_to new old)

-- the act was made and got this answer, the only one that the board's answers have grown by; of other bindings no more is known
pub record IsActed (act : Act) (r : ActResult) (old new : Standing) : Type 0 where
  pub of : is_result_of act r ≡ true
  pub reply : new.replies ≡ old.replies ++ r ∷ []
  pub other : (c : ℕ) → (c == binding_of act) ≡ false → new.known c ≡ old.known c
  pub rest : new ≡ attached_to new old

-- a wait for this count of the session's answers, for at most so many turns, ended so
pub record IsAwaited (session count turns : ℕ) (w : Waited) (old new : Standing) : Type 0 where
  pub waited : IsWaited session count turns old new w
  pub read : HasRead session turns old new
  pub rest : new ≡ reread new old

-- what one action gave, and how it changed the board
abbrev pub IsDone : ℕ → Action → Standing → Standing → ActionResult → Type 0
IsDone session (actions.Act act) old new (results.Act r) = IsActed act r old new
IsDone session (actions.Await count turns) old new (results.Awaited n w) = (n ≡ count) × IsAwaited session count turns w old new
IsDone _ _ _ _ _ = ⊥

-- the actions, in order, each with what it gave
abbrev pub AreDone : ℕ → List Action → List ActionResult → Standing → Standing → Type 0
AreDone session [] [] old new = new ≡ old
AreDone session (a ∷ rest) (r ∷ rs) old new = (between : Standing) × IsDone session a old between r × AreDone session rest rs between new
AreDone _ _ _ _ _ = ⊥
