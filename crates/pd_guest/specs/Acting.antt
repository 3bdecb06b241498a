-- For the code's proofs: no public contract needs it.
-- What acts do to a board.
use Rattle.std.specs.Prelude.{◌≡◌, ℕ, ◌+◌, true, List, ◌++◌, map}
use Rattle.std.specs.List.{list_any}
use Rattle.pd_tree.specs.Program.{Program}
use Rattle.pd_machine.specs.Events.{Told}
use Rattle.pd_plan.specs.declared.plan.Act.{Act}
use Rattle.pd_plan.specs.declared.plan.Act.TheVariants.{Attach, Dispose, Enable, Disable}
use Rattle.pd_plan.specs.declared.plan.Plan.{Plan}
use Rattle.pd_board.specs.declared.answers.ActResult.{ActResult}
use Rattle.pd_board.specs.declared.answers.Known.{Known}
use Rattle.pd_board.specs.declared.answers.Known.TheVariants.{Fresh, Disposed}
use Rattle.pd_board.specs.Answers.{is_attach}
use Rattle.pd_board.specs.Standing.{Standing}
use Rattle.pd_board.specs.Order.{says_gone}
use Rattle.pd_record.specs.Step.{IsActStep}
use Rattle.pd_guest.specs.declared.deliver.Deliveries.{Deliveries}
use Rattle.pd_guest.specs.declared.serving.Opened.{Opened}
use Rattle.pd_guest.specs.Delivering.{HasReplies}
use Rattle.pd_guest.specs.Keeping.{IsKeptAt}

-- the binding of an act
abbrev pub binding_of : Act → ℕ
binding_of (Attach b) = b
binding_of (Dispose b) = b
binding_of (Enable b) = b
binding_of (Disable b) = b

-- each binding of which an earlier answer says that it is disposed is known so
abbrev pub AreKnown : List (ℕ × ActResult) → Standing → Type 0
AreKnown done s = (c : ℕ) → list_any (λ a. says_gone c a.1) done ≡ true → s.known c ≡ Disposed

-- an act was answered r
pub record IsActDone (r : ActResult) (old new : Standing) : Type 0 where
  pub step : (plan : Plan) (p : Program) (ts : List Told) (done : List (ℕ × ActResult)) → HasReplies done old → AreKnown done old → IsActStep plan p ts done r old new
  pub known : (b : ℕ) → is_attach b r ≡ true → new.known b ≡ Fresh → ⊥
  pub same : new ≡ record old { replies = new.replies; known = new.known; spare = new.spare }

-- acts at an event were answered so
pub record AreActsDone (rs : List ActResult) (old new : Standing) : Type 0 where
  pub kept : (plan : Plan) (p : Program) (start : ℕ → Known) (n : ℕ) (ts : List Told) (done : List (ℕ × ActResult)) (opens : List Opened) (kept : Deliveries)
      → IsKeptAt plan p start (n + 1) ts done old opens kept
      → IsKeptAt plan p start (n + 1) ts (done ++ map (λ r. (n, r)) rs) new opens kept
  pub replies : new.replies ≡ old.replies ++ rs
  pub same : new ≡ record old { replies = new.replies; known = new.known; spare = new.spare }
