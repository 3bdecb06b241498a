-- For the code's proofs: no public contract needs it.
-- An event of a context, with what it is served by.
use Rattle.std.specs.Prelude.{◌≡◌, ◌<◌, ℕ, Bool, length, Some}
use Rattle.pd_tree.specs.Program.{Program}
use Rattle.pd_machine.specs.Events.{Scene, Told, at_of, frame_of}
use Rattle.pd_plan.specs.declared.plan.Plan.{Plan}
use Rattle.pd_condition.specs.Truths.{truth_for, is_false}
use Rattle.pd_record.specs.Logs.{has_binding}
pub use Rattle.pd_record.specs.Serving.{is_observed, observers_at}

-- a plan, its program, and an event with the frames at it
pub record At : Type 0 where
  pub plan : Plan
  pub program : Program
  pub told : Told

-- the event is of a node of the program, and the innermost frame stands there
pub record IsStanding (m : At) : Type 0 where
  pub node : m.told.event.node < length m.program.nodes
  pub frame : at_of (frame_of m.told.scene.frames 0) ≡ Some m.told.event.node

-- whether the condition of a binding of the plan is false at a scene
abbrev pub is_false_at : Plan → Program → ℕ → Scene → Bool
is_false_at plan p b scene = has_binding plan b (λ x. is_false (truth_for x p scene))
