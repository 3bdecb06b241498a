-- Definition: what a condition with resolved names comes to, and that it stands for a condition at a node.
use Rattle.std.specs.Prelude.{◌≡◌, ℕ, List, Option, None, Some, unwrap_or}
use Rattle.pd_values.specs.declared.value.Value.{Value}
use Rattle.pd_values.specs.declared.value.Value.TheVariants.{Number, Text, Null}
use Rattle.pd_tree.specs.declared.kind.Visible.{Visible}
use Rattle.pd_tree.specs.Program.{Program}
use Rattle.pd_machine.specs.Events.{Scene, at_of, frame_of, scene_value}
use Rattle.pd_plan.specs.declared.condition.Condition.{Condition}
use Rattle.pd_condition.specs.declared.Truth.{Truth}
use Rattle.pd_condition.specs.declared.resolved.Resolved as resolved
use Rattle.pd_condition.specs.declared.resolved.Resolved.{Resolved, Row_of-Resolved, end_of-Resolved, more_of-Resolved}
use Rattle.pd_condition.specs.Truths.{joined, value_of, verity, truth_of}
use Rattle.pd_condition.specs.Seeing.{values_of}

-- the value at a scene, if there is one. A side of an operator stands in a row of one
abbrev mutual
  pub value_at : Scene → Resolved → Option Value
  value_at scene (resolved.Number z) = Some (Number z)
  value_at scene (resolved.Text t) = Some (Text t)
  value_at scene (resolved.Variable up slot) = Some (unwrap_or (scene_value scene 0 up slot) Null)
  value_at scene resolved.Unseen = None
  value_at scene (resolved.Binary' op l left r right) = joined op (side_at scene left) (side_at scene right)

  pub side_at : {m : _} → Scene → Row_of-Resolved m → Option Value
  side_at scene end_of-Resolved = None
  side_at scene (more_of-Resolved c rest) = value_at scene c

-- what it comes to at a scene
abbrev pub truth_at : Scene → Resolved → Truth
truth_at scene r = verity (value_at scene r)

-- it has the condition's value at each scene, where the innermost frame sees these variables
abbrev pub IsResolved : List Visible → Condition → Resolved → Type 0
IsResolved seen c r = (scene : Scene) → value_at scene r ≡ value_of (values_of scene seen) c

-- it comes to what the condition comes to, at each scene whose innermost frame stands at the node
abbrev pub IsResolvedAt : Program → ℕ → Condition → Resolved → Type 0
IsResolvedAt p n c r = (scene : Scene) → at_of (frame_of scene.frames 0) ≡ Some n → truth_at scene r ≡ truth_of c p scene
