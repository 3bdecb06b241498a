use Rattle.std.proofs.Common.{◌≡◌, subst, sym, ◌∙◌, option_copied}
use Rattle.pd_machine.specs.Events.{Scene, scene_value}
use Rattle.pd_machine.proofs.Changed.{standing_value}
use Rattle.pd_machine.proofs.scene.Scene.value.Goals as goal

pub returns : goal.returns
returns c =
    let F : Scene = record { frames = c.self.inside.frames.now; mains = c.self.inside.mains.now } in
    subst (λ s. option_copied c.value_at.result ≡ scene_value s c.args.i c.args.up c.args.slot) c.self.view_is
    (c.value_at.ensures ∙ sym (standing_value c.self.inside.node F c.args.i c.args.up c.args.slot))
