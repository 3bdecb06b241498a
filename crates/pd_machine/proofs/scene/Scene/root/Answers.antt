use Rattle.std.proofs.Common.{◌≡◌, ◌<◌, ◌-◌, length, Some, subst, sym, ap, ◌∙◌, get_or}
use Rattle.pd_machine.specs.Events.{Scene, frame_of, root_of}
use Rattle.pd_machine.proofs.Changed.{standing_root, frame_at, length_of_changed}
use Rattle.pd_machine.proofs.scene.Scene.root.Goals as goal

pub returns : goal.returns
returns c =
    let F : Scene = record { frames = c.self.inside.frames.now; mains = c.self.inside.mains.now } in
    let i = c.args.i in
    let x = c.index-self-self.result in
    let within : i < length F.frames = subst (λ l. i < l) (ap (λ s. length s.frames) (sym c.self.view_is) ∙ length_of_changed F.frames (length F.frames - 1) (λ f. record f { at = c.self.inside.node })) c.requires in
    subst (λ s. root_of (frame_of s.frames i) ≡ Some (get_or F.frames (length F.frames - 1 - i) x).root) c.self.view_is
    (standing_root c.self.inside.node F i ∙ ap root_of (frame_at F.frames i x within c.index-self-self.is) ∙ ap (λ f. Some f.root) c.index-self-self.is)
