use Rattle.std.proofs.Common.{◌≡◌, ◌<◌, ◌-◌, length, Some, subst, sym, ap, ◌∙◌, arith, get_or}
use Rattle.pd_machine.specs.Events.{Scene, standing, frame_of, at_of}
use Rattle.pd_machine.proofs.Changed.{standing_at_first, standing_at_other, frame_at, length_of_changed}
use Rattle.pd_machine.proofs.scene.Scene.at.Goals as goal

pub returns-then-i-eq0 : goal.returns-then-i-eq0
returns-then-i-eq0 c =
    let F : Scene = record { frames = c.self.inside.frames.now; mains = c.self.inside.mains.now } in
    let within : c.args.i < length F.frames = subst (λ l. c.args.i < l) (ap (λ s. length s.frames) (sym c.self.view_is) ∙ length_of_changed F.frames (length F.frames - 1) (λ f. record f { at = c.self.inside.node })) c.requires in
    subst (λ s. at_of (frame_of s.frames c.args.i) ≡ Some c.self.inside.node) c.self.view_is
    (subst (λ k. at_of (frame_of (standing c.self.inside.node F).frames k) ≡ Some c.self.inside.node) (sym c.if-i-eq0.true) (standing_at_first c.self.inside.node F (omega arith)))

pub returns-else-i-eq0 : goal.returns-else-i-eq0
returns-else-i-eq0 c =
    let F : Scene = record { frames = c.self.inside.frames.now; mains = c.self.inside.mains.now } in
    let i = c.args.i in
    let x = c.index-self-self.result in
    let within : i < length F.frames = subst (λ l. i < l) (ap (λ s. length s.frames) (sym c.self.view_is) ∙ length_of_changed F.frames (length F.frames - 1) (λ f. record f { at = c.self.inside.node })) c.requires in
    subst (λ s. at_of (frame_of s.frames i) ≡ Some (get_or F.frames (length F.frames - 1 - i) x).at) c.self.view_is
    (ap at_of (standing_at_other c.self.inside.node F i c.if-i-eq0.false within ∙ frame_at F.frames i x within c.index-self-self.is) ∙ ap (λ f. Some f.at) c.index-self-self.is)
