use Rattle.std.proofs.Common.{refl, ◌∙◌}
use Rattle.pd_load.proofs.Scopes.{opened}
use Rattle.pd_load.proofs.scope.Scope.open.Goals as goal

pub returns : goal.returns
returns c = λ s h. opened c.args.self.now _ s h c.args.left c.len-visible.result (c.len-visible.ensures ∙ c.args.self.now.visible.ok.0) refl c.in_ok-push.ensures.items
