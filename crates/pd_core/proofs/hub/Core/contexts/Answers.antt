use Rattle.std.proofs.Common.{ap, ◌∙◌}
use Rattle.pd_core.specs.Tokens.{Hub}
use Rattle.pd_core.proofs.hub.Core.contexts.Goals as goal

pub returns : goal.returns
returns c = c.self.invariant.9 ∙ ap (λ (h : Hub). h.layout.contexts) c.self.view_is
