use Rattle.std.proofs.Common.{◌+◌, arith, ap, ◌∙◌}
use Rattle.pd_core.specs.Layout.{front, bindings}
use Rattle.pd_core.specs.Tokens.{Hub}
use Rattle.pd_core.proofs.hub.Core.binding_word.Goals as goal

pub overflow_add-result : goal.overflow_add-result
overflow_add-result c = let few = ap (λ (h : Hub). bindings h.layout) c.self.view_is in omega (arith, c.requires, c.self.invariant.4, c.self.invariant.6, c.self.invariant.7)

pub returns : goal.returns
returns c = ap (λ n. n + c.args.b) (c.self.invariant.7 ∙ ap (λ (h : Hub). front h.layout) c.self.view_is)
