use Rattle.std.proofs.Common.{◌+◌, arith, ap, ◌∙◌}
use Rattle.pd_core.specs.Layout.{front, bindings}
use Rattle.pd_core.specs.Tokens.{Hub}
use Rattle.pd_core.proofs.hub.Core.session_word.Goals as goal

pub overflow_add-result : goal.overflow_add-result
overflow_add-result c = omega (arith, c.self.invariant.6, c.ranges.s)

pub returns : goal.returns
returns c = ap (λ n. n + c.args.s) (c.self.invariant.4 ∙ ap (λ (h : Hub). front h.layout + bindings h.layout) c.self.view_is)
