use Rattle.std.proofs.Common.{◌<◌, length, ap, ◌∙◌, arith}
use Rattle.std.specs.Ordering.{is_lt}
use Rattle.pd_paths.proofs.Compared.{at_end}
use Rattle.pd_paths.proofs.order.compare.Goals.{then-loop-i-test+else-i-b, else-loop-i-test}
use Rattle.pd_paths.proofs.order.compare.Goals as goal

pub returns : goal.returns
returns c =
    let i = c.loop-i.invariant in
    let over : c.loop-i.i < length c.args.a.now → c.loop-i.i < length c.args.b.now → ⊥ = elim c.loop-i-test.branch [
      | then-loop-i-test+else-i-b w ↦ λ h k. (let n = w.if-i-b in omega (arith, n, k))
      | else-loop-i-test w ↦ λ h k. (let n = w.loop-i-test in omega (arith, n, h))
    ] in
    ap is_lt c.cmp-2.ensures ∙ at_end c.args.a.now c.args.b.now c.loop-i.i i.within i.as_well over i.rest
