use Rattle.std.proofs.Common.{ap, length, [], arith}
use Rattle.pd_tree.specs.Linked.{names_in}
use Rattle.pd_link.proofs.Variables.{length-with_parameters}
use Rattle.pd_link.proofs.walk.slots.Goals as goal

pub overflow_cast-len : goal.overflow_cast-len
overflow_cast-len c =
    let names = ap (λ k. length (names_in k)) c.in-SlFunction.is in
    let seen = c.in_ok-seen-in-SlFunction.seen in
    omega (arith, c.len.ensures, seen.ok.0, ap length c.in_ok-seen-in-SlFunction.ensures, length-with_parameters [] c.as_slice.result.now, ap length c.as_slice.ensures, names, c.requires)
