use Rattle.std.proofs.Common.{◌≡◌, ◌∙◌, length, ap, arith}
use Rattle.pd_sections.proofs.Source.position_of.Goals as goal

pub overflow_cast-result : goal.overflow_cast-result
overflow_cast-result c =
    let is_line = c.lines_begun-line.ensures c.self.inside.bytes.items (c.deref.ensures.value ∙ c.self.invariant.starts) in
    let same : length c.self.inside.bytes.items ≡ length c.args.self.now.bytes = ap (λ w. length w.bytes) c.self.view_is in
    omega (arith, is_line.room, same, c.self.invariant.small)
