-- Each kind by its rule.
use Rattle.std.proofs.Common.{sym, ◌∙◌}
use Rattle.pd_pl0_step.proofs.rules.combine.Goals as goal

pub returns-in-PlBody : goal.returns-in-PlBody
returns-in-PlBody c = rw (sym c.kind.ensures ∙ c.in-PlBody.is) c.block_value.ensures

pub returns-in-PlAssign : goal.returns-in-PlAssign
returns-in-PlAssign c = rw (sym c.kind.ensures ∙ c.in-PlAssign.is, ← c.as_slice.ensures, ← c.meaning.ensures) c.assigned.ensures

pub returns-in-PlWrite : goal.returns-in-PlWrite
returns-in-PlWrite c = rw (sym c.kind.ensures ∙ c.in-PlWrite.is, ← c.as_slice-in-PlWrite.ensures) c.written.ensures

pub returns-in-PlOdd : goal.returns-in-PlOdd
returns-in-PlOdd c = rw (sym c.kind.ensures ∙ c.in-PlOdd.is, ← c.as_slice-in-PlOdd.ensures) c.odd_at.ensures

pub returns-in-PlBinary : goal.returns-in-PlBinary
returns-in-PlBinary c = rw (sym c.kind.ensures ∙ c.in-PlBinary.is, ← c.as_slice-in-PlBinary.ensures) c.operate.ensures

pub returns-in-PlPlus : goal.returns-in-PlPlus
returns-in-PlPlus c = rw (sym c.kind.ensures ∙ c.in-PlPlus.is, ← c.as_slice-in-PlPlus.ensures) c.plus_at.ensures

pub returns-in-PlMinus : goal.returns-in-PlMinus
returns-in-PlMinus c = rw (sym c.kind.ensures ∙ c.in-PlMinus.is, ← c.as_slice-in-PlMinus.ensures) c.minus_at.ensures
