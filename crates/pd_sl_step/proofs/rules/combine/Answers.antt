-- Each kind by its rule.
use Rattle.std.proofs.Common.{sym, ◌∙◌}
use Rattle.pd_sl_step.proofs.rules.combine.Goals as goal

pub returns-in-SlBinary : goal.returns-in-SlBinary
returns-in-SlBinary c = rw (sym c.kind.ensures ∙ c.in-SlBinary.is, ← c.as_slice-in-SlBinary.ensures) c.operate.ensures

pub returns-in-SlAssign : goal.returns-in-SlAssign
returns-in-SlAssign c = rw (sym c.kind.ensures ∙ c.in-SlAssign.is, ← c.as_slice-in-SlAssign.ensures, ← c.meaning.ensures) c.assigned.ensures

pub returns-in-SlReturn : goal.returns-in-SlReturn
returns-in-SlReturn c = rw (sym c.kind.ensures ∙ c.in-SlReturn.is, ← c.as_slice-in-SlReturn.ensures) c.returned.ensures
