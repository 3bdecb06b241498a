use Rattle.std.proofs.Common.{arith}
use Rattle.pd_top.proofs.top.summed.Goals as goal

pub summary-requires : goal.summary-requires
summary-requires g c = omega (arith, c.in_ok-report.ensures.counted.contexts, c.requires.sound.fits.contexts.len.1)

pub returns : goal.returns
returns g c = (c.in_ok-report.ensures, c.in_ok-told.ensures, c.in_ok-text.ensures)
