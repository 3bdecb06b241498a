use Rattle.std.proofs.Common.{arith}
use Rattle.pd_top.proofs.top.covered.Goals as goal

pub cover-requires-clause-few : goal.cover-requires-clause-few
cover-requires-clause-few g c = omega (arith, c.requires.sound.fits.sources.len.1)

pub returns : goal.returns
returns g c = (c.in_ok-report.ensures, c.in_ok-coverage.ensures, c.in_ok-text.ensures)
