use Rattle.pd_top.proofs.top.ran.Goals as goal

pub returns : goal.returns
returns g c = (c.in_ok-report.ensures, c.in_ok-text.ensures)
