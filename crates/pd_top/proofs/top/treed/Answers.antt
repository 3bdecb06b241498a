use Rattle.pd_top.proofs.top.treed.Goals as goal

pub returns : goal.returns
returns g c = (c.in_ok-report.ensures, c.in_ok-calls.ensures.trees, c.in_ok-calls.ensures.sums c.requires.rooted, c.in_ok-text.ensures)
