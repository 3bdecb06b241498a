-- One more that was seen is looked at.
use Rattle.pd_guest.proofs.HitsLaws.{hits-next}
use Rattle.pd_guest.specs.Hitting.{hit_in}
use Rattle.std.proofs.Common.{◌∙◌}
use Rattle.pd_guest.proofs.hits.hits_of.Goals as goal

pub sights-preserved : goal.sights-preserved
sights-preserved c = c.in_ok-keep.ensures ∙ hits-next (hit_in c.args.m.now c.args.session) c.args.sights.now c.sights.sight-index _ c.sights.hits c.in_ok-found.found c.sights-test.true c.sights.invariant c.in_ok-found.ensures
