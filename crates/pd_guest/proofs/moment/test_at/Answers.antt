-- Resolved at the node, the condition comes to what it comes to there.
use Rattle.std.proofs.Common.{◌∙◌}
use Rattle.pd_guest.proofs.moment.test_at.Goals as goal

pub returns : goal.returns
returns c = c.holds.ensures ∙ c.in_ok-resolved.ensures c.args.scene.now c.requires.frame
