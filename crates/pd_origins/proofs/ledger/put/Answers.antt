use Rattle.std.proofs.Common.{◌<◌, ◌≤◌, length, sym, ap, subst, ◌∙◌}
use Rattle.pd_origins.specs.Ledger.{put}
use Rattle.pd_origins.proofs.Puts.{put_grown, put_within}
use Rattle.pd_origins.proofs.ledger.put.Goals as goal

pub grow-preserved : goal.grow-preserved
grow-preserved c =
    ap (put c.args.slot c.args.event) c.in_ok-push.ensures
    ∙ put_grown c.args.slot c.args.event c.grow.slots (subst (λ xs. length xs ≤ c.args.slot) c.as_slice.ensures c.grow-test.true)
    ∙ c.grow.invariant

pub returns : goal.returns
returns c =
    c.set.ensures
    ∙ sym (put_within c.args.slot c.args.event c.grow.slots (subst (λ xs. c.args.slot < length xs) c.as_slice.ensures c.grow-test.false))
    ∙ c.grow.invariant
