use Rattle.std.proofs.Common.{◌<◌, ◌≤◌, ◌++◌, ◌∷◌, [], length, slice_set, sym, ap, arith, ◌∙◌}
use Rattle.pd_origins.specs.Ledger.{put_in}
use Rattle.pd_origins.proofs.Puts.{put_in_grown, put_in_within}
use Rattle.pd_origins.proofs.ledger.put_main.Goals as goal

pub grow-preserved : goal.grow-preserved
grow-preserved c =
    let test = c.grow-test.true in
    let count = c.len.ensures in
    let same = c.grow.mains.ok.0 in
    let short : length c.grow.mains.items ≤ c.args.source = omega (arith, test, count, same) in
    ap (put_in c.args.source c.args.slot c.args.event) (c.in_ok-push.ensures.items ∙ ap (λ x. c.grow.mains.items ++ x ∷ []) (c.of.ensures ∙ c.new.ensures.items))
    ∙ put_in_grown c.args.source c.args.slot c.args.event c.grow.mains.items short
    ∙ c.grow.invariant

pub returns : goal.returns
returns c =
    let test = c.grow-test.false in
    let count = c.len.ensures in
    let same = c.grow.mains.ok.0 in
    let within : c.args.source < length c.grow.mains.items = omega (arith, test, count, same) in
    ap (slice_set c.grow.mains.items c.args.source) c.in_ok-put.ensures
    ∙ sym (put_in_within c.args.source c.args.slot c.args.event c.grow.mains.items c.index_mut.result.now within c.index_mut.ensures.value)
    ∙ c.grow.invariant
