use Rattle.std.proofs.Common.{◌<◌, length, slice_set, ap, arith, ◌∙◌}
use Rattle.pd_machine.proofs.Changed.{changed_read}
use Rattle.pd_origins.specs.Ledger.{put}
use Rattle.pd_origins.proofs.ledger.put_live.Goals as goal

pub returns-in_ok-put : goal.returns-in_ok-put
returns-in_ok-put c =
    let old = c.index_mut.result.now in
    let test = c.if-k-len.true in
    let count = c.len.ensures in
    let same = c.args.live.now.ok.0 in
    let within : c.args.k < length c.args.live.now.items = omega (arith, test, count, same) in
    ap (λ xs. slice_set c.args.live.now.items c.args.k (record old { last = xs })) c.in_ok-put.ensures
    ∙ changed_read c.args.live.now.items c.args.k (λ x. record x { last = put c.args.slot c.args.event x.last }) old within c.index_mut.ensures.value
