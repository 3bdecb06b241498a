use Rattle.std.proofs.Common.{◌≡◌, ◌-◌, length, arith, ap, ◌∙◌}
use Rattle.pd_machine.specs.Events.{change_at}
use Rattle.pd_machine.proofs.Changed.{changed_read}
use Rattle.pd_machine.proofs.machine.stand_at.Goals as goal

pub returns-then-count-gt0 : goal.returns-then-count-gt0
returns-then-count-gt0 c =
    let fs = c.args.frames.now.items in
    let e : c.len-count.result ≡ length fs = c.len-count.ensures ∙ c.args.frames.now.ok.0 in
    changed_read fs (c.len-count.result - 1) (λ f. record f { at = c.args.node }) c.index_mut.result.now (omega arith) c.index_mut.ensures.value
    ∙ ap (λ l. change_at fs (l - 1) (λ f. record f { at = c.args.node })) e
