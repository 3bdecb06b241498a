use Rattle.std.proofs.Common.{slice_set, arith}
use Rattle.pd_machine.proofs.Changed.{changed_read}
use Rattle.pd_machine.proofs.machine.set_in_frame.Goals as goal

pub returns-then-k-len : goal.returns-then-k-len
returns-then-k-len c =
    rw c.set.ensures (changed_read c.args.frames.now.items c.args.k (λ f. record f { variables = slice_set f.variables c.args.slot c.args.value }) c.index_mut.result.now (omega (arith, c.args.frames.now.ok.0)) c.index_mut.ensures.value)
