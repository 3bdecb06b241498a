-- The parts begin over what takes their return.
use Rattle.std.proofs.Common.{IfOk, [], subst}
use Rattle.pd_tree.specs.Program.{node_at}
use Rattle.pd_machine.specs.Held.{Held}
use Rattle.pd_meaning.specs.Machine.{parts_begun}
use Rattle.pd_meaning.specs.Steps.{Does}
use Rattle.pd_eval.proofs.starting.start_body.Goals as goal

pub returns : goal.returns
returns c =
    let p = c.args.program.now in
    let n = c.args.n in
    subst (λ (h : Held). IfOk c.next_part.result (λ _. Does (λ stack s. parts_begun p n (node_at p n).children 0 [] stack s) h c.next_part.new.m)) c.in_ok-push.ensures
    (subst (λ vs. IfOk c.next_part.result (λ _. Does (λ stack s. parts_begun p n (node_at p n).children 0 vs stack s) c.push.new.self c.next_part.new.m)) c.no_values.ensures c.next_part.ensures)
