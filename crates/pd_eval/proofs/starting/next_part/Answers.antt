-- The part at a place is entered, or a node that the program doesn't have comes to NULL.
use Rattle.std.proofs.Common.{◌≡◌, ◌≤◌, length, Some, sym, ap, ◌∙◌, subst, arith}
use Rattle.std.specs.Prelude.{slice_get, IfOk}
use Rattle.pd_tree.specs.Program.{node_at}
use Rattle.pd_meaning.specs.Machine.{part_begun}
use Rattle.pd_meaning.specs.Steps.{Does, state_of}
use Rattle.pd_eval.proofs.Started.{no_part}
use Rattle.pd_eval.proofs.starting.next_part.Goals as goal

pub returns-then-n-nodes : goal.returns-then-n-nodes
returns-then-n-nodes c =
    let p = c.args.program.now in
    let past : length p.nodes ≤ c.args.n = omega (arith, c.if-n-nodes.true, c.nodes.ensures.count, c.n.view_is) in (
      (λ es. c.give_null.ensures.0 es ∙ sym (no_part p c.args.n past c.args.i c.args.values c.args.m.now.stack (state_of c.args.m.now es))),
      c.give_null.ensures.1,
      c.give_null.ensures.2,
    )

pub returns-in-Some : goal.returns-in-Some
returns-in-Some c =
    let p = c.args.program.now in
    let n = c.args.n in
    let found : Some c.in-Some.part ≡ slice_get (node_at p n).children c.args.i = sym c.in-Some.is ∙ c.part_at.ensures.part ∙ ap (λ ms. slice_get ms c.args.i) c.children.ensures in
    subst (λ o. IfOk c.enter_part.result (λ _. Does (λ stack s. part_begun p n c.args.i o c.args.values stack s) c.args.m.now c.enter_part.new.m)) found c.enter_part.ensures
