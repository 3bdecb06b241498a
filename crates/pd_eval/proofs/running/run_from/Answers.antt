-- The machine and its watcher stand for a point of the meaning, from the start to the end.
use Rattle.std.proofs.Common.{[], refl, sym, ap, ◌∙◌, subst, arith}
use Rattle.pd_meaning.specs.Steps.{with_events}
use Rattle.pd_eval.specs.Watching.{IsOrderlyIn, Stands}
use Rattle.pd_eval.proofs.Ordering.{orderly_at_first}
use Rattle.pd_eval.proofs.Standing.{ran_is, stands_at_first}
use Rattle.pd_eval.proofs.running.run_from.Goals as goal

pub turns-init : goal.turns-init
turns-init g c =
    let p = c.args.program.now in record {
      stands =
          subst (λ es. Stands p c.args.fuel c.args.root es (g.W.Watcher.kept c.args.w.now) c.in_ok-m.m) (sym c.requires.no_events)
          (subst (λ ks. Stands p c.args.fuel c.args.root [] ks c.in_ok-m.m) (sym c.requires.no_verdicts)
          (stands_at_first p c.args.fuel c.args.root c.in_ok-m.m c.in_ok-m.ensures.begun c.in_ok-m.ensures.told c.in_ok-m.ensures.fuel));
      orderly =
          subst (λ es. IsOrderlyIn p (with_events c.in_ok-m.m es)) (sym c.requires.no_events)
          (orderly_at_first p c.args.fuel c.args.root c.in_ok-m.m c.requires.linked c.requires.fuel c.requires.root c.in_ok-m.ensures.begun);
      ready = c.requires.ready;
      fixed = refl;
    }

pub step-requires-clause-room : goal.step-requires-clause-room
step-requires-clause-room g c = omega (arith, c.turns.invariant.stands.bound, c.requires.fuel)

pub turns-smaller : goal.turns-smaller
turns-smaller g c = c.in_ok-step.ensures.lowers

pub step-requires-clause-nodes : goal.step-requires-clause-nodes
step-requires-clause-nodes g c = ap g.W.Watcher.nodes c.turns.invariant.fixed ∙ c.requires.nodes

pub step-requires-clause-counted : goal.step-requires-clause-counted
step-requires-clause-counted g c = (c.turns.invariant.stands.count, c.turns.invariant.stands.below)

pub turns-preserved : goal.turns-preserved
turns-preserved g c = record {
  stands = c.in_ok-step.ensures.stands c.args.fuel c.args.root c.turns.invariant.stands;
  orderly = c.in_ok-step.ensures.orderly;
  ready = c.in_ok-step.ensures.ready;
  fixed = c.in_ok-step.ensures.fixed ∙ c.turns.invariant.fixed;
}

pub returns-clause-ran : goal.returns-clause-ran
returns-clause-ran g c = λ entry item.
    let t = c.finish-output.result in
    let e = c.finish-output.ensures in
    ran_is c.args.program.now c.args.fuel c.args.root entry (g.W.Watcher.events c.turns.w) (g.W.Watcher.kept c.turns.w) c.turns.m t.0 t.1 t.2 t.3
    (ap (λ x. x.0) e) (ap (λ x. x.1) e) (ap (λ x. x.2) e) (ap (λ x. x.3) e) (c.is_over.ensures.0 c.turns-test.false) c.turns.invariant.stands item
