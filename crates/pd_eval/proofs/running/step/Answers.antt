-- A turn, and the watcher's answer to its event.
use Rattle.std.proofs.Common.{subst, sym}
use Rattle.pd_machine.specs.declared.machine.Turn.{Turn}
use Rattle.pd_machine.specs.Events.{standing}
use Rattle.pd_machine.specs.Held.{scene_of}
use Rattle.pd_order.specs.Order.{IsPlaced}
use Rattle.pd_eval.proofs.Ordering.{event_due, quiet_orderly, served_orderly}
use Rattle.pd_eval.proofs.Standing.{HasTurned, quiet_lowers, quiet_stands, served_lowers, served_stands}
use Rattle.pd_eval.proofs.running.step.Goals as goal

pub serve-requires-clause-next : goal.serve-requires-clause-next
serve-requires-clause-next g c =
    (event_due c.args.program.now c.requires.linked (g.W.Watcher.events c.args.w.now) c.args.m.now c.turn.new.m c.in-Tells.event c.requires.counted.0
    (subst (λ (t : Turn). HasTurned c.args.program.now c.args.m.now c.turn.new.m t) c.in-Tells.is c.in_ok-turn.ensures) c.requires.orderly).next

pub serve-requires-clause-placed : goal.serve-requires-clause-placed
serve-requires-clause-placed g c =
    subst (λ n. IsPlaced n c.in-Tells.event (standing c.in-Tells.event.node (scene_of c.turn.new.m))) (sym c.requires.nodes)
    (event_due c.args.program.now c.requires.linked (g.W.Watcher.events c.args.w.now) c.args.m.now c.turn.new.m c.in-Tells.event c.requires.counted.0
    (subst (λ (t : Turn). HasTurned c.args.program.now c.args.m.now c.turn.new.m t) c.in-Tells.is c.in_ok-turn.ensures) c.requires.orderly).placed

pub serve-requires-clause-few : goal.serve-requires-clause-few
serve-requires-clause-few g c =
    (event_due c.args.program.now c.requires.linked (g.W.Watcher.events c.args.w.now) c.args.m.now c.turn.new.m c.in-Tells.event c.requires.counted.0
    (subst (λ (t : Turn). HasTurned c.args.program.now c.args.m.now c.turn.new.m t) c.in-Tells.is c.in_ok-turn.ensures) c.requires.orderly).few

pub returns-in-Quiet-clause-stands : goal.returns-in-Quiet-clause-stands
returns-in-Quiet-clause-stands g c = λ fuel root s.
    quiet_stands c.args.program.now fuel root (g.W.Watcher.events c.args.w.now) (g.W.Watcher.kept c.args.w.now) c.args.m.now c.requires.going c.turn.new.m
    (subst (λ (t : Turn). HasTurned c.args.program.now c.args.m.now c.turn.new.m t) c.in-Quiet.is c.in_ok-turn.ensures) s

pub returns-in-Quiet-clause-orderly : goal.returns-in-Quiet-clause-orderly
returns-in-Quiet-clause-orderly g c =
    quiet_orderly c.args.program.now c.requires.linked (g.W.Watcher.events c.args.w.now) c.args.m.now c.turn.new.m c.requires.counted.0
    (subst (λ (t : Turn). HasTurned c.args.program.now c.args.m.now c.turn.new.m t) c.in-Quiet.is c.in_ok-turn.ensures) c.requires.orderly

pub returns-in-Quiet-clause-lowers : goal.returns-in-Quiet-clause-lowers
returns-in-Quiet-clause-lowers g c =
    quiet_lowers c.args.program.now 0 0 (g.W.Watcher.events c.args.w.now) (g.W.Watcher.kept c.args.w.now) c.args.m.now c.requires.going c.turn.new.m c.requires.counted.0
    (subst (λ (t : Turn). HasTurned c.args.program.now c.args.m.now c.turn.new.m t) c.in-Quiet.is c.in_ok-turn.ensures)

pub returns-in-Tells-clause-stands : goal.returns-in-Tells-clause-stands
returns-in-Tells-clause-stands g c =
    served_stands c.args.program.now c.serve.result (g.W.Watcher.events c.args.w.now) (g.W.Watcher.events c.serve.new.w) (g.W.Watcher.kept c.args.w.now) (g.W.Watcher.kept c.serve.new.w) c.args.m.now c.turn.new.m c.serve.new.m c.in-Tells.event c.requires.going
    (subst (λ (t : Turn). HasTurned c.args.program.now c.args.m.now c.turn.new.m t) c.in-Tells.is c.in_ok-turn.ensures) c.serve.ensures.told c.serve.ensures.kept

pub returns-in-Tells-clause-orderly : goal.returns-in-Tells-clause-orderly
returns-in-Tells-clause-orderly g c =
    served_orderly c.args.program.now c.requires.linked c.serve.result (g.W.Watcher.events c.args.w.now) (g.W.Watcher.events c.serve.new.w) (g.W.Watcher.kept c.args.w.now) (g.W.Watcher.kept c.serve.new.w) c.args.m.now c.turn.new.m c.serve.new.m c.in-Tells.event c.requires.going c.requires.counted
    (subst (λ (t : Turn). HasTurned c.args.program.now c.args.m.now c.turn.new.m t) c.in-Tells.is c.in_ok-turn.ensures) c.serve.ensures.told c.serve.ensures.kept c.requires.orderly

pub returns-in-Tells-clause-lowers : goal.returns-in-Tells-clause-lowers
returns-in-Tells-clause-lowers g c =
    served_lowers c.args.program.now c.serve.result (g.W.Watcher.events c.args.w.now) (g.W.Watcher.events c.serve.new.w) (g.W.Watcher.kept c.args.w.now) (g.W.Watcher.kept c.serve.new.w) c.args.m.now c.turn.new.m c.serve.new.m c.in-Tells.event c.requires.going c.requires.counted
    (subst (λ (t : Turn). HasTurned c.args.program.now c.args.m.now c.turn.new.m t) c.in-Tells.is c.in_ok-turn.ensures) c.serve.ensures.told c.serve.ensures.kept
