use Rattle.std.proofs.Common.{◌+◌, ◌<◌, length, ap, ◌∙◌, arith}
use Rattle.pd_paths.specs.declared.counter.Counter.{Counter}
use Rattle.pd_running.specs.Running.{is_enter, mark_in}
use Rattle.pd_paths.proofs.Passing.{room_next, count_fits, event_fits, passed_enter, passed_end, not_enter, at_any}
use Rattle.pd_paths.proofs.counter.Counter.pass.Goals as goal

pub count_to-requires : goal.count_to-requires
count_to-requires c = room_next (mark_in c.args.entry.now) c.args.self.now c.args.entry.now.event c.requires (omega arith) (omega arith)

pub begin-requires-clause-room : goal.begin-requires-clause-room
begin-requires-clause-room c = count_fits (mark_in c.args.entry.now) c.args.self.now c.count_to.new.self c.args.entry.now.event (ap is_enter c.in-Enter.is) c.requires c.count_to.ensures

pub overflow_add-entry : goal.overflow_add-entry
overflow_add-entry c = let fits = event_fits (mark_in c.args.entry.now) c.args.self.now c.requires in omega (arith, fits)

pub count_to-requires-in_default : goal.count_to-requires-in_default
count_to-requires-in_default c = room_next (mark_in c.args.entry.now) c.args.self.now (c.args.entry.now.event + 1) c.requires (omega arith) (omega arith)

pub returns-in_ok-begin-in-Enter : goal.returns-in_ok-begin-in-Enter
returns-in_ok-begin-in-Enter c = passed_enter (mark_in c.args.entry.now) c.args.self.now c.count_to.new.self c.begin.new.self (ap is_enter c.in-Enter.is) c.count_to.ensures c.in_ok-begin-in-Enter.ensures

pub returns-in_default : goal.returns-in_default
returns-in_default c =
    let mid : Counter = c.count_to-in_default.new.self in
    let long = c.count_to-in_default.ensures.kept.0.long in
    let inside = c.count_to-in_default.ensures.kept.1 in
    let within : mid.at < length mid.outer.items = omega (arith, long, inside) in
    passed_end (mark_in c.args.entry.now) (c.args.entry.now.event + 1) c.args.self.now mid _ (not_enter c.args.entry.now.kind c.in_default.not-Enter) (omega arith) c.count_to-in_default.ensures
    (ap (λ i. record mid { at = i }) (c.index.ensures ∙ at_any mid.outer.items mid.at c.index.result.now 0 within))
