-- The work of all threads makes the report.
use Rattle.std.proofs.Common.{◌∙◌, length, map, sym, ap, subst, arith}
use Rattle.std.proofs.lemmas.List.{length-map}
use Rattle.pd_shared.specs.Sitting.{Sitting}
use Rattle.pd_shared.specs.Closed.{IsClosed}
use Rattle.pd_seats.specs.declared.gathering.Done.{Done}
use Rattle.pd_threads.specs.declared.work.Task.{Task}
use Rattle.pd_threads.specs.Returned.{ran_in}
use Rattle.pd_threads.proofs.Returned.{none_waits}
use Rattle.pd_host.specs.Beginning.{IsFirstOf}
use Rattle.pd_host.proofs.RunLaws.{HasRun, begun_own, come_own, ran_own, acted_own, fewer, befores_count, results_count, is_run}
use Rattle.pd_host.proofs.TaskLaws.{has_shares, all_can}
use Rattle.pd_host.proofs.run.run_plan.Goals as goal

pub run_all-requires-clause-shares : goal.run_all-requires-clause-shares
run_all-requires-clause-shares g c κs within =
    has_shares c.args.plan.now c.args.program.now c.sit-first.result c.attach_all.new.seat c.requires.sound c.requires.entries
    (subst (IsFirstOf c.args.plan.now c.args.program.now) (sym c.sit-first.ensures) c.in_ok-board.ensures.first)
    c.in_ok-befores.ensures.rest c.in_ok-befores.ensures.base
    c.in_ok-tasks.tasks.items c.in_ok-tasks.tasks.len c.in_ok-tasks.ensures c.in_ok-tasks.tasks.ok.0

pub run_all-requires-clause-can : goal.run_all-requires-clause-can
run_all-requires-clause-can g c κs within =
    all_can c.args.plan.now c.args.program.now c.sit-first.result c.attach_all.new.seat c.requires.sound c.requires.entries
    (subst (IsFirstOf c.args.plan.now c.args.program.now) (sym c.sit-first.ensures) c.in_ok-board.ensures.first)
    c.in_ok-befores.ensures.rest c.in_ok-befores.ensures.base
    c.in_ok-tasks.tasks.items c.in_ok-tasks.ensures

pub outcomes_of-requires : goal.outcomes_of-requires
outcomes_of-requires g c = record {
  begun = begun_own c.in_ok-done.done.items
      (none_waits c.args.plan.now c.args.program.now c.attach_all.new.seat c.run_all.new.first c.in_ok-tasks.tasks.items _ _ c.in_ok-done.ensures.done);
}

abbrev had_run : (g : _) (c : goal.In_ok-records g) → HasRun c.args.plan.now c.args.program.now c.sit-first.result c.attach_all.new.seat c.run_all.new.first (map (λ v. v.items) c.in_ok-befores.befores.items) c.in_ok-tasks.tasks.items (map (λ d. d.own) c.in_ok-done.done.items) (map (λ d. d.sights) c.in_ok-done.done.items)
had_run g c = record {
  first = subst (IsFirstOf c.args.plan.now c.args.program.now) (sym c.sit-first.ensures) c.in_ok-board.ensures.first;
  attached = c.in_ok-befores.ensures.attached;
  rest = c.in_ok-befores.ensures.rest;
  base = c.in_ok-befores.ensures.base;
  tasks_are = c.in_ok-tasks.ensures;
  done = c.in_ok-done.ensures.done;
  shares = c.in_ok-done.ensures.shares;
  come = come_own c.in_ok-done.done.items c.in_ok-records.ensures.come;
}

pub session_records-requires : goal.session_records-requires
session_records-requires g c =
    let plan = c.args.plan.now in
    let p = c.args.program.now in
    let befores = map (λ v. v.items) c.in_ok-befores.befores.items in
    let afters = map (λ d. d.own) c.in_ok-done.done.items in
    let left = map (λ d. d.sights) c.in_ok-done.done.items in
    omega (
      arith,
      c.in_ok-befores.befores.ok.0,
      length-map c.in_ok-befores.befores.items (λ v. v.items),
      befores_count plan p c.sit-first.result c.attach_all.new.seat c.run_all.new.first befores c.in_ok-tasks.tasks.items afters left c.requires.sound (had_run g c),
      c.in_ok-records.field-0.results.ok.0,
      length-map c.in_ok-records.field-0.results.items (λ v. v.items),
      ap length c.in_ok-records.ensures.results,
      ap length (acted_own c.in_ok-done.done.items),
      results_count plan p c.sit-first.result c.attach_all.new.seat c.run_all.new.first befores c.in_ok-tasks.tasks.items afters left c.requires.sound (had_run g c),
    )

pub closed-requires-clause-enough : goal.closed-requires-clause-enough
closed-requires-clause-enough g c =
    omega (arith, ap length c.in_ok-records.ensures.records, fewer (λ (d : Done Task). ran_in d.own.outcome) c.in_ok-done.done.items, ap length c.in_ok-records.ensures.sights, length-map c.in_ok-done.done.items (λ d. d.sights))

pub returns : goal.returns
returns g c =
    let plan = c.args.plan.now in
    let p = c.args.program.now in
    let befores = map (λ v. v.items) c.in_ok-befores.befores.items in
    let afters = map (λ d. d.own) c.in_ok-done.done.items in
    let left = map (λ d. d.sights) c.in_ok-done.done.items in
    let report = c.in_ok-report.report in
    let made = c.in_ok-report.ensures in
    let came = c.in_ok-records.ensures in
    let run : HasRun plan p c.sit-first.result c.attach_all.new.seat c.run_all.new.first befores c.in_ok-tasks.tasks.items afters left = record {
      first = subst (IsFirstOf plan p) (sym c.sit-first.ensures) c.in_ok-board.ensures.first;
      attached = c.in_ok-befores.ensures.attached;
      rest = c.in_ok-befores.ensures.rest;
      base = c.in_ok-befores.ensures.base;
      tasks_are = c.in_ok-tasks.ensures;
      done = c.in_ok-done.ensures.done;
      shares = c.in_ok-done.ensures.shares;
      come = come_own c.in_ok-done.done.items came.come;
    } in
    is_run plan p c.sit-first.result c.attach_all.new.seat c.run_all.new.first befores c.in_ok-tasks.tasks.items afters left c.requires.sound run
    report c.in_ok-sessions.sessions.items c.in_ok-sessions.ensures.before (c.in_ok-sessions.ensures.actions ∙ came.results ∙ acted_own c.in_ok-done.done.items)
    (subst (λ (s : Sitting). IsClosed s.hub.layout c.run_all.new.first.token report.tally.bindings report.tally.answers) (sym c.sit-first.ensures)
    (subst (λ t. IsClosed c.in_ok-board.board.core.layout t report.tally.bindings report.tally.answers) c.rise-last.ensures.token made.closed))
    (made.contexts ∙ came.records ∙ ran_own c.in_ok-done.done.items) made.sessions (made.left ∙ came.sights) (made.each ∙ ap length (came.records ∙ ran_own c.in_ok-done.done.items))
