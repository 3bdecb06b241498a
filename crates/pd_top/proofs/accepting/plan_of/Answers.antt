use Rattle.std.proofs.Common.{ap}
use Rattle.pd_top.specs.Files.{read_between}
use Rattle.pd_top.specs.Causes.{plan_file}
use Rattle.pd_top.proofs.StopLemmas.{planned_stops}
use Rattle.pd_top.proofs.accepting.plan_of.Goals as goal

pub returns-in-Run-clause-stopped : goal.returns-in-Run-clause-stopped
returns-in-Run-clause-stopped g c =
    let old = c.args.files.now in
    let new = c.planned_in.new.files in
    planned_stops (read_between g.L.Library.held g.L.Library.given old new) c.args.command.now c.in-Run.words.plan c.as_str-in-Run.result.now
    (g.L.Library.faults old) (g.L.Library.faults new) (g.L.Library.last_fault new) c.planned_in.result (ap plan_file c.in-Run.is)
    c.as_str-in-Run.ensures c.planned_in.ensures.stopped

pub returns-in-Check-clause-stopped : goal.returns-in-Check-clause-stopped
returns-in-Check-clause-stopped g c =
    let old = c.args.files.now in
    let new = c.planned_in-in-Check.new.files in
    planned_stops (read_between g.L.Library.held g.L.Library.given old new) c.args.command.now c.in-Check.file c.as_str-in-Check.result.now
    (g.L.Library.faults old) (g.L.Library.faults new) (g.L.Library.last_fault new) c.planned_in-in-Check.result (ap plan_file c.in-Check.is)
    c.as_str-in-Check.ensures c.planned_in-in-Check.ensures.stopped

pub returns-in-Coverage-clause-stopped : goal.returns-in-Coverage-clause-stopped
returns-in-Coverage-clause-stopped g c =
    let old = c.args.files.now in
    let new = c.planned_in-in-Coverage.new.files in
    planned_stops (read_between g.L.Library.held g.L.Library.given old new) c.args.command.now c.in-Coverage.words.plan c.as_str-in-Coverage.result.now
    (g.L.Library.faults old) (g.L.Library.faults new) (g.L.Library.last_fault new) c.planned_in-in-Coverage.result (ap plan_file c.in-Coverage.is)
    c.as_str-in-Coverage.ensures c.planned_in-in-Coverage.ensures.stopped

pub returns-in-CallTree-clause-stopped : goal.returns-in-CallTree-clause-stopped
returns-in-CallTree-clause-stopped g c =
    let old = c.args.files.now in
    let new = c.planned_in-in-CallTree.new.files in
    planned_stops (read_between g.L.Library.held g.L.Library.given old new) c.args.command.now c.in-CallTree.words.plan c.as_str-in-CallTree.result.now
    (g.L.Library.faults old) (g.L.Library.faults new) (g.L.Library.last_fault new) c.planned_in-in-CallTree.result (ap plan_file c.in-CallTree.is)
    c.as_str-in-CallTree.ensures c.planned_in-in-CallTree.ensures.stopped
