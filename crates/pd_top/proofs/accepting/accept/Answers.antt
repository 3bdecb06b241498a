-- The plan was read or made in the first part of the call, and the sources in the second.
use Rattle.std.proofs.Common.{inr, subst}
use Rattle.std.proofs.lemmas.Result.{err_from_is_err_and}
use Rattle.pd_load.specs.Loading.{IsLoaded, IsRefused}
use Rattle.pd_rooted.proofs.Rooted.{loaded_rooted}
use Rattle.pd_top.specs.Files.{read_between}
use Rattle.pd_top.specs.Causes.{AreGiven}
use Rattle.pd_top.proofs.GivenLemmas.{grown_more, read_first, read_later, fit_within, given_within}
use Rattle.pd_top.proofs.LoadLemmas.{has_entries}
use Rattle.pd_top.proofs.StopLemmas.{giving_within, giving_stops}
use Rattle.pd_top.proofs.accepting.accept.Goals as goal

pub returns-in_err-sources-clause-given : goal.returns-in_err-sources-clause-given
returns-in_err-sources-clause-given g c =
    let given = g.L.Library.given in
    grown_more (given c.args.files.now) (given c.fit_plan_of.new.files) (given c.sources_for.new.files) c.in_ok-planned.ensures.given c.in_err-sources.ensures.given

pub returns-in_err-sources-clause-stopped : goal.returns-in_err-sources-clause-stopped
returns-in_err-sources-clause-stopped g c =
    let held = g.L.Library.held in
    let given = g.L.Library.given in
    let old = c.args.files.now in
    let mid = c.fit_plan_of.new.files in
    let new = c.sources_for.new.files in
    let earlier = g.L.Library.faults old in
    let before = g.L.Library.faults mid in
    let after = g.L.Library.faults new in
    let last = g.L.Library.last_fault new in
    let planned = c.in_ok-planned.planned in
    let command = c.args.command.now in
    let e = c.in_err-sources.field-0.0 in
    let first = read_between held given old mid in
    let then = read_between held given mid new in
    let all = read_between held given old new in
    let front = read_first (held old) (given old) (given mid) (given new) c.in_err-sources.ensures.given in
    let later = read_later (held old) (held mid) (given old) (given mid) (given new) c.in_ok-planned.ensures.held c.in_ok-planned.ensures.given in
    let p = err_from_is_err_and c.from_residual-in_err-sources.result c.from_residual-in_err-sources.ensures.1 in
    rw (p.1, p.2)
    (giving_stops all command planned.plan planned.made earlier before after last e c.in_ok-planned.ensures.count
    (fit_within first all front command planned.plan c.in_ok-planned.ensures.plan) c.in_ok-planned.ensures.made
    (giving_within then all later planned.made planned.plan.sources before after last e c.in_err-sources.ensures.stopped))

pub returns-in-Ok-clause-given : goal.returns-in-Ok-clause-given
returns-in-Ok-clause-given g c =
    let given = g.L.Library.given in
    grown_more (given c.args.files.now) (given c.fit_plan_of.new.files) (given c.sources_for.new.files) c.in_ok-planned.ensures.given c.in_ok-sources.ensures.given

pub returns-in-Ok-clause-entries : goal.returns-in-Ok-clause-entries
returns-in-Ok-clause-entries g c =
    has_entries c.in_ok-planned.planned.plan c.as_slice.result.now c.in-Ok.program c.in-Ok.ensures.loaded

pub returns-in-Ok-clause-rooted : goal.returns-in-Ok-clause-rooted
returns-in-Ok-clause-rooted g c =
    loaded_rooted c.in_ok-planned.planned.plan c.as_slice.result.now c.in-Ok.program c.in-Ok.ensures.loaded

pub returns-in-Ok-clause-accepted : goal.returns-in-Ok-clause-accepted
returns-in-Ok-clause-accepted g c =
    let held = g.L.Library.held in
    let given = g.L.Library.given in
    let old = c.args.files.now in
    let mid = c.fit_plan_of.new.files in
    let new = c.sources_for.new.files in
    let command = c.args.command.now in
    let planned = c.in_ok-planned.planned in
    let plan = planned.plan in
    let sources = c.in_ok-sources.sources in
    let first = read_between held given old mid in
    let then = read_between held given mid new in
    let all = read_between held given old new in
    let front = read_first (held old) (given old) (given mid) (given new) c.in_ok-sources.ensures.given in
    let later = read_later (held old) (held mid) (given old) (given mid) (given new) c.in_ok-planned.ensures.held c.in_ok-planned.ensures.given in (
      sources,
      fit_within first all front command plan c.in_ok-planned.ensures.plan,
      subst (λ made. AreGiven all made plan.sources sources) c.in_ok-planned.ensures.made
          (given_within then all later planned.made plan.sources sources c.in_ok-sources.ensures.sources),
      c.in_ok-sources.ensures.texts,
      subst (λ ws. IsLoaded plan ws c.in-Ok.program) c.as_slice.ensures c.in-Ok.ensures.loaded,
    )

pub returns-in-Err-Refused-clause-given : goal.returns-in-Err-Refused-clause-given
returns-in-Err-Refused-clause-given g c =
    let given = g.L.Library.given in
    grown_more (given c.args.files.now) (given c.fit_plan_of.new.files) (given c.sources_for.new.files) c.in_ok-planned.ensures.given c.in_ok-sources.ensures.given

pub returns-in-Err-Refused-clause-stopped : goal.returns-in-Err-Refused-clause-stopped
returns-in-Err-Refused-clause-stopped g c =
    let held = g.L.Library.held in
    let given = g.L.Library.given in
    let old = c.args.files.now in
    let mid = c.fit_plan_of.new.files in
    let new = c.sources_for.new.files in
    let command = c.args.command.now in
    let planned = c.in_ok-planned.planned in
    let plan = planned.plan in
    let sources = c.in_ok-sources.sources in
    let first = read_between held given old mid in
    let then = read_between held given mid new in
    let all = read_between held given old new in
    let front = read_first (held old) (given old) (given mid) (given new) c.in_ok-sources.ensures.given in
    let later = read_later (held old) (held mid) (given old) (given mid) (given new) c.in_ok-planned.ensures.held c.in_ok-planned.ensures.given in (
      plan,
      sources,
      fit_within first all front command plan c.in_ok-planned.ensures.plan,
      subst (λ made. AreGiven all made plan.sources sources) c.in_ok-planned.ensures.made
          (given_within then all later planned.made plan.sources sources c.in_ok-sources.ensures.sources),
      inr (
        c.in_ok-sources.ensures.texts,
        subst (λ ws. IsRefused plan ws c.in-Err-Refused.refusal) c.as_slice.ensures (rw c.in-Err-Refused.field-0-is at c.in-Err-Refused.ensures.refused),
      ),
    )

pub returns-clause-given : goal.returns-clause-given
returns-clause-given g c =
    let given = g.L.Library.given in
    grown_more (given c.args.files.now) (given c.fit_plan_of.new.files) (given c.sources_for.new.files) c.in_ok-planned.ensures.given c.in_ok-sources.ensures.given
