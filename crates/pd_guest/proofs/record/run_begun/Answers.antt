-- What was kept is the record.
use Rattle.std.proofs.Common.{rules, ℕ, List, length, ap, ◌∙◌, subst}
use Rattle.std.specs.Prelude.{slice_index}
use Rattle.pd_tree.specs.Program.{Program}
use Rattle.pd_plan.specs.declared.plan.Plan.{Plan}
use Rattle.pd_meaning.specs.Meaning.{meaning_of}
use Rattle.pd_board.specs.Standing.{Standing}
use Rattle.pd_eval.specs.Watching.{IsRan}
use Rattle.pd_suspend.specs.declared.suspension.Suspension.{Suspension}
use Rattle.pd_suspend.specs.Stops.{verdicts_of}
use Rattle.pd_guest.specs.declared.serving.Progress.{Progress}
use Rattle.pd_guest.specs.Asking.{IsKept}
use Rattle.pd_guest.specs.Replying.{IsGiven}
use Rattle.pd_guest.specs.Beginning.{fuel_at}
use Rattle.pd_guest.proofs.BeginningLaws.{begins-kept, begins-given, record-of, grown-of, given-of, given-end}
use Rattle.pd_guest.proofs.record.run_begun.Goals as goal

pub run-ran-requires-clause-ready : goal.run-ran-requires-clause-ready
run-ran-requires-clause-ready g c =
    let s : Standing = g.B.Board.standing c.args.board.now in (
      begins-kept c.args.plan.now c.args.program.now c.args.context (g.A.Answerer.list c.args.answerer.now) s c.args.h c.requires.board c.requires.new,
      begins-given (g.A.Answerer.admits (g.A.Answerer.base c.args.answerer.now)) (g.A.Answerer.keeps (g.A.Answerer.base c.args.answerer.now))
          c.args.context (length c.args.plan.now.bindings) (length c.args.plan.now.sessions) (g.A.Answerer.list c.args.answerer.now) s c.args.h c.requires.new,
      λ x a admitted. c.requires.lawful x a admitted,
    )

pub returns-clause-record : goal.returns-clause-record
returns-clause-record g c =
    let p : Program = c.args.program.now in
    let plan : Plan = c.args.plan.now in
    let entry : ℕ = slice_index p.entries c.args.context in
    let fuel : ℕ = fuel_at plan c.args.context in
    let first : Standing = g.B.Board.standing c.args.board.now in
    let mid : Standing = g.B.Board.standing c.run-ran.new.w.board.now in
    let h : Progress = c.run-ran.new.w.h in
    let stops : List Suspension = h.stops.items in
    let fixed = c.in_ok-ran.ensures.fixed in
    let ran : IsRan c.in_ok-ran.field-0 h.history.events (meaning_of p entry fuel (verdicts_of stops)) =
    subst (λ x. IsRan c.in_ok-ran.field-0 h.history.events (meaning_of p x fuel (verdicts_of stops))) c.entry-entry.ensures
    (subst (λ x. IsRan c.in_ok-ran.field-0 h.history.events (meaning_of p c.entry-entry.result x (verdicts_of stops))) c.fuel.ensures c.in_ok-ran.ensures.ran) in
    let kept : IsKept plan p mid h =
    subst (λ x. IsKept x p mid h) (ap (λ x. x.7) fixed) (subst (λ x. IsKept c.run-ran.new.w.plan.now x mid h) (ap (λ x. x.8) fixed) c.in_ok-ran.ensures.ready.0) in
    record-of plan p c.args.context entry fuel first mid _ (g.A.Answerer.list c.args.answerer.now) c.args.h h c.in_ok-ran.field-0 c.record.result
    c.requires.board c.requires.new kept (ap (λ x. x.3) fixed) (ap (λ x. x.6) fixed) (search rules) ran c.record.ensures

pub returns-clause-replied : goal.returns-clause-replied
returns-clause-replied g c =
    let p : Program = c.args.program.now in
    let plan : Plan = c.args.plan.now in
    let entry : ℕ = slice_index p.entries c.args.context in
    let fuel : ℕ = fuel_at plan c.args.context in
    let first : Standing = g.B.Board.standing c.args.board.now in
    let mid : Standing = g.B.Board.standing c.run-ran.new.w.board.now in
    let h : Progress = c.run-ran.new.w.h in
    let stops : List Suspension = h.stops.items in
    let fixed = c.in_ok-ran.ensures.fixed in
    let ran : IsRan c.in_ok-ran.field-0 h.history.events (meaning_of p entry fuel (verdicts_of stops)) =
    subst (λ x. IsRan c.in_ok-ran.field-0 h.history.events (meaning_of p x fuel (verdicts_of stops))) c.entry-entry.ensures
    (subst (λ x. IsRan c.in_ok-ran.field-0 h.history.events (meaning_of p c.entry-entry.result x (verdicts_of stops))) c.fuel.ensures c.in_ok-ran.ensures.ran) in
    let kept : IsKept plan p mid h =
    subst (λ x. IsKept x p mid h) (ap (λ x. x.7) fixed) (subst (λ x. IsKept c.run-ran.new.w.plan.now x mid h) (ap (λ x. x.8) fixed) c.in_ok-ran.ensures.ready.0) in
    grown-of plan p c.args.context entry fuel first mid (g.B.Board.standing _) (g.A.Answerer.list c.args.answerer.now) c.args.h h c.in_ok-ran.field-0 c.record.result
    c.requires.board c.requires.new kept (ap (λ x. x.3) fixed) (ap (λ x. x.6) fixed) (search rules) ran c.record.ensures (ap (λ x. x.4) fixed)

pub returns-clause-given : goal.returns-clause-given
returns-clause-given g c =
    let h : Progress = c.run-ran.new.w.h in
    let fixed = c.in_ok-ran.ensures.fixed in
    let given = c.in_ok-ran.ensures.ready.1 in
    let now = g.A.Answerer.list c.run-ran.new.w.answerer.now in
    let base = g.A.Answerer.base c.args.answerer.now in
    given-end (g.A.Answerer.admits base) (g.A.Answerer.keeps base) (g.A.Answerer.list c.args.answerer.now) now (g.A.Answerer.list _) c.record.result.stops (search rules)
    (given-of (g.A.Answerer.admits base) (g.A.Answerer.keeps base) (g.A.Answerer.list c.args.answerer.now) h.first.list now h c.in_ok-ran.field-0 c.record.result
    (subst (λ b. IsGiven (g.A.Answerer.admits b) (g.A.Answerer.keeps b) h.first.list now h.stops.items) (ap (λ x. x.10) fixed) given)
    (ap (λ x. x.5) fixed ∙ c.requires.new.first_is) c.record.ensures)
