use Rattle.std.proofs.Common.{◌∙◌, ◌+◌, take, refl, sym, subst, arith, rules}
use Rattle.std.proofs.lemmas.Result.{err_from_is_err_and}
use Rattle.pd_top.specs.Stops.{StopsFetch}
use Rattle.pd_top.specs.Files.{read_between, IsShort, AreSources}
use Rattle.pd_top.proofs.GivenLemmas.{grown_none, grown_more, read_first, read_later, short_within, sources_within}
use Rattle.pd_top.proofs.FileLemmas.{sources_more}
use Rattle.pd_top.proofs.StopLemmas.{fetch_within, fetch_stops}
use Rattle.pd_top.proofs.files.files_of.Goals as goal

pub loop-source-init : goal.loop-source-init
loop-source-init g c = (search rules, refl, omega arith, grown_none (g.L.Library.given c.args.files.now))

pub returns-in_err-file_named-clause-stopped : goal.returns-in_err-file_named-clause-stopped
returns-in_err-file_named-clause-stopped g c =
    let s = c.source-item.result in
    let held = g.L.Library.held c.args.files.now in
    let given = g.L.Library.given in
    let now = c.loop-source.files in
    let next = c.file_named.new.files in
    let before = g.L.Library.faults c.args.files.now in
    let mid = g.L.Library.faults now in
    let after = g.L.Library.faults next in
    let last = g.L.Library.last_fault next in
    let e = c.in_err-file_named.field-0.0 in
    let all = read_between g.L.Library.held given c.args.files.now next in
    let front = read_first held (given c.args.files.now) (given now) (given next) c.in_err-file_named.ensures.given in
    let later = read_later held (g.L.Library.held now) (given c.args.files.now) (given now) (given next) c.loop-source.invariant.1 c.loop-source.invariant.3 in
    let stops = subst (λ n. StopsFetch (read_between g.L.Library.held given now next) n mid after last e) c.as_str.ensures c.in_err-file_named.ensures.stopped in
    let p = err_from_is_err_and c.from_residual.result c.from_residual.ensures.1 in
    rw (p.1, p.2)
    (fetch_stops all c.args.sources.now c.loop-source.read.items c.loop-source.source-index s before mid after last e c.loop-source.invariant.2
    (sources_within (read_between g.L.Library.held given c.args.files.now now) all front (take c.loop-source.source-index c.args.sources.now) c.loop-source.read.items
    c.loop-source.invariant.0)
    c.loop-source-test.true c.source-item.is (fetch_within (read_between g.L.Library.held given now next) all later s.name mid after last e stops))

pub returns-in_err-file_named-clause-given : goal.returns-in_err-file_named-clause-given
returns-in_err-file_named-clause-given g c =
    let given = g.L.Library.given in
    grown_more (given c.args.files.now) (given c.loop-source.files) (given c.file_named.new.files) c.loop-source.invariant.3 c.in_err-file_named.ensures.given

pub returns-in_err-push-clause-given : goal.returns-in_err-push-clause-given
returns-in_err-push-clause-given g c =
    let given = g.L.Library.given in
    grown_more (given c.args.files.now) (given c.loop-source.files) (given c.file_named.new.files) c.loop-source.invariant.3 c.in_ok-file_named.ensures.given

pub loop-source-preserved : goal.loop-source-preserved
loop-source-preserved g c =
    let s = c.source-item.result in
    let held = g.L.Library.held c.args.files.now in
    let given = g.L.Library.given in
    let now = c.loop-source.files in
    let next = c.file_named.new.files in
    let w = c.in_ok-file_named.field-0 in
    let earlier = c.loop-source.invariant.2 in
    let counted = c.in_ok-file_named.ensures.count in
    let all = read_between g.L.Library.held given c.args.files.now next in
    let front = read_first held (given c.args.files.now) (given now) (given next) c.in_ok-file_named.ensures.given in
    let later = read_later held (g.L.Library.held now) (given c.args.files.now) (given now) (given next) c.loop-source.invariant.1 c.loop-source.invariant.3 in
    let content = subst (λ n. IsShort (read_between g.L.Library.held given now next) n w.bytes) c.as_str.ensures c.in_ok-file_named.ensures.content in (
      subst (AreSources all (take (c.loop-source.source-index + 1) c.args.sources.now)) (sym c.in_ok-push.ensures.items)
          (sources_more all c.args.sources.now c.loop-source.read.items c.loop-source.source-index s w
          (sources_within (read_between g.L.Library.held given c.args.files.now now) all front (take c.loop-source.source-index c.args.sources.now)
          c.loop-source.read.items c.loop-source.invariant.0)
          c.loop-source-test.true c.source-item.is (c.in_ok-file_named.ensures.name ∙ c.as_str.ensures)
          (short_within (read_between g.L.Library.held given now next) all later s.name w.bytes content)),
      c.in_ok-file_named.ensures.held ∙ c.loop-source.invariant.1,
      omega (arith, earlier, counted),
      grown_more (given c.args.files.now) (given now) (given next) c.loop-source.invariant.3 c.in_ok-file_named.ensures.given,
    )
