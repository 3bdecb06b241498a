use Rattle.std.proofs.Common.{◌∙◌, length, sym, ap, subst}
use Rattle.std.proofs.lemmas.Result.{err_from_is_err_and}
use Rattle.std.proofs.lemmas.Iterator.Adapters.{YieldsList-from_vec}
use Rattle.std.proofs.lemmas.Iterator.Consumers.{YieldsList-so_far, YieldsList-turn}
use Rattle.pd_top.specs.Stops.{StopsSource}
use Rattle.pd_top.proofs.SourceLemmas.{map_same}
use Rattle.pd_top.proofs.StopLemmas.{source_stops}
use Rattle.pd_top.proofs.loading.sources_of.Goals as goal

pub returns-in_err-source_of-clause-refused : goal.returns-in_err-source_of-clause-refused
returns-in_err-source_of-clause-refused c =
    let all = YieldsList-from_vec c.args.files.items c.into_iter-file-iterator.ensures.into_iter_gives.0 (c.into_iter-file-iterator.ensures.into_iter_gives.1 ∙ c.args.files.ok.0) in
    let turn = YieldsList-turn all c.loop-file.yielded _ c.loop-file.yielded_by _ c.next.new.self c.in-Some.file c.in-Some.is c.next.ensures.steps in
    let front = sym (map_same c.loop-file.yielded) ∙ YieldsList-so_far all c.loop-file.yielded c.loop-file.file-iterator c.loop-file.yielded_by in
    let counted = c.len-number.ensures ∙ (c.loop-file.sources.ok.0 ∙ ap length c.loop-file.invariant.0) in
    let e = c.in_err-source_of.field-0.0 in
    let p = err_from_is_err_and c.from_residual.result c.from_residual.ensures.1 in
    rw (p.1, p.2)
    (source_stops c.args.files.items c.loop-file.yielded c.in-Some.file e front turn.0 turn.1 c.loop-file.invariant.1
    (subst (λ n. StopsSource n c.in-Some.file e) counted c.in_err-source_of.ensures.refused))
