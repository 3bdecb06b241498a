use Rattle.std.proofs.Common.{◌+◌, ◌-◌, ◌<◌, ◌≤◌, [], ◌∷◌, ◌++◌, length, sym, ap, subst, arith}
use Rattle.pd_plan.specs.declared.plan.SourceSpec.{SourceSpec}
use Rattle.pd_load.specs.Loading.{IsTree}
use Rattle.pd_load.specs.Tables.{StopsReading, StopsSpelling}
use Rattle.pd_load.proofs.Spelling.{TreesTo, tree_fits, trees_more, trees_stopped, trees_all, all_texts}
use Rattle.pd_load.proofs.sources.trees_of.Goals as goal

pub returns-in-Err-clause-refused : goal.returns-in-Err-clause-refused
returns-in-Err-clause-refused c =
    let s = c.index-specs-index in
    let w = c.index-sources-index in
    let lt : c.loop-index.index < length c.args.specs.now = omega arith in
    subst (StopsSpelling c.args.specs.now c.args.sources.now) (sym c.at_source.ensures)
    (trees_stopped c.args.specs.now c.args.sources.now c.loop-index.index c.loop-index.room c.loop-index.trees.items s.result w.result lt s.is c.loop-index-test.true w.is c.loop-index.invariant
    c.in-Err.stop (subst (λ (x : SourceSpec). StopsReading x.language c.loop-index.room w.result.bytes c.in-Err.stop) (sym s.is) c.in-Err.ensures.refused))

pub overflow_cast-room : goal.overflow_cast-room
overflow_cast-room c =
    let s = c.index-specs-index in
    let lt : c.loop-index.index < length c.args.specs.now = omega arith in
    let spelled = subst (λ (x : SourceSpec). IsTree x.language c.loop-index.room c.loop-index.index c.index-sources-index.result.bytes c.in-Ok.tree) (sym s.is) c.in-Ok.ensures.spelled in
    let fits : length c.in-Ok.tree ≤ c.loop-index.room = tree_fits s.result.language c.loop-index.room c.loop-index.index c.index-sources-index.result.bytes c.in-Ok.tree spelled in
    omega (arith, ap length c.additions.ensures.value, c.loop-index.invariant.left)

pub overflow_sub-room : goal.overflow_sub-room
overflow_sub-room c =
    let s = c.index-specs-index in
    let lt : c.loop-index.index < length c.args.specs.now = omega arith in
    let spelled = subst (λ (x : SourceSpec). IsTree x.language c.loop-index.room c.loop-index.index c.index-sources-index.result.bytes c.in-Ok.tree) (sym s.is) c.in-Ok.ensures.spelled in
    let fits : length c.in-Ok.tree ≤ c.loop-index.room = tree_fits s.result.language c.loop-index.room c.loop-index.index c.index-sources-index.result.bytes c.in-Ok.tree spelled in
    omega (arith, ap length c.additions.ensures.value)

pub loop-index-preserved : goal.loop-index-preserved
loop-index-preserved c =
    let s = c.index-specs-index in
    let w = c.index-sources-index in
    let k = c.loop-index.index in
    let lt : k < length c.args.specs.now = omega arith in
    let spelled = subst (λ (x : SourceSpec). IsTree x.language c.loop-index.room k w.result.bytes c.in-Ok.tree) (sym s.is) c.in-Ok.ensures.spelled in
    let fits : length c.in-Ok.tree ≤ c.loop-index.room = tree_fits s.result.language c.loop-index.room k w.result.bytes c.in-Ok.tree spelled in
    subst (TreesTo c.args.specs.now c.args.sources.now (k + 1) (c.loop-index.room - length c.additions.result.now)) (sym c.in_ok-push.ensures.items)
    (subst (λ l. TreesTo c.args.specs.now c.args.sources.now (k + 1) (c.loop-index.room - length l) (c.loop-index.trees.items ++ c.in-Ok.tree ∷ [])) (sym c.additions.ensures.value)
    (trees_more c.args.specs.now c.args.sources.now k c.loop-index.room c.loop-index.trees.items s.result w.result lt s.is c.loop-index-test.true w.is c.loop-index.invariant c.in-Ok.tree spelled fits c.in-Ok.ensures.text))

pub returns-clause-spelled : goal.returns-clause-spelled
returns-clause-spelled c =
    let le : length c.args.specs.now ≤ c.loop-index.index = omega arith in
    trees_all c.args.specs.now c.args.sources.now c.loop-index.index c.loop-index.room c.loop-index.trees.items le (omega arith) c.loop-index.invariant

pub returns-clause-texts : goal.returns-clause-texts
returns-clause-texts c = all_texts c.args.specs.now c.args.sources.now c.loop-index.index c.loop-index.room c.loop-index.trees.items (omega arith) c.loop-index.invariant
