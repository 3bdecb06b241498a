use Rattle.std.proofs.Common.{length, sym, ap, ◌∙◌, subst}
use Rattle.pd_tree.specs.Linked.{joined, items_of}
use Rattle.pd_link.specs.Linking.{AllFound}
use Rattle.pd_load.specs.Linked.{interfaces}
use Rattle.pd_load.specs.Loading.{most_nodes}
use Rattle.pd_load.proofs.Items.{trees_unlinked, trees_main, found_counted}
use Rattle.pd_load.proofs.Exclusive.{trees_not_misspelled, linked_all, loaded_not_refused}
use Rattle.pd_load.proofs.Whole.{all_found_below, all_entries_below}
use Rattle.pd_load.proofs.loading.load.Goals as goal

pub link-requires-clause-unlinked : goal.link-requires-clause-unlinked
link-requires-clause-unlinked c =
    trees_unlinked 0 most_nodes c.args.plan.now.sources c.args.sources.now c.in_ok-trees.trees.items (rw c.as_slice-specs.ensures at c.in_ok-trees.ensures.spelled)

pub link-requires-clause-found : goal.link-requires-clause-found
link-requires-clause-found c =
    let plan = c.args.plan.now in
    let trees = c.in_ok-trees.trees.items in
    let tables = rw (c.as_slice-specs.ensures, c.as_slice.ensures.value) at c.in_ok-tables.ensures.tables in
    let exports = (rw (c.as_slice-2.ensures, c.as_slice-3.ensures.value) at c.in_ok-exports.ensures.found) (interfaces 1 plan.sources trees) tables in
    let found = (rw (c.as_slice-specs.ensures, c.as_slice-6.ensures.value) at c.in_ok-found.ensures) exports.0 exports.1 in
    ap length found ∙ found_counted exports.0 1 plan.sources trees (rw c.as_slice-specs.ensures at c.in_ok-trees.ensures.counted)

pub link-requires-clause-found_items : goal.link-requires-clause-found_items
link-requires-clause-found_items c =
    let plan = c.args.plan.now in
    let trees = c.in_ok-trees.trees.items in
    let tables = rw (c.as_slice-specs.ensures, c.as_slice.ensures.value) at c.in_ok-tables.ensures.tables in
    let exports = (rw (c.as_slice-2.ensures, c.as_slice-3.ensures.value) at c.in_ok-exports.ensures.found) (interfaces 1 plan.sources trees) tables in
    let found = (rw (c.as_slice-specs.ensures, c.as_slice-6.ensures.value) at c.in_ok-found.ensures) exports.0 exports.1 in
    subst (AllFound (length (items_of (joined trees)))) (sym found) (all_found_below plan trees exports.0 exports.2 (trees_main 0 most_nodes c.args.plan.now.sources c.args.sources.now c.in_ok-trees.trees.items (rw c.as_slice-specs.ensures at c.in_ok-trees.ensures.spelled)))

pub link-requires-clause-entry_items : goal.link-requires-clause-entry_items
link-requires-clause-entry_items c =
    let plan = c.args.plan.now in
    let trees = c.in_ok-trees.trees.items in
    let tables = rw (c.as_slice-specs.ensures, c.as_slice.ensures.value) at c.in_ok-tables.ensures.tables in
    let exports = (rw (c.as_slice-2.ensures, c.as_slice-3.ensures.value) at c.in_ok-exports.ensures.found) (interfaces 1 plan.sources trees) tables in
    let entries = (rw (c.as_slice-4.ensures, c.as_slice-5.ensures.value) at c.in_ok-entries.ensures.found) (interfaces 1 plan.sources trees) tables in
    all_entries_below plan trees exports.0 exports.2 (trees_main 0 most_nodes c.args.plan.now.sources c.args.sources.now c.in_ok-trees.trees.items (rw c.as_slice-specs.ensures at c.in_ok-trees.ensures.spelled)) c.in_ok-entries.entries.items entries

pub returns-clause-spelled : goal.returns-clause-spelled
returns-clause-spelled c =
    trees_not_misspelled 0 most_nodes c.args.plan.now.sources c.args.sources.now c.in_ok-trees.trees.items (rw c.as_slice-specs.ensures at c.in_ok-trees.ensures.spelled)

pub returns-clause-complete : goal.returns-clause-complete
returns-clause-complete c =
    let plan = c.args.plan.now in
    let trees = c.in_ok-trees.trees.items in
    let tables = rw (c.as_slice-specs.ensures, c.as_slice.ensures.value) at c.in_ok-tables.ensures.tables in
    let exports = (rw (c.as_slice-2.ensures, c.as_slice-3.ensures.value) at c.in_ok-exports.ensures.found) (interfaces 1 plan.sources trees) tables in
    let found = (rw (c.as_slice-specs.ensures, c.as_slice-6.ensures.value) at c.in_ok-found.ensures) exports.0 exports.1 in
    let entries = (rw (c.as_slice-4.ensures, c.as_slice-5.ensures.value) at c.in_ok-entries.ensures.found) (interfaces 1 plan.sources trees) tables in
    loaded_not_refused plan c.args.sources.now trees c.in_ok-program.program c.in_ok-trees.ensures.texts (rw c.as_slice-specs.ensures at c.in_ok-trees.ensures.spelled)
    (linked_all plan trees exports.0 c.in_ok-entries.entries.items c.in_ok-found.found.items c.in_ok-program.program exports.2 entries found c.in_ok-program.ensures)
