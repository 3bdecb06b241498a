use Rattle.std.proofs.Common.{◌≡◌, ◌++◌, length, drop}
use Rattle.pd_tree.specs.Linked.{items_of, items_from}
use Rattle.pd_tree.specs.Kept.{items_in}
use Rattle.pd_link.proofs.items.list_items.Given as goal

abbrev pub invariant-loop-n : goal.invariant-loop-n
invariant-loop-n l = record {
  items : items_in l.names.items l.roots.items ++ items_from l.n (drop l.n l.all) ≡ items_of l.all;
  beside : length l.roots.items ≡ length l.names.items;
}
