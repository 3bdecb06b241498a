use Rattle.std.proofs.Common.{◌≡◌, ◌+◌, ◌≤◌, length, vec_len}
use Rattle.pd_tree.specs.Linked.{closed}
use Rattle.pd_tree.specs.Kept.{list_at, AllBefore}
use Rattle.pd_link.specs.Linking.{Grew, AllOpenedIn, opens_in}
use Rattle.pd_link.specs.Walks.{AllOpenAt}
use Rattle.pd_link.proofs.walk.close.Given as goal

abbrev pub invariant-loop-last : goal.invariant-loop-last
invariant-loop-last l = record {
  grew : Grew l.initial.changes.items l.changes.items;
  before : AllBefore 0 l.initial.changes.items → AllBefore 0 l.changes.items;
  few : length l.changes.items + length l.opened.items ≤ length l.initial.changes.items + length l.initial.opened.items;
  opened_within : AllOpenedIn l.changes.items l.opened.items;
  seen_within : l.seen ≤ length l.changes.items;
  nodes : AllOpenAt (length l.all) (opens_in l.all l.changes.items l.opened.items);
  walked : closed l.all (opens_in l.all l.changes.items l.opened.items) (list_at l.all l.changes.items l.seen)
      ≡ closed l.all (opens_in l.all l.initial.changes.items l.initial.opened.items) (list_at l.all l.initial.changes.items l.initial.seen);
}

abbrev pub decreases-loop-last : goal.decreases-loop-last
decreases-loop-last l = vec_len l.opened
