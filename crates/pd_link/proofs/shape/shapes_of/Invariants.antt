use Rattle.std.proofs.Common.{◌≡◌, ◌^◌, ◌<◌, ◌≤◌, length, drop, reverse}
use Rattle.pd_tree.specs.Linked.{tops, assigned_slots}
use Rattle.pd_link.specs.Linking.{ShapesFrom}
use Rattle.pd_link.proofs.shape.shapes_of.Given as goal

abbrev pub invariant-loop-n : goal.invariant-loop-n
invariant-loop-n l = record {
  shapes : ShapesFrom l.n (drop l.n l.all) l.parts.items l.shapes.items;
  tops : reverse l.tops.items ≡ tops l.n (drop l.n l.all);
  assigned : l.assigned ≡ assigned_slots (drop l.n l.all);
  fits : l.assigned < 2 ^ 32;
  within : l.n ≤ length l.all;
}

abbrev pub decreases-loop-n : goal.decreases-loop-n
decreases-loop-n l = l.n
