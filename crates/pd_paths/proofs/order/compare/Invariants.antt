use Rattle.std.proofs.Common.{◌≡◌, ◌-◌, ◌≤◌, length, drop}
use Rattle.pd_paths.specs.Tree.{is_before}
use Rattle.pd_paths.proofs.order.compare.Given as goal

-- the paths so far are the same
abbrev pub invariant-loop-i : goal.invariant-loop-i
invariant-loop-i l = record {
  rest : is_before l.a l.b ≡ is_before (drop l.i l.a) (drop l.i l.b);
  within : l.i ≤ length l.a;
  as_well : l.i ≤ length l.b;
}

abbrev pub decreases-loop-i : goal.decreases-loop-i
decreases-loop-i l = length l.a - l.i
