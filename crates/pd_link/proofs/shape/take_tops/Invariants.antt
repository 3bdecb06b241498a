use Rattle.std.proofs.Common.{◌≡◌, ◌++◌, take, drop, reverse}
use Rattle.pd_link.proofs.shape.take_tops.Given as goal

abbrev pub invariant-loop : goal.invariant-loop
invariant-loop l = record {
  rest : reverse l.tops.items ≡ drop l.counter (reverse l.initial.tops.items);
  moved : l.parts.items ≡ l.initial.parts.items ++ take l.counter (reverse l.initial.tops.items);
}
