use Rattle.std.proofs.Common.{◌≡◌, ◌==◌, ◌&&◌, ◌||◌, ℕ, take}
use Rattle.std.specs.List.{list_any}
use Rattle.pd_shared.specs.Matching.{stands, IsAlike}
use Rattle.pd_shared.proofs.matching.Matching.set_all.Given as goal

abbrev pub invariant-loop-n : goal.invariant-loop-n
invariant-loop-n l = record {
  set : (m c : ℕ) → stands l.self m c ≡ ((list_any (λ n. n == m) (take l.n-index l.row) && c == l.b) || stands l.fn.self m c);
  alike : IsAlike l.fn.self l.self;
}
