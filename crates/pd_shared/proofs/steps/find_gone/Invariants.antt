use Rattle.std.proofs.Common.{◌*◌, ◌+◌, ◌-◌, ◌≤◌, ◌≡◌, vec_len}
use Rattle.pd_shared.proofs.GoneLemmas.{IsDone}
use Rattle.pd_shared.proofs.steps.find_gone.Given as goal

abbrev pub invariant-bits : goal.invariant-bits
invariant-bits l = record {
  few : l.low ≤ 64;
  len : vec_len l.known ≡ vec_len l.initial.known;
  done : IsDone l.board.table l.n l.word (64 * l.r) (64 * l.r + l.low) l.initial.known.items l.known.items;
}

abbrev pub decreases-bits : goal.decreases-bits
decreases-bits l = 64 - l.low
