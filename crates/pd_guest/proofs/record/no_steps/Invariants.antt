-- So many sessions so far, and each is without a step.
use Rattle.std.proofs.Common.{◌≡◌, ℕ, length}
use Rattle.std.specs.Prelude.{slice_index_or}
use Rattle.pd_suspend.specs.Counters.{idle}
use Rattle.pd_guest.proofs.record.no_steps.Given as goal

abbrev pub invariant-steps : goal.invariant-steps
invariant-steps l = record {
  count : length l.steps.items ≡ l.counter;
  none : (x : ℕ) → slice_index_or l.steps.items x idle ≡ idle;
}
