-- The outcomes so far were taken apart.
use Rattle.std.proofs.Common.{◌≡◌, true, map}
use Rattle.std.specs.List.{filter_map, list_all}
use Rattle.pd_threads.specs.Returned.{ran_in, acted_in, has_come}
use Rattle.pd_threads.proofs.outcomes.outcomes_of.Given as goal

abbrev pub invariant-loop-piece : goal.invariant-loop-piece
invariant-loop-piece l = record {
  records : l.records.items ≡ filter_map (λ d. ran_in d.own.outcome) l.yielded;
  results : map (λ v. v.items) l.results.items ≡ filter_map (λ d. acted_in d.own.outcome) l.yielded;
  sights : l.sights.items ≡ map (λ d. d.sights) l.yielded;
  come : list_all (λ d. has_come d.own.outcome) l.yielded ≡ true;
}
