-- Where a binary search by event ends in a log.
use Rattle.std.proofs.Common.{◌≡◌, ℕ, ◌<◌, ◌≤◌, zero, suc, List, [], ◌∷◌, length, Ok, Err, sym, ap, arith}
use Rattle.std.specs.List.Sorted.{IsBinarySearchResult, IsNonDecreasingBy}
use Rattle.std.specs.Ordering.{nat_cmp, ordering_index}
use Rattle.std.proofs.lemmas.Cmp.{ranked}
use Rattle.std.proofs.lemmas.List.Sorted.{IsNonDecreasingBy-from_default}
use Rattle.std.proofs.lemmas.Bool.Decides.{nat_tests}
use Rattle.pd_log.specs.declared.Entry.{Entry}
use Rattle.pd_log.specs.Pairing.{no_entry, entry_at, IsByEvent, IsEnterOf}

-- every entry behind the first has a later event
all_later : (x : Entry) (xs : List Entry) → IsByEvent (x ∷ xs) → (j : ℕ) → j < length xs → x.event < (entry_at xs j).event
all_later x [] by_event j in_range = absurd (omega (arith, in_range))
all_later x (y ∷ ys) by_event zero in_range = by_event.0
all_later x (y ∷ ys) by_event (suc j) in_range = omega (arith, by_event.0, all_later y ys by_event.1 j (omega (arith, in_range)))

-- of two entries the one behind has the later event
later_behind : (log : List Entry) → IsByEvent log → (i j : ℕ) → i < j → j < length log → (entry_at log i).event < (entry_at log j).event
later_behind [] by_event i j lt in_range = absurd (omega (arith, in_range))
later_behind (x ∷ xs) by_event zero zero lt in_range = absurd (omega (arith, lt))
later_behind (x ∷ xs) by_event zero (suc j) lt in_range = all_later x xs by_event j (omega (arith, in_range))
later_behind (x ∷ xs) by_event (suc i) zero lt in_range = absurd (omega (arith, lt))
later_behind (x ∷ xs) by_event (suc i) (suc j) lt in_range = later_behind xs by_event.1 i j (omega (arith, lt)) (omega (arith, in_range))

module _ (log : List Entry) (by_event : IsByEvent log) (event : ℕ) where
  -- the comparisons with the event rise along the log, as a binary search asks
  comparisons_rise : IsNonDecreasingBy (λ e. ordering_index (nat_cmp e.event event)) log
  comparisons_rise = IsNonDecreasingBy-from_default (λ e. ordering_index (nat_cmp e.event event)) log no_entry (λ i j le in_range.
      let rise : (entry_at log i).event ≤ (entry_at log j).event = grind (arith, later_behind log by_event i j, λ (same : i ≡ j). ap (λ k. (entry_at log k).event) same) in
      grind (arith, nat_tests))

  -- a search that ends at a place found the event there
  pub found : (at : ℕ) → IsBinarySearchResult (λ e. nat_cmp e.event event) log (Ok at) → (entry_at log at).event ≡ event
  found at equal = ranked _ event _ (sym (equal no_entry))

  -- no other place has the event
  pub only_place : (at j : ℕ) → at < length log → (entry_at log at).event ≡ event → IsEnterOf log event j → j ≡ at
  only_place at j in_range here enter = grind (arith, enter.same, enter.in_log, later_behind log by_event at j, later_behind log by_event j at)

  -- a search that ends at no place shows that no entry has the event
  pub absent : (gap : ℕ) → gap ≤ length log → IsBinarySearchResult (λ e. nat_cmp e.event event) log (Err gap) → (j : ℕ) → IsEnterOf log event j → ⊥
  absent gap in_range parted j enter =
      let before = λ (lt : j < gap). ranked _ event _ (sym ((parted comparisons_rise).0 j no_entry (omega arith) lt)) in
      let behind = λ (le : gap ≤ j). ranked _ event _ (sym ((parted comparisons_rise).1 j no_entry le enter.in_log)) in
      grind (arith, enter.same, before, behind)
