-- Definition, which public contracts cite.
-- The entries of several logs as one list by place.
use Rattle.std.specs.Prelude.{ℕ, ◌+◌, ◌<◌, ◌≤◌, ◌==◌, List, length, count_by, flat_map}
use Rattle.std.specs.List.Sorted.{IsPermutation}
use Rattle.std.specs.Global.{Vec}
use Rattle.pd_log.specs.declared.Entry.{Entry}
use Rattle.pd_log.specs.Pairing.{entry_at}

-- the entries of all logs, log by log
abbrev pub entries_in : List (Vec Entry) → List Entry
entries_in logs = flat_map (λ log. log.items) logs

-- no two of the entries have one place
abbrev pub PlacesDiffer : List Entry → Type 0
PlacesDiffer entries = (p : ℕ) → count_by (λ e. e.place == p) entries ≤ 1

-- the same entries, and each has a greater place than the one before it
pub record IsMerged (entries merged : List Entry) : Type 0 where
  pub same : IsPermutation entries merged
  pub rising : (i : ℕ) → i + 1 < length merged → (entry_at merged i).place < (entry_at merged (i + 1)).place
