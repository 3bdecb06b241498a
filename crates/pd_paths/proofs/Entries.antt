-- The entries that are left.
use Rattle.std.proofs.Common.{◌≡◌, ℕ, ◌+◌, ◌<◌, ◌≤◌, List, [], ◌∷◌, length, map, drop, sym, ap, ◌∙◌}
use Rattle.std.specs.Prelude.{slice_index_or}
use Rattle.std.proofs.lemmas.List.{drop_more, drop_all, drop-map}
use Rattle.pd_running.specs.Running.{mark_in}
use Rattle.pd_log.specs.declared.Entry.{Entry}

pub next_entry : (log : List Entry) (k : ℕ) (e : Entry) → k < length log → e ≡ slice_index_or log k e → drop k (map mark_in log) ≡ mark_in e ∷ drop (k + 1) (map mark_in log)
next_entry log k e h is =
    drop-map mark_in k log ∙ ap (map mark_in) (drop_more log k e h) ∙ ap (λ x. mark_in x ∷ map mark_in (drop (k + 1) log)) (sym is)
    ∙ ap (λ ms. mark_in e ∷ ms) (sym (drop-map mark_in (k + 1) log))

pub no_entries : (log : List Entry) (k : ℕ) → length log ≤ k → drop k (map mark_in log) ≡ []
no_entries log k h = drop-map mark_in k log ∙ ap (map mark_in) (drop_all k log h)
