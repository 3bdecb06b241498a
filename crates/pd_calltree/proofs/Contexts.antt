-- One context after another.
use Rattle.std.proofs.Common.{◌≡◌, ℕ, zero, suc, ◌+◌, ◌<◌, ◌≤◌, List, [], ◌∷◌, ◌++◌, length, map, take, sym, ap, subst, ◌∙◌, arith}
use Rattle.std.specs.Prelude.{slice_index_or}
use Rattle.std.proofs.lemmas.List.{take_more, take_all}
use Rattle.pd_suspend.specs.declared.context.ContextRecord.{ContextRecord}
use Rattle.pd_running.specs.Running.{mark_in}
use Rattle.pd_paths.specs.declared.PathCount.{PathCount}
use Rattle.pd_paths.specs.Tally.{AreRising, IsTally}
use Rattle.pd_calltree.specs.Results.{log_in}
use Rattle.pd_calltree.specs.Counting.{AreCountable, AreTallied}

pub countable_at : (b : ℕ) (rs : List ContextRecord) (k : ℕ) (r : ContextRecord) → AreCountable b rs → k < length rs → r ≡ slice_index_or rs k r → AreRising 0 r.events (map mark_in (log_in b r))
countable_at b [] k r h l e = absurd (omega (arith, l))
countable_at b (x ∷ xs) zero r h l e = subst (λ (y : ContextRecord). AreRising 0 y.events (map mark_in (log_in b y))) (sym e) h.0
countable_at b (x ∷ xs) (suc k) r h l e = countable_at b xs k r h.1 (omega (arith, l)) e

tallied_push : (b : ℕ) (rs : List ContextRecord) (ts : List (List PathCount)) (r : ContextRecord) (t : List PathCount) → AreTallied b rs ts → IsTally r.events (map mark_in (log_in b r)) t → AreTallied b (rs ++ r ∷ []) (ts ++ t ∷ [])
tallied_push b [] [] r t h k = (k, tt)
tallied_push b (x ∷ xs) (y ∷ ys) r t h k = (h.0, tallied_push b xs ys r t h.1 k)
tallied_push b [] (y ∷ ys) r t h k = absurd h
tallied_push b (x ∷ xs) [] r t h k = absurd h

pub tallied_more : (b : ℕ) (rs : List ContextRecord) (k : ℕ) (ts : List (List PathCount)) (r : ContextRecord) (t : List PathCount) → k < length rs → r ≡ slice_index_or rs k r → AreTallied b (take k rs) ts → IsTally r.events (map mark_in (log_in b r)) t → AreTallied b (take (k + 1) rs) (ts ++ t ∷ [])
tallied_more b rs k ts r t l e h i =
    let more : take (k + 1) rs ≡ take k rs ++ r ∷ [] = take_more rs k r l ∙ ap (λ x. take k rs ++ x ∷ []) (sym e) in
    subst (λ xs. AreTallied b xs (ts ++ t ∷ [])) (sym more) (tallied_push b (take k rs) ts r t h i)

pub tallied_all : (b : ℕ) (rs : List ContextRecord) (k : ℕ) (ts : List (List PathCount)) → length rs ≤ k → AreTallied b (take k rs) ts → AreTallied b rs ts
tallied_all b rs k ts l h = subst (λ xs. AreTallied b xs ts) (take_all k rs l) h
