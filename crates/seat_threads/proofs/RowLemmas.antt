-- The layout of the rows of the bindings.
use Rattle.std.proofs.Common.{◌≡◌, ℕ, zero, suc, ◌+◌, ◌<◌, ◌≤◌, List, [], ◌∷◌, ◌++◌, length, length-append, get_or, sym, ap, subst, ⊎_elim, arith}
use Rattle.std.specs.Prelude.{slice_index}
use Rattle.std.specs.List.{All}
use Rattle.std.proofs.lemmas.List.{get_or_past}
use Rattle.std.proofs.lemmas.List.Elements.{All-append}
use Rattle.std.proofs.lemmas.Bool.{cases_lt}
use Rattle.pd_core.specs.Layout.{IsSound, Rising}
use Rattle.seat_threads.specs.Rows.{IsRow}

-- the nodes are below 16, and rise
abbrev IsGood : List ℕ → Type 0
IsGood r = ((k : ℕ) → k < length r → slice_index r k < 16) × Rising r

pair_below : (low high k : ℕ) → low < high → high < 16 → k < 2 → slice_index (low ∷ high ∷ []) k < 16
pair_below low high zero rise top lt = omega arith
pair_below low high (suc zero) rise top lt = top
pair_below low high (suc (suc k)) rise top lt = absurd (omega arith)

pair_rises : (low high i j : ℕ) → low < high → i < j → j < 2 → slice_index (low ∷ high ∷ []) i < slice_index (low ∷ high ∷ []) j
pair_rises low high zero (suc zero) rise lt below = rise
pair_rises low high zero zero rise lt below = absurd (omega arith)
pair_rises low high (suc i) (suc zero) rise lt below = absurd (omega arith)
pair_rises low high (suc i) zero rise lt below = absurd (omega arith)
pair_rises low high i (suc (suc j)) rise lt below = absurd (omega arith)

good : (r : List ℕ) → IsRow r → IsGood r
good r is = subst IsGood (sym is.2) ((λ k lt. pair_below is.0 is.1 k is.3 is.4 lt), (λ i j lt below. pair_rises is.0 is.1 i j is.3 lt below))

no_row : IsGood []
no_row = ((λ k lt. absurd (omega arith)), (λ i j lt below. absurd (omega arith)))

good_at : (rows : List (List ℕ)) → All (λ r. IsRow r) rows → (b : ℕ) → IsGood (get_or rows b [])
good_at rows all b = ⊎_elim (λ (lt : b < length rows). good (get_or rows b []) (all b [] lt)) (λ (past : length rows ≤ b). subst IsGood (sym (get_or_past rows b [] past)) no_row) (cases_lt b (length rows))

-- rows of two nodes each make a sound layout
pub rows_sound : (rows : List (List ℕ)) → length rows ≡ 96 → All (λ r. IsRow r) rows → IsSound (record { nodes = 16; rows = rows; sessions = 2; contexts = 4 })
rows_sound rows all_are all = (omega arith, (λ b k lt. (good_at rows all b).0 k lt), (λ b. (good_at rows all b).1))

-- ---- one row more

one_row : (r : List ℕ) → IsRow r → All (λ x. IsRow x) (r ∷ [])
one_row r is zero d below = is
one_row r is (suc k) d below = absurd (omega arith)

pub row_more : (rows : List (List ℕ)) (r : List ℕ) (all : List (List ℕ)) → All (λ x. IsRow x) rows → IsRow r → all ≡ rows ++ r ∷ [] → All (λ x. IsRow x) all
row_more rows r all are is e = subst (λ (xs : List (List ℕ)). All (λ x. IsRow x) xs) (sym e) (All-append (λ x. IsRow x) rows (r ∷ []) are (one_row r is))

pub count_more : (rows : List (List ℕ)) (r : List ℕ) (all : List (List ℕ)) {n : ℕ} → all ≡ rows ++ r ∷ [] → length rows ≡ n → length all ≡ n + 1
count_more rows r all e count = omega (arith, ap length e, length-append rows (r ∷ []))
