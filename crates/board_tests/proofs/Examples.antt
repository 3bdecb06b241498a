-- The table that the tests use.
use Rattle.std.proofs.Common.{◌≡◌, ℕ, zero, suc, ◌<◌, List, [], ◌∷◌, slice_index_or, sym, subst, arith}
use Rattle.std.specs.List.{All}

one_row : (b : ℕ) → All (λ n. n < 8) (slice_index_or ((3 ∷ []) ∷ []) b [])
one_row zero zero d below = omega arith
one_row zero (suc k) d below = absurd (omega arith)
one_row (suc zero) k d below = absurd (omega arith)
one_row (suc (suc b)) k d below = absurd (omega arith)

pub one_row_within : (rows : List (List ℕ)) → rows ≡ (3 ∷ []) ∷ [] → (b : ℕ) → All (λ n. n < 8) (slice_index_or rows b [])
one_row_within rows e b = subst (λ (r : List (List ℕ)). All (λ n. n < 8) (slice_index_or r b [])) (sym e) (one_row b)
