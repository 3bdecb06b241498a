-- What stands in a slot after an event was put into one.
use Rattle.std.proofs.Common.{◌≡◌, ℕ, zero, suc, true, false, cond, ◌&&◌, List, [], ◌∷◌, ◌++◌, length, set, get_or, Option, Some, None, refl, sym, ap, subst, ◌∙◌, ⊎_elim, arith}
use Rattle.std.specs.Prelude.{◌==◌, ◌≤◌, ◌<◌, slice_index_or, slice_set}
use Rattle.std.proofs.lemmas.Bool.{cases_Bool, eqb-true}
use Rattle.std.proofs.lemmas.Bool.Decides.{nat_tests}
use Rattle.pd_origins.specs.Ledger.{latest, put, latest_in, put_in}

pub self_same : (a : ℕ) → (a == a) ≡ true
self_same a = grind (arith, nat_tests)

pub differ : (a b : ℕ) → (a == b) ≡ false → a ≡ b → ⊥
differ a b h e = absurd (cc (sym (self_same b) ∙ ap (λ k. k == b) (sym e) ∙ h))

-- ---- one list of slots

latest_same : (slot event : ℕ) (xs : List (Option ℕ)) → latest slot (put slot event xs) ≡ Some event
latest_same zero event [] = refl
latest_same zero event (x ∷ xs) = refl
latest_same (suc slot) event [] = latest_same slot event []
latest_same (suc slot) event (x ∷ xs) = latest_same slot event xs

latest_other : (slot other event : ℕ) (xs : List (Option ℕ)) → (slot ≡ other → ⊥) → latest other (put slot event xs) ≡ latest other xs
latest_other zero zero event xs h = absurd (h refl)
latest_other zero (suc other) event [] h = refl
latest_other zero (suc other) event (x ∷ xs) h = refl
latest_other (suc slot) zero event [] h = refl
latest_other (suc slot) zero event (x ∷ xs) h = refl
latest_other (suc slot) (suc other) event [] h = latest_other slot other event [] (λ e. h (ap suc e))
latest_other (suc slot) (suc other) event (x ∷ xs) h = latest_other slot other event xs (λ e. h (ap suc e))

pub latest_put : (slot other event : ℕ) (xs : List (Option ℕ)) → latest other (put slot event xs) ≡ cond (slot == other) (Some event) (latest other xs)
latest_put slot other event xs = ⊎_elim
    (λ (e : (slot == other) ≡ true). subst (λ k. latest k (put slot event xs) ≡ Some event) (eqb-true slot other e) (latest_same slot event xs) ∙ ap (λ b. cond b (Some event) (latest other xs)) (sym e))
    (λ (e : (slot == other) ≡ false). latest_other slot other event xs (differ slot other e) ∙ ap (λ b. cond b (Some event) (latest other xs)) (sym e))
    (cases_Bool (slot == other))

-- ---- those of all sources

slots_same : (source slot event : ℕ) (xs : List (List (Option ℕ))) → slice_index_or (put_in source slot event xs) source [] ≡ put slot event (slice_index_or xs source [])
slots_same zero slot event [] = refl
slots_same zero slot event (x ∷ xs) = refl
slots_same (suc source) slot event [] = slots_same source slot event []
slots_same (suc source) slot event (x ∷ xs) = slots_same source slot event xs

slots_other : (source other slot event : ℕ) (xs : List (List (Option ℕ))) → (source ≡ other → ⊥) → slice_index_or (put_in source slot event xs) other [] ≡ slice_index_or xs other []
slots_other zero zero slot event xs h = absurd (h refl)
slots_other zero (suc other) slot event [] h = refl
slots_other zero (suc other) slot event (x ∷ xs) h = refl
slots_other (suc source) zero slot event [] h = refl
slots_other (suc source) zero slot event (x ∷ xs) h = refl
slots_other (suc source) (suc other) slot event [] h = slots_other source other slot event [] (λ e. h (ap suc e))
slots_other (suc source) (suc other) slot event (x ∷ xs) h = slots_other source other slot event xs (λ e. h (ap suc e))

pub latest_put_in : (source slot other s event : ℕ) (xs : List (List (Option ℕ))) → latest_in other s (put_in source slot event xs) ≡ cond ((source == other) && (slot == s)) (Some event) (latest_in other s xs)
latest_put_in source slot other s event xs = ⊎_elim
    (λ (e : (source == other) ≡ true).
    ap (latest s) (subst (λ k. slice_index_or (put_in source slot event xs) k [] ≡ put slot event (slice_index_or xs k [])) (eqb-true source other e) (slots_same source slot event xs))
    ∙ latest_put slot s event (slice_index_or xs other [])
    ∙ ap (λ b. cond (b && (slot == s)) (Some event) (latest_in other s xs)) (sym e))
    (λ (e : (source == other) ≡ false).
    ap (latest s) (slots_other source other slot event xs (differ source other e))
    ∙ ap (λ b. cond (b && (slot == s)) (Some event) (latest_in other s xs)) (sym e))
    (cases_Bool (source == other))

-- ---- as the code does it

-- an empty slot more, where the list is too short
pub put_grown : (slot event : ℕ) (xs : List (Option ℕ)) → length xs ≤ slot → put slot event (xs ++ None ∷ []) ≡ put slot event xs
put_grown zero event [] h = refl
put_grown (suc slot) event [] h = refl
put_grown zero event (x ∷ xs) h = absurd (omega arith)
put_grown (suc slot) event (x ∷ xs) h = ap (λ ys. x ∷ ys) (put_grown slot event xs (omega arith))

pub put_within : (slot event : ℕ) (xs : List (Option ℕ)) → slot < length xs → put slot event xs ≡ slice_set xs slot (Some event)
put_within slot event [] h = absurd (omega arith)
put_within zero event (x ∷ xs) h = refl
put_within (suc slot) event (x ∷ xs) h = ap (λ ys. x ∷ ys) (put_within slot event xs (omega arith))

pub put_in_grown : (source slot event : ℕ) (xs : List (List (Option ℕ))) → length xs ≤ source → put_in source slot event (xs ++ [] ∷ []) ≡ put_in source slot event xs
put_in_grown zero slot event [] h = refl
put_in_grown (suc source) slot event [] h = refl
put_in_grown zero slot event (x ∷ xs) h = absurd (omega arith)
put_in_grown (suc source) slot event (x ∷ xs) h = ap (λ ys. x ∷ ys) (put_in_grown source slot event xs (omega arith))

pub put_in_within : (source slot event : ℕ) (xs : List (List (Option ℕ))) (x : List (Option ℕ)) → source < length xs → x ≡ get_or xs source x → put_in source slot event xs ≡ set xs source (put slot event x)
put_in_within source slot event [] x h e = absurd (omega arith)
put_in_within zero slot event (y ∷ xs) x h e = ap (λ z. put slot event z ∷ xs) (sym e)
put_in_within (suc source) slot event (y ∷ xs) x h e = ap (λ ys. y ∷ ys) (put_in_within source slot event xs x (omega arith) e)
