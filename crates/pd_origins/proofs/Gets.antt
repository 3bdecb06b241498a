-- What stands at a place of a list with one more element, without the last, or with one changed.
use Rattle.std.proofs.Common.{◌≡◌, ℕ, zero, suc, List, [], ◌∷◌, ◌++◌, length, map, Some, refl, sym, ap, inl, inr, ⊎_elim, arith}
use Rattle.std.specs.Prelude.{◌⊎◌, slice_get}
use Rattle.std.proofs.lemmas.Option.{same_Some}
use Rattle.pd_machine.specs.Events.{change_at}
use Rattle.pd_running.specs.Laws.{but_last}

pub get_push : {A : Type 0} (xs : List A) (x y : A) (k : ℕ) → slice_get (xs ++ x ∷ []) k ≡ Some y → (slice_get xs k ≡ Some y) ⊎ ((k ≡ length xs) × (x ≡ y))
get_push [] x y zero h = inr (refl, same_Some x y h)
get_push [] x y (suc k) h = absurd (cc)
get_push (z ∷ xs) x y zero h = inl h
get_push {A} (z ∷ xs) x y (suc k) h =
    ⊎_elim
    (λ (a : slice_get xs k ≡ Some y). inl a)
    (λ (b : (k ≡ length xs) × (x ≡ y)). inr (ap suc b.0, b.1))
    (get_push xs x y k h)

pub get_but_last : {A : Type 0} (xs : List A) (x : A) (k : ℕ) → slice_get (but_last xs) k ≡ Some x → slice_get xs k ≡ Some x
get_but_last [] x k h = h
get_but_last (y ∷ []) x k h = absurd (cc)
get_but_last (y ∷ z ∷ xs) x zero h = h
get_but_last (y ∷ z ∷ xs) x (suc k) h = get_but_last (z ∷ xs) x k h

pub map_but_last : {A B : Type 0} (f : A → B) (xs : List A) → map f (but_last xs) ≡ but_last (map f xs)
map_but_last f [] = refl
map_but_last f (x ∷ []) = refl
map_but_last f (x ∷ y ∷ xs) = ap (λ zs. f x ∷ zs) (map_but_last f (y ∷ xs))

-- what stands at k where the element at j was changed: the changed one, or at another place the same as before
pub record IsHere {A : Type 0} (xs : List A) (f : A → A) (j k : ℕ) (y : A) : Type 0 where
  pub same : k ≡ j
  pub old : A
  pub at : slice_get xs k ≡ Some old
  pub new : y ≡ f old

pub get_change : {A : Type 0} (xs : List A) (f : A → A) (j k : ℕ) (y : A) → slice_get (change_at xs j f) k ≡ Some y → IsHere xs f j k y ⊎ ((k ≡ j → ⊥) × (slice_get xs k ≡ Some y))
get_change [] f j k y h = absurd (cc)
get_change (x ∷ xs) f zero zero y h = inl (record { same = refl; old = x; at = refl; new = sym (same_Some (f x) y h) })
get_change (x ∷ xs) f zero (suc k) y h = inr ((λ e. omega (arith, e)), h)
get_change (x ∷ xs) f (suc j) zero y h = inr ((λ e. omega (arith, e)), h)
get_change (x ∷ xs) f (suc j) (suc k) y h =
    ⊎_elim
    (λ (a : IsHere xs f j k y). inl (record { same = ap suc a.same; old = a.old; at = a.at; new = a.new }))
    (λ (b : (k ≡ j → ⊥) × (slice_get xs k ≡ Some y)). inr ((λ e. b.0 (omega (arith, e))), b.1))
    (get_change xs f j k y h)
