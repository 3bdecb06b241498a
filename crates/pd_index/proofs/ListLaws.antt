-- Filters, tests and elements of lists.
use Rattle.std.proofs.Common.{◌≡◌, ℕ, List, [], ◌∷◌, map, Bool, true, false, cond, ◌||◌, refl, ap, sym, ◌∙◌, subst, inl, inr}
use Rattle.std.proofs.Common.{◌⊎◌}
use Rattle.std.specs.Prelude.{◌==◌}
use Rattle.std.specs.List.{filter, list_any, AllByRecursion, Contains}
use Rattle.std.proofs.lemmas.Bool.Decides.{Decides-eqb}
use Rattle.std.proofs.lemmas.List.Folds.{Any-from_list_any, list_any-from_Any}

pub either : (b : Bool) → (b ≡ true) ⊎ (b ≡ false)
either true = inl refl
either false = inr refl

pub filter_yes : {X : Type 0} (test : X → Bool) (x : X) (xs : List X) → test x ≡ true → filter test (x ∷ xs) ≡ x ∷ filter test xs
filter_yes test x xs passes = ap (λ b. cond b (x ∷ filter test xs) (filter test xs)) passes

pub filter_no : {X : Type 0} (test : X → Bool) (x : X) (xs : List X) → test x ≡ false → filter test (x ∷ xs) ≡ filter test xs
filter_no test x xs fails = ap (λ b. cond b (x ∷ filter test xs) (filter test xs)) fails

-- a filter that all pass leaves the list as it is
pub filter_all : {X : Type 0} (test : X → Bool) (xs : List X) → AllByRecursion (λ x. test x ≡ true) xs → filter test xs ≡ xs
filter_all test [] all = refl
filter_all test (x ∷ xs) all = filter_yes test x xs all.0 ∙ ap (λ ys. x ∷ ys) (filter_all test xs all.1)

or_later : (b c : Bool) → c ≡ true → (b || c) ≡ true
or_later true c h = refl
or_later false c h = h

pub any_here : {X : Type 0} (test : X → Bool) (x : X) (xs : List X) → test x ≡ true → list_any test (x ∷ xs) ≡ true
any_here test x xs passes = ap (λ b. b || list_any test xs) passes

pub any_later : {X : Type 0} (test : X → Bool) (x : X) (xs : List X) → list_any test xs ≡ true → list_any test (x ∷ xs) ≡ true
any_later test x xs later = or_later (test x) (list_any test xs) later

pub any_rest : {X : Type 0} (test : X → Bool) (x : X) (xs : List X) → test x ≡ false → list_any test (x ∷ xs) ≡ true → list_any test xs ≡ true
any_rest test x xs fails any = sym (ap (λ b. b || list_any test xs) fails) ∙ any

pub any-map : {X Y : Type 0} (f : X → Y) (test : Y → Bool) (xs : List X) → list_any test (map f xs) ≡ list_any (λ x. test (f x)) xs
any-map f test [] = refl
any-map f test (x ∷ xs) = ap (λ b. test (f x) || b) (any-map f test xs)

pub all_both : {X : Type 0} {P Q R : X → Type 0} → ((x : X) → P x → Q x → R x) → (xs : List X) → AllByRecursion P xs → AllByRecursion Q xs → AllByRecursion R xs
all_both h [] ps qs = tt
all_both h (x ∷ xs) ps qs = (h x ps.0 qs.0, all_both h xs ps.1 qs.1)

pub all_each : {X : Type 0} {P Q : X → Type 0} → ((x : X) → P x → Q x) → (xs : List X) → AllByRecursion P xs → AllByRecursion Q xs
all_each h [] ps = tt
all_each h (x ∷ xs) ps = (h x ps.0, all_each h xs ps.1)

pub all-map : {X Y : Type 0} (f : X → Y) (P : Y → Type 0) (xs : List X) → AllByRecursion (λ x. P (f x)) xs → AllByRecursion P (map f xs)
all-map f P [] ps = tt
all-map f P (x ∷ xs) ps = (ps.0, all-map f P xs ps.1)

pub all-filter : {X : Type 0} (P : X → Type 0) (test : X → Bool) (xs : List X) → AllByRecursion P xs → AllByRecursion (λ x. P x × (test x ≡ true)) (filter test xs)
all-filter P test [] ps = tt
all-filter P test (x ∷ xs) ps = elim (either (test x)) [
  | inl passes ↦ subst (AllByRecursion (λ y. P y × (test y ≡ true))) (sym (filter_yes test x xs passes)) ((ps.0, passes), all-filter P test xs ps.1)
  | inr fails ↦ subst (AllByRecursion (λ y. P y × (test y ≡ true))) (sym (filter_no test x xs fails)) (all-filter P test xs ps.1)
]

pub contains_from_any : (xs : List ℕ) (n : ℕ) → list_any (λ x. x == n) xs ≡ true → Contains xs n
contains_from_any xs n any =
    let at = Any-from_list_any (λ x. x == n) xs any in
    subst (Contains xs) ((Decides-eqb at.1 n).0 at.4) (at.0, at.2, at.3)

pub any_from_contains : (xs : List ℕ) (n : ℕ) → Contains xs n → list_any (λ x. x == n) xs ≡ true
any_from_contains xs n contains = list_any-from_Any (λ x. x == n) xs (contains.0, n, contains.1, contains.2, (Decides-eqb n n).1 refl)
