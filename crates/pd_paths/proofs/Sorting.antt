-- What was counted over all entries, sorted, are the paths that the entries tell.
use Rattle.std.proofs.Common.{◌≡◌, ℕ, suc, ◌+◌, ◌-◌, ◌<◌, ◌≤◌, Bool, true, false, not, List, [], ◌∷◌, length, refl, sym, ap, subst, ◌∙◌, arith, ⊎_elim}
use Rattle.std.specs.Prelude.{nat_lt, bytes_eq, slice_index_or}
use Rattle.std.specs.Cmp.{IsStrictWeakOrder}
use Rattle.std.specs.List.{list_all, remove, sum_by}
use Rattle.std.specs.List.Sorted.{IsPermutation, IsSortedBy}
use Rattle.std.proofs.lemmas.Bool.{cases_Bool, and_parts, and_from}
use Rattle.std.proofs.lemmas.List.Sorted.{sum_by-IsPermutation}
use Rattle.std.proofs.lemmas.List.Sums.{sum_by-cons}
use Rattle.std.proofs.lemmas.Slice.Eq.{bytes_eq-Decides}
use Rattle.pd_running.specs.Running.{Mark}
use Rattle.pd_paths.specs.declared.PathCount.{PathCount}
use Rattle.pd_paths.specs.declared.counter.Counter.{Counter}
use Rattle.pd_paths.specs.Tree.{is_before, paths_rise}
use Rattle.pd_paths.specs.Tally.{weigh, amount, IsAdditive, number, tallied, is_path, IsTally}
use Rattle.pd_paths.specs.Counting.{path_at, AreBegun, HasRoom, IsCountedTo, IsStanding}
use Rattle.pd_paths.proofs.Rises.{before_trans, before_irrefl, before_total, path_self}
use Rattle.pd_paths.proofs.Passing.{room_to}

-- ---- the order of paths as a sort asks it

abbrev pub before : PathCount → PathCount → Bool
before x y = is_before x.path y.path

no_both : (b : Bool) → (b ≡ true → ⊥) → b ≡ false
no_both true h = absurd (h refl)
no_both false h = refl

pub before_order : IsStrictWeakOrder before
before_order = record {
  one_way = λ x y h. no_both (before y x) (λ k. before_irrefl x.path (before_trans x.path y.path x.path h k));
  chain = λ x y z h k. no_both (before x z) (λ l. ⊎_elim
      (λ (e : bytes_eq y.path x.path ≡ true). both (before y z) k (subst (λ q. is_before q z.path ≡ true) (sym ((bytes_eq-Decides y.path x.path).0 e)) l))
      (λ (e : bytes_eq y.path x.path ≡ false). both (before y z) k (before_trans y.path x.path z.path (before_total x.path y.path e h) l))
      (cases_Bool (bytes_eq y.path x.path)));
}
  where
    both : (b : Bool) → b ≡ false → b ≡ true → ⊥
    both true h k = cc
    both false h k = cc

-- ---- amounts and tests of the same paths in another order

sum_is : (f : PathCount → ℕ) (test : List ℕ → Bool) (xs : List PathCount) → amount f test xs ≡ sum_by (λ x. weigh (test x.path) (f x)) xs
sum_is f test [] = refl
sum_is f test (x ∷ xs) = ap (λ k. weigh (test x.path) (f x) + k) (sum_is f test xs) ∙ sym (sum_by-cons (λ y. weigh (test y.path) (f y)) x xs)

pub amount_moved : (f : PathCount → ℕ) (test : List ℕ → Bool) (xs ys : List PathCount) → IsPermutation xs ys → amount f test ys ≡ amount f test xs
amount_moved f test xs ys h = sum_is f test ys ∙ sum_by-IsPermutation (λ x. weigh (test x.path) (f x)) xs ys h ∙ sym (sum_is f test xs)

abbrev missed : (PathCount → Bool) → List PathCount → ℕ
missed p xs = amount (λ x. weigh (not (p x)) 1) (λ q. true) xs

none_missed : (p : PathCount → Bool) (xs : List PathCount) → list_all p xs ≡ true → missed p xs ≡ 0
none_missed p [] h = refl
none_missed p (x ∷ xs) h =
    let parts = and_parts (p x) (list_all p xs) h in
    let here : weigh (not (p x)) 1 ≡ 0 = ap (λ b. weigh (not b) 1) parts.0 in
    let rest = none_missed p xs parts.1 in
    omega (arith, here, rest)

all_met : (p : PathCount → Bool) (xs : List PathCount) → missed p xs ≡ 0 → list_all p xs ≡ true
all_met p [] h = refl
all_met p (x ∷ xs) h = ⊎_elim
    (λ (e : p x ≡ true). and_from _ _ e (all_met p xs (rest (p x) e h)))
    (λ (e : p x ≡ false). absurd (some (p x) e h))
    (cases_Bool (p x))
  where
    rest : (b : Bool) → b ≡ true → weigh (not b) 1 + missed p xs ≡ 0 → missed p xs ≡ 0
    rest true e h = omega (arith, h)
    rest false e h = cc

    some : (b : Bool) → b ≡ false → weigh (not b) 1 + missed p xs ≡ 0 → ⊥
    some true e h = cc
    some false e h = omega (arith, h)

all_moved : (p : PathCount → Bool) (xs ys : List PathCount) → IsPermutation xs ys → list_all p xs ≡ true → list_all p ys ≡ true
all_moved p xs ys h k = all_met p ys (amount_moved (λ x. weigh (not (p x)) 1) (λ q. true) xs ys h ∙ none_missed p xs k)

-- ---- each path stands once

abbrev pub times : List ℕ → List PathCount → ℕ
times q xs = amount (λ x. 1) (λ r. bytes_eq r q) xs

never : (xs : List PathCount) (q : List ℕ) → ((i : ℕ) → i < length xs → path_at xs i ≡ q → ⊥) → times q xs ≡ 0
never [] q h = refl
never (x ∷ xs) q h =
    let here : weigh (bytes_eq x.path q) 1 ≡ 0 = ap (λ b. weigh b 1) (no_both (bytes_eq x.path q) (λ e. h 0 (omega arith) ((bytes_eq-Decides x.path q).0 e))) in
    let rest = never xs q (λ i l e. h (suc i) (omega (arith, l)) e) in
    omega (arith, here, rest)

at_most_once : (xs : List PathCount) → ((i j : ℕ) → i < length xs → j < length xs → path_at xs i ≡ path_at xs j → i ≡ j) → (q : List ℕ) → times q xs ≤ 1
at_most_once [] h q = omega arith
at_most_once (x ∷ xs) h q = ⊎_elim
    (λ (e : bytes_eq x.path q ≡ true).
    let here : weigh (bytes_eq x.path q) 1 ≡ 1 = ap (λ b. weigh b 1) e in
    let none = never xs q (λ i l f. apart i (h 0 (suc i) (omega arith) (omega (arith, l)) ((bytes_eq-Decides x.path q).0 e ∙ sym f))) in
    omega (arith, here, none))
    (λ (e : bytes_eq x.path q ≡ false).
    let here : weigh (bytes_eq x.path q) 1 ≡ 0 = ap (λ b. weigh b 1) e in
    let rest = at_most_once xs (λ i j l m f. less i j (h (suc i) (suc j) (omega (arith, l)) (omega (arith, m)) f)) q in
    omega (arith, here, rest))
    (cases_Bool (bytes_eq x.path q))
  where
    apart : (i : ℕ) → 0 ≡ suc i → ⊥
    apart i e = omega (arith, e)

    less : (i j : ℕ) → suc i ≡ suc j → i ≡ j
    less i j e = omega (arith, e)

-- ---- they rise

all_before : (a b : List ℕ) (xs : List PathCount) → is_before a b ≡ true → list_all (λ y. is_before b y.path) xs ≡ true → list_all (λ y. is_before a y.path) xs ≡ true
all_before a b [] h k = refl
all_before a b (y ∷ ys) h k =
    let parts = and_parts (is_before b y.path) (list_all (λ y. is_before b y.path) ys) k in
    and_from _ _ (before_trans a b y.path h parts.0) (all_before a b ys h parts.1)

pub sorted_rises : (ys : List PathCount) → IsSortedBy before ys → ((q : List ℕ) → times q ys ≤ 1) → paths_rise ys ≡ true
sorted_rises [] s h = refl
sorted_rises (y ∷ []) s h = refl
sorted_rises (y ∷ z ∷ zs) s h =
    let self : weigh (bytes_eq z.path z.path) 1 ≡ 1 = ap (λ b. weigh b 1) (path_self z.path) in
    let bound = h z.path in
    let apart : bytes_eq y.path z.path ≡ false = no_both (bytes_eq y.path z.path) (λ e. let here : weigh (bytes_eq y.path z.path) 1 ≡ 1 = ap (λ b. weigh b 1) e in omega (arith, here, self, bound)) in
    let first : is_before y.path z.path ≡ true = before_total z.path y.path apart (s 0 y (omega arith) (omega arith)) in
    let rest : paths_rise (z ∷ zs) ≡ true = sorted_rises (z ∷ zs) (λ k d l m. later k d (s (suc k) d (omega arith) (omega (arith, m)))) (λ q. let b = h q in omega (arith, b)) in
    let parts = and_parts (list_all (λ x. is_before z.path x.path) zs) (paths_rise zs) rest in
    and_from _ _ (and_from _ _ first (all_before y.path z.path zs first parts.0)) rest
  where
    later : (k : ℕ) (d : PathCount) → before (slice_index_or (y ∷ z ∷ zs) (suc k + 1) d) (slice_index_or (y ∷ z ∷ zs) (suc k) d) ≡ false → before (slice_index_or (z ∷ zs) (k + 1) d) (slice_index_or (z ∷ zs) k d) ≡ false
    later k d h = subst (λ j. before (slice_index_or (y ∷ z ∷ zs) j d) (slice_index_or (z ∷ zs) k d) ≡ false) (more k) h
      where
        more : (k : ℕ) → suc k + 1 ≡ suc (k + 1)
        more k = omega arith

-- ---- all together

-- the paths at the end, the empty one first
pub record IsEnded (events : ℕ) (all : List Mark) (paths : List PathCount) : Type 0 where
  pub begun : AreBegun paths
  pub once : (i j : ℕ) → i < length paths → j < length paths → path_at paths i ≡ path_at paths j → i ≡ j
  pub amounts : (w : ℕ → ℕ → ℕ) (test : List ℕ → Bool) → IsAdditive w → amount (number w) test paths ≡ tallied w test events [] 0 all

pub room_at_end : (events : ℕ) (all rest : List Mark) (c : Counter) → events < 4294967296 → rest ≡ [] → IsStanding events all rest c → HasRoom events c
room_at_end events all [] c few e s = room_to events events all [] c few s s.rising (omega arith)
room_at_end events all (m ∷ ms) c few e s = cc

pub ended : (events : ℕ) (all rest : List Mark) (old new : Counter) → rest ≡ [] → IsStanding events all rest old → IsCountedTo events old new → IsEnded events all new.paths.items
ended events all (m ∷ ms) old new e s t = cc
ended events all [] old new e s t = record {
  begun = t.kept.0.begun;
  once = t.kept.0.once;
  amounts = λ w test additive. t.amounts w test additive ∙ s.amounts w test additive;
}

tally_rest : (events : ℕ) (all : List Mark) (x : PathCount) (xs ys : List PathCount) → IsEnded events all (x ∷ xs) → IsPermutation xs ys → IsSortedBy before ys → IsTally events all ys
tally_rest events all x xs ys e moved sorted = record {
  rising = sorted_rises ys sorted (λ q. let o = once q in let m = amount_moved (λ x. 1) (λ r. bytes_eq r q) xs ys moved in omega (arith, o, m));
  full = all_moved (λ x. is_path x.path) xs ys moved e.begun.2;
  some = all_moved (λ x. nat_lt 0 x.count) xs ys moved e.begun.1;
  amounts = λ w test additive empty. amounts w test additive empty;
}
  where
    amounts : (w : ℕ → ℕ → ℕ) (test : List ℕ → Bool) → IsAdditive w → test [] ≡ false → amount (number w) test ys ≡ tallied w test events [] 0 all
    amounts w test additive empty =
        let here : weigh (test x.path) (number w x) ≡ 0 = ap (λ b. weigh b (number w x)) (ap test e.begun.0 ∙ empty) in
        let full = e.amounts w test additive in
        let same = amount_moved (number w) test xs ys moved in
        omega (arith, here, full, same)

    once : (q : List ℕ) → times q xs ≤ 1
    once q = at_most_once xs (λ i j l m f. less i j (e.once (suc i) (suc j) (omega (arith, l)) (omega (arith, m)) f)) q
      where
        less : (i j : ℕ) → suc i ≡ suc j → i ≡ j
        less i j e = omega (arith, e)

pub tally_sorted : (events : ℕ) (all : List Mark) (ps xs ys : List PathCount) → IsEnded events all ps → xs ≡ remove ps 0 → IsPermutation xs ys → IsSortedBy before ys → IsTally events all ys
tally_sorted events all [] xs ys e same moved sorted = absurd e.begun
tally_sorted events all (p ∷ ps) xs ys e same moved sorted = tally_rest events all p ps ys e (subst (λ zs. IsPermutation zs ys) same moved) sorted

pub some_path : (events : ℕ) (all : List Mark) (ps : List PathCount) → IsEnded events all ps → 0 < length ps
some_path events all [] e = absurd e.begun
some_path events all (p ∷ ps) e = omega arith
