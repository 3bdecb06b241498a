-- What is kept while paths are counted, where one is changed or added.
use Rattle.std.proofs.Common.{◌≡◌, ℕ, zero, suc, ◌+◌, ◌<◌, ◌^◌, true, false, List, [], ◌∷◌, ◌++◌, length, Option, None, Some, refl, sym, ap, subst, ◌∙◌, arith, ⊎_elim, inl, inr}
use Rattle.std.specs.Prelude.{◌⊎◌, nat_lt, ◌==◌, slice_index, slice_index_or}
use Rattle.std.proofs.lemmas.Bool.{cases_Bool, and_parts, and_from}
use Rattle.std.proofs.lemmas.Bool.Decides.{nat_tests}
use Rattle.std.proofs.lemmas.Option.{same_Some}
use Rattle.std.proofs.lemmas.List.Folds.{list_all-append}
use Rattle.pd_running.specs.Laws.{but_last}
use Rattle.pd_running.proofs.Stack.{but_last-push}
use Rattle.pd_paths.specs.declared.PathCount.{PathCount}
use Rattle.pd_paths.specs.Tally.{is_path, paths_full, all_some}
use Rattle.pd_paths.specs.Counting.{slot, no_path, path_at, raised, AreBegun, IsKept}

-- ---- lists

pub length_push : {A : Type 0} (xs : List A) (x : A) → length (xs ++ x ∷ []) ≡ suc (length xs)
length_push [] x = refl
length_push (y ∷ ys) x = ap suc (length_push ys x)

at_old : {A : Type 0} (d : A) (xs : List A) (x : A) (i : ℕ) → i < length xs → slice_index_or (xs ++ x ∷ []) i d ≡ slice_index_or xs i d
at_old d [] x i h = absurd (omega (arith, h))
at_old d (y ∷ ys) x zero h = refl
at_old d (y ∷ ys) x (suc i) h = at_old d ys x i (omega (arith, h))

at_new : {A : Type 0} (d : A) (xs : List A) (x : A) (i : ℕ) → i ≡ length xs → slice_index_or (xs ++ x ∷ []) i d ≡ x
at_new d [] x zero h = refl
at_new d [] x (suc i) h = absurd (omega (arith, h))
at_new d (y ∷ ys) x zero h = absurd (omega (arith, h))
at_new d (y ∷ ys) x (suc i) h = at_new d ys x i (omega (arith, h))

old_or_new : {A : Type 0} (xs : List A) (x : A) (i : ℕ) → i < length (xs ++ x ∷ []) → (i < length xs) ⊎ (i ≡ length xs)
old_or_new xs x i h = ⊎_elim (λ (l : nat_lt i (length xs) ≡ true). inl (less l)) (λ (l : nat_lt i (length xs) ≡ false). inr (same l (length_push xs x) h)) (cases_Bool (nat_lt i (length xs)))
  where
    less : nat_lt i (length xs) ≡ true → i < length xs
    less l = grind (arith, nat_tests, l)

    same : nat_lt i (length xs) ≡ false → length (xs ++ x ∷ []) ≡ suc (length xs) → i < length (xs ++ x ∷ []) → i ≡ length xs
    same l e h = grind (arith, nat_tests, l, e, h)

abbrev last_of : List ℕ → ℕ
last_of [] = 0
last_of (x ∷ []) = x
last_of (x ∷ y ∷ ys) = last_of (y ∷ ys)

last_push : (xs : List ℕ) (x : ℕ) → last_of (xs ++ x ∷ []) ≡ x
last_push [] x = refl
last_push (y ∷ []) x = refl
last_push (y ∷ z ∷ ys) x = last_push (z ∷ ys) x

-- two longer paths that are the same
pub same_longer : (xs ys : List ℕ) (x y : ℕ) → xs ++ x ∷ [] ≡ ys ++ y ∷ [] → (xs ≡ ys) × (x ≡ y)
same_longer xs ys x y h = (sym (but_last-push xs x) ∙ ap but_last h ∙ but_last-push ys y, sym (last_push xs x) ∙ ap last_of h ∙ last_push ys y)

no_longer : (xs : List ℕ) (x : ℕ) → xs ≡ xs ++ x ∷ [] → ⊥
no_longer xs x h = let e : length xs ≡ suc (length xs) = ap length h ∙ length_push xs x in omega (arith, e)

full_push : (xs : List ℕ) (x : ℕ) → is_path (xs ++ x ∷ []) ≡ true
full_push [] x = refl
full_push (y ∷ ys) x = refl

-- ---- slots

same_slot : (a b n m : ℕ) → n < 2 ^ 32 → m < 2 ^ 32 → slot a n ≡ slot b m → (a ≡ b) × (n ≡ m)
same_slot a b n m h k e = (omega (arith, h, k, e), omega (arith, h, k, e))

-- ---- a path is raised

pub length_raised : (i c o : ℕ) (xs : List PathCount) → length (raised i c o xs) ≡ length xs
length_raised i c o [] = refl
length_raised zero c o (x ∷ xs) = refl
length_raised (suc i) c o (x ∷ xs) = ap suc (length_raised i c o xs)

pub path_raised : (i c o : ℕ) (xs : List PathCount) (j : ℕ) → path_at (raised i c o xs) j ≡ path_at xs j
path_raised i c o [] j = refl
path_raised zero c o (x ∷ xs) zero = refl
path_raised zero c o (x ∷ xs) (suc j) = refl
path_raised (suc i) c o (x ∷ xs) zero = refl
path_raised (suc i) c o (x ∷ xs) (suc j) = path_raised i c o xs j

some_raised : (i c o : ℕ) (xs : List PathCount) → all_some xs ≡ true → all_some (raised i c o xs) ≡ true
some_raised i c o [] h = refl
some_raised zero c o (x ∷ xs) h = let parts = and_parts (nat_lt 0 x.count) (all_some xs) h in and_from _ _ (more x.count c parts.0) parts.1
  where
    more : (k c : ℕ) → nat_lt 0 k ≡ true → nat_lt 0 (k + c) ≡ true
    more k c h = grind (arith, nat_tests, h)
some_raised (suc i) c o (x ∷ xs) h = let parts = and_parts (nat_lt 0 x.count) (all_some xs) h in and_from _ _ parts.0 (some_raised i c o xs parts.1)

full_raised : (i c o : ℕ) (xs : List PathCount) → paths_full xs ≡ true → paths_full (raised i c o xs) ≡ true
full_raised i c o [] h = refl
full_raised zero c o (x ∷ xs) h = h
full_raised (suc i) c o (x ∷ xs) h = let parts = and_parts (is_path x.path) (paths_full xs) h in and_from _ _ parts.0 (full_raised i c o xs parts.1)

begun_raised : (i c o : ℕ) (xs : List PathCount) → AreBegun xs → AreBegun (raised i c o xs)
begun_raised i c o [] h = absurd h
begun_raised zero c o (x ∷ xs) h = h
begun_raised (suc i) c o (x ∷ xs) h = (h.0, some_raised i c o xs h.1, full_raised i c o xs h.2)

pub kept_raised : (i c o : ℕ) (xs : List PathCount) (outer : List ℕ) (inner : ℕ → Option ℕ) → IsKept xs outer inner → IsKept (raised i c o xs) outer inner
kept_raised i c o xs outer inner k =
    let same = length_raised i c o xs in
    let at = path_raised i c o xs in
    let within : (j : ℕ) → j < length (raised i c o xs) → j < length xs = λ j h. subst (λ l. j < l) same h in
    let back : (j : ℕ) → j < length xs → j < length (raised i c o xs) = λ j h. subst (λ l. j < l) (sym same) h in
    record {
      long = k.long ∙ sym same;
      begun = begun_raised i c o xs k.begun;
      up = λ j h. let u = k.up j (within j h) in (back _ u.0, at (slice_index outer j) ∙ u.1 ∙ ap but_last (sym (at j)));
      sound = λ a n j h e. let u = k.sound a n j h e in (back a u.0, back j u.1, at j ∙ u.2 ∙ ap (λ q. q ++ n ∷ []) (sym (at a)));
      whole = λ a n j h l m e. k.whole a n j h (within a l) (within j m) (sym (at j) ∙ e ∙ ap (λ q. q ++ n ∷ []) (at a));
      once = λ j l h m e. k.once j l (within j h) (within l m) (sym (at j) ∙ e ∙ at l);
    }

-- ---- a path is added

begun_push : (xs : List PathCount) (x : PathCount) → nat_lt 0 x.count ≡ true → is_path x.path ≡ true → AreBegun xs → AreBegun (xs ++ x ∷ [])
begun_push [] x s f h = absurd h
begun_push (y ∷ ys) x s f h = (
  h.0,
  list_all-append (λ (z : PathCount). nat_lt 0 z.count) ys (x ∷ []) ∙ and_from _ _ h.1 (and_from _ _ s refl),
  list_all-append (λ (z : PathCount). is_path z.path) ys (x ∷ []) ∙ and_from _ _ h.2 (and_from _ _ f refl),
)

module _ (xs : List PathCount) (outer : List ℕ) (inner next : ℕ → Option ℕ) (k : IsKept xs outer inner) (x : PathCount) (at node : ℕ)
    (within : at < length xs) (small : node < 2 ^ 32) (is : x.path ≡ path_at xs at ++ node ∷ []) (some : nat_lt 0 x.count ≡ true)
    (new : inner (slot at node) ≡ None) (here : next (slot at node) ≡ Some (length xs)) (apart : (q : ℕ) → (q ≡ slot at node → ⊥) → next q ≡ inner q) where
  abbrev pub all : List PathCount
  all = xs ++ x ∷ []

  old_path : (i : ℕ) → i < length xs → path_at all i ≡ path_at xs i
  old_path i h = ap (λ y. y.path) (at_old no_path xs x i h)

  new_path : (i : ℕ) → i ≡ length xs → path_at all i ≡ x.path
  new_path i h = ap (λ y. y.path) (at_new no_path xs x i h)

  wider : (i : ℕ) → i < length xs → i < length all
  wider i h = let e = length_push xs x in omega (arith, e, h)

  last : (i : ℕ) → i ≡ length xs → i < length all
  last i h = let e = length_push xs x in omega (arith, e, h)

  some_none : {A : Type 0} (v : A) (o : Option A) → o ≡ None → o ≡ Some v → ⊥
  some_none v o e f = cc

  -- no path so far is the new one
  fresh : (i : ℕ) → i < length xs → path_at xs i ≡ x.path → ⊥
  fresh i h e = some_none i (inner (slot at node)) new (k.whole at node i small within h (e ∙ is))

  slots_apart : (a n : ℕ) → inner (slot a n) ≡ None → (i : ℕ) → inner (slot a n) ≡ Some i → ⊥
  slots_apart a n e i f = some_none i (inner (slot a n)) e f

  up_push : (i : ℕ) → i < length all → (slice_index (outer ++ at ∷ []) i < length all) × (path_at all (slice_index (outer ++ at ∷ []) i) ≡ but_last (path_at all i))
  up_push i h = ⊎_elim
      (λ (l : i < length xs).
      let u = k.up i l in
      let same : slice_index (outer ++ at ∷ []) i ≡ slice_index outer i = at_old 0 outer at i (subst (λ m. i < m) (sym k.long) l) in
      subst (λ j. (j < length all) × (path_at all j ≡ but_last (path_at all i))) (sym same) (wider _ u.0, old_path _ u.0 ∙ u.1 ∙ ap but_last (sym (old_path i l))))
      (λ (e : i ≡ length xs).
      let same : slice_index (outer ++ at ∷ []) i ≡ at = at_new 0 outer at i (e ∙ sym k.long) in
      subst (λ j. (j < length all) × (path_at all j ≡ but_last (path_at all i))) (sym same)
      (wider at within, old_path at within ∙ sym (but_last-push (path_at xs at) node) ∙ ap but_last (sym is ∙ sym (new_path i e))))
      (old_or_new xs x i h)

  is_slot : (q : ℕ) → (q ≡ slot at node) ⊎ (q ≡ slot at node → ⊥)
  is_slot q = ⊎_elim (λ (e : (q == slot at node) ≡ true). inl (same e)) (λ (e : (q == slot at node) ≡ false). inr (differ e)) (cases_Bool (q == slot at node))
    where
      same : (q == slot at node) ≡ true → q ≡ slot at node
      same e = grind (arith, nat_tests, e)

      differ : (q == slot at node) ≡ false → q ≡ slot at node → ⊥
      differ e f = grind (arith, nat_tests, e, f)

  sound_push : (a n i : ℕ) → n < 2 ^ 32 → next (slot a n) ≡ Some i → (a < length all) × (i < length all) × (path_at all i ≡ path_at all a ++ n ∷ [])
  sound_push a n i h e = ⊎_elim
      (λ (q : slot a n ≡ slot at node).
      let s = same_slot a at n node h small q in
      let j : i ≡ length xs = sym (same_Some (length xs) i (sym here ∙ ap next (sym q) ∙ e)) in (
        subst (λ b. b < length all) (sym s.0) (wider at within),
        last i j,
        new_path i j ∙ is ∙ ap (λ b. path_at xs b ++ node ∷ []) (sym s.0) ∙ ap (λ m. path_at xs a ++ m ∷ []) (sym s.1) ∙ ap (λ p. p ++ n ∷ []) (sym (old_path a (subst (λ b. b < length xs) (sym s.0) within))),
      ))
      (λ (q : slot a n ≡ slot at node → ⊥).
      let u = k.sound a n i h (sym (apart (slot a n) q) ∙ e) in
      (wider a u.0, wider i u.1, old_path i u.1 ∙ u.2 ∙ ap (λ p. p ++ n ∷ []) (sym (old_path a u.0))))
      (is_slot (slot a n))

  -- an old path of which the new one is the part around its last node
  none_inside : (n i : ℕ) → i < length xs → path_at xs i ≡ x.path ++ n ∷ [] → ⊥
  none_inside n i h e = let u = k.up i h in fresh (slice_index outer i) u.0 (u.1 ∙ ap but_last e ∙ but_last-push x.path n)

  whole_push : (a n i : ℕ) → n < 2 ^ 32 → a < length all → i < length all → path_at all i ≡ path_at all a ++ n ∷ [] → next (slot a n) ≡ Some i
  whole_push a n i h l m e = ⊎_elim
      (λ (a_old : a < length xs). ⊎_elim
      (λ (i_old : i < length xs).
      let was : inner (slot a n) ≡ Some i = k.whole a n i h a_old i_old (sym (old_path i i_old) ∙ e ∙ ap (λ p. p ++ n ∷ []) (old_path a a_old)) in
      apart (slot a n) (λ q. slots_apart a n (ap inner q ∙ new) i was) ∙ was)
      (λ (i_new : i ≡ length xs).
      let s = same_longer (path_at xs at) (path_at xs a) node n (sym is ∙ sym (new_path i i_new) ∙ e ∙ ap (λ p. p ++ n ∷ []) (old_path a a_old)) in
      let b : at ≡ a = k.once at a within a_old s.0 in
      ap (λ c. next (slot c n)) (sym b) ∙ ap (λ c. next (slot at c)) (sym s.1) ∙ here ∙ ap Some (sym i_new))
      (old_or_new xs x i m))
      (λ (a_new : a ≡ length xs). ⊎_elim
      (λ (i_old : i < length xs). absurd (none_inside n i i_old (sym (old_path i i_old) ∙ e ∙ ap (λ p. p ++ n ∷ []) (new_path a a_new))))
      (λ (i_new : i ≡ length xs). absurd (no_longer x.path n (sym (new_path i i_new) ∙ e ∙ ap (λ p. p ++ n ∷ []) (new_path a a_new))))
      (old_or_new xs x i m))
      (old_or_new xs x a l)

  once_push : (i j : ℕ) → i < length all → j < length all → path_at all i ≡ path_at all j → i ≡ j
  once_push i j l m e = ⊎_elim
      (λ (i_old : i < length xs). ⊎_elim
      (λ (j_old : j < length xs). k.once i j i_old j_old (sym (old_path i i_old) ∙ e ∙ old_path j j_old))
      (λ (j_new : j ≡ length xs). absurd (fresh i i_old (sym (old_path i i_old) ∙ e ∙ new_path j j_new)))
      (old_or_new xs x j m))
      (λ (i_new : i ≡ length xs). ⊎_elim
      (λ (j_old : j < length xs). absurd (fresh j j_old (sym (old_path j j_old) ∙ sym e ∙ new_path i i_new)))
      (λ (j_new : j ≡ length xs). i_new ∙ sym j_new)
      (old_or_new xs x j m))
      (old_or_new xs x i l)

  pub kept_push : IsKept all (outer ++ at ∷ []) next
  kept_push = record {
    long = length_push outer at ∙ ap suc k.long ∙ sym (length_push xs x);
    begun = begun_push xs x some (ap is_path is ∙ full_push (path_at xs at) node) k.begun;
    up = up_push;
    sound = sound_push;
    whole = whole_push;
    once = once_push;
  }

  pub pushed_path : path_at all (length xs) ≡ path_at xs at ++ node ∷ []
  pushed_path = new_path (length xs) refl ∙ is
