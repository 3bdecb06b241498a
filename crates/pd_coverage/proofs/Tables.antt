-- Tables of truth values with one more mark.
use Rattle.std.proofs.Common.{◌≡◌, ℕ, zero, suc, ◌<◌, Bool, true, false, ◌||◌, List, [], ◌∷◌, length, replicate, refl, sym, ap, ◌∙◌, arith, subst, ⊎_elim}
use Rattle.std.specs.Prelude.{◌==◌, slice_set}
use Rattle.std.proofs.lemmas.Bool.{cases_Bool}
use Rattle.std.proofs.lemmas.Bool.Decides.{nat_tests}
use Rattle.std.proofs.lemmas.List.{get_or-set_same, get_or-set_other}
use Rattle.pd_coverage.specs.Table.{is_marked, IsMarked, IsTable}

or_false : (b : Bool) → b ≡ (b || false)
or_false true = refl
or_false false = refl

or_true : (b : Bool) → true ≡ (b || true)
or_true true = refl
or_true false = refl

or_assoc : (a b c : Bool) → ((a || b) || c) ≡ (a || (b || c))
or_assoc true b c = refl
or_assoc false b c = refl

pub length_set : (table : List Bool) (n : ℕ) → length (slice_set table n true) ≡ length table
length_set [] zero = refl
length_set [] (suc n) = refl
length_set (x ∷ xs) zero = refl
length_set (x ∷ xs) (suc n) = ap suc (length_set xs n)

-- a number is marked where it was, or is the one that is set
pub set_marks : (table : List Bool) (m n : ℕ) → n < length table → is_marked (slice_set table m true) n ≡ (is_marked table n || (m == n))
set_marks table m n h = ⊎_elim
    (λ (e : (m == n) ≡ true). here (eq m n e) e)
    (λ (e : (m == n) ≡ false). get_or-set_other table m n true false (other m n e) ∙ or_false (is_marked table n) ∙ ap (λ b. is_marked table n || b) (sym e))
    (cases_Bool (m == n))
  where
    eq : (m n : ℕ) → (m == n) ≡ true → m ≡ n
    eq m n e = grind (arith, nat_tests, e)

    other : (m n : ℕ) → (m == n) ≡ false → n ≡ m → ⊥
    other m n e i = grind (arith, nat_tests, e, i)

    here : m ≡ n → (m == n) ≡ true → is_marked (slice_set table m true) n ≡ (is_marked table n || (m == n))
    here i e = ap (λ k. is_marked (slice_set table k true) n) i ∙ get_or-set_same table n true false h ∙ or_true (is_marked table n) ∙ ap (λ b. is_marked table n || b) (sym e)

-- ---- marks over marks

pub none_marked : (test : ℕ → Bool) (table : List Bool) → ((n : ℕ) → test n ≡ false) → IsMarked test table table
none_marked test table none = record { long = refl; marks = λ n h. or_false (is_marked table n) ∙ ap (λ b. is_marked table n || b) (sym (none n)) }

pub one_marked : (test more : ℕ → Bool) (old table : List Bool) (m : ℕ) → IsMarked test old table → ((n : ℕ) → more n ≡ (test n || (m == n))) → IsMarked more old (slice_set table m true)
one_marked test more old table m is next = record {
  long = length_set table m ∙ is.long;
  marks = λ n h. set_marks table m n (subst (λ k. n < k) (sym is.long) h)
      ∙ ap (λ b. b || (m == n)) (is.marks n h)
      ∙ or_assoc (is_marked old n) (test n) (m == n)
      ∙ ap (λ b. is_marked old n || b) (sym (next n));
}

pub same_marked : (test more : ℕ → Bool) (old table : List Bool) → IsMarked test old table → ((n : ℕ) → more n ≡ test n) → IsMarked more old table
same_marked test more old table is next = record { long = is.long; marks = λ n h. is.marks n h ∙ ap (λ b. is_marked old n || b) (sym (next n)) }

-- ---- tables from blank ones

blank_unmarked : (count n : ℕ) → is_marked (replicate count false) n ≡ false
blank_unmarked zero zero = refl
blank_unmarked zero (suc n) = refl
blank_unmarked (suc count) zero = refl
blank_unmarked (suc count) (suc n) = blank_unmarked count n

length_blank : (count : ℕ) → length (replicate count false) ≡ count
length_blank zero = refl
length_blank (suc count) = ap suc (length_blank count)

pub blank_table : (test : ℕ → Bool) (count : ℕ) → ((n : ℕ) → test n ≡ false) → IsTable test count (replicate count false)
blank_table test count none = record { long = length_blank count; marks = λ n h. blank_unmarked count n ∙ sym (none n) }

-- marks over a blank table
pub marked_table : (test : ℕ → Bool) (count : ℕ) (table : List Bool) → IsMarked test (replicate count false) table → IsTable test count table
marked_table test count table is = record {
  long = is.long ∙ length_blank count;
  marks = λ n h. is.marks n (subst (λ k. n < k) (sym (length_blank count)) h) ∙ ap (λ b. b || test n) (blank_unmarked count n);
}

-- marks over a table
pub more_table : (test more : ℕ → Bool) (count : ℕ) (old table : List Bool) → IsTable test count old → IsMarked more old table → IsTable (λ n. test n || more n) count table
more_table test more count old table was is = record {
  long = is.long ∙ was.long;
  marks = λ n h. is.marks n (subst (λ k. n < k) (sym was.long) h) ∙ ap (λ b. b || more n) (was.marks n h);
}

pub one_in_table : (test more : ℕ → Bool) (count m : ℕ) (table : List Bool) → IsTable test count table → ((n : ℕ) → more n ≡ (test n || (m == n))) → IsTable more count (slice_set table m true)
one_in_table test more count m table is next = record {
  long = length_set table m ∙ is.long;
  marks = λ n h. set_marks table m n (subst (λ k. n < k) (sym is.long) h) ∙ ap (λ b. b || (m == n)) (is.marks n h) ∙ sym (next n);
}

pub same_table : (test more : ℕ → Bool) (count : ℕ) (table : List Bool) → IsTable test count table → ((n : ℕ) → more n ≡ test n) → IsTable more count table
same_table test more count table is next = record { long = is.long; marks = λ n h. is.marks n h ∙ sym (next n) }
