-- Statements by source, with one node more, and sources with one source more.
use Rattle.std.proofs.Common.{◌≡◌, ℕ, ◌+◌, ◌<◌, Bool, true, false, ◌&&◌, List, [], ◌∷◌, ◌++◌, length, map, take, replicate, refl, sym, ap, ◌∙◌, arith, subst, ⊎_elim, add-zero}
use Rattle.std.specs.Prelude.{◌==◌, slice_index_or, slice_set, filter}
use Rattle.std.specs.List.{range_with_len}
use Rattle.std.proofs.lemmas.Bool.{cases_Bool}
use Rattle.std.proofs.lemmas.Bool.Decides.{nat_tests}
use Rattle.std.proofs.lemmas.List.{get_or-set_same, get_or-set_other, length-set, length-replicate, length-take, get_or-replicate, take_more}
use Rattle.std.proofs.lemmas.List.FromFn.{fill_by_all}
use Rattle.pd_break.proofs.Rows.{passing_more-yes, passing_more-no}
use Rattle.pd_coverage.specs.declared.Covered.{Covered}
use Rattle.pd_coverage.specs.Table.{IsSplit, covered_with, covered_from}

pub none_split : (test : ℕ → ℕ → Bool) (sources : ℕ) → IsSplit test [] sources (replicate sources [])
none_split test sources = record { long = length-replicate sources []; each = λ s h. get_or-replicate sources s [] [] h }

-- a node that passes no test
pub not_split : (test : ℕ → ℕ → Bool) (sources n : ℕ) (lists : List (List ℕ)) → ((s : ℕ) → test s n ≡ false)
    → IsSplit test (range_with_len 0 n) sources lists → IsSplit test (range_with_len 0 (n + 1)) sources lists
not_split test sources n lists none is = record { long = is.long; each = λ s h. is.each s h ∙ sym (passing_more-no (test s) n (none s)) }

-- a node that passes the test of one source
pub one_split : (test : ℕ → ℕ → Bool) (sources n at : ℕ) (lists : List (List ℕ)) → ((s : ℕ) → test s n ≡ (at == s))
    → IsSplit test (range_with_len 0 n) sources lists
    → IsSplit test (range_with_len 0 (n + 1)) sources (slice_set lists at (slice_index_or lists at [] ++ n ∷ []))
one_split test sources n at lists is_at is = record {
  long = length-set lists at (slice_index_or lists at [] ++ n ∷ []) ∙ is.long;
  each = λ s h. ⊎_elim
      (λ (e : (at == s) ≡ true). here s (eq at s e) h (is_at s ∙ e))
      (λ (e : (at == s) ≡ false). get_or-set_other lists at s (slice_index_or lists at [] ++ n ∷ []) [] (other at s e) ∙ is.each s h ∙ sym (passing_more-no (test s) n (is_at s ∙ e)))
      (cases_Bool (at == s));
}
  where
    eq : (m k : ℕ) → (m == k) ≡ true → m ≡ k
    eq m k e = grind (arith, nat_tests, e)

    other : (m k : ℕ) → (m == k) ≡ false → k ≡ m → ⊥
    other m k e i = grind (arith, nat_tests, e, i)

    here : (s : ℕ) → at ≡ s → s < sources → test s n ≡ true → slice_index_or (slice_set lists at (slice_index_or lists at [] ++ n ∷ [])) s [] ≡ filter (test s) (range_with_len 0 (n + 1))
    here s same h passes =
        ap (λ k. slice_index_or (slice_set lists k (slice_index_or lists k [] ++ n ∷ [])) s []) same
        ∙ get_or-set_same lists s (slice_index_or lists s [] ++ n ∷ []) [] (subst (λ k. s < k) (sym is.long) h)
        ∙ ap (λ ns. ns ++ n ∷ []) (is.each s h)
        ∙ sym (passing_more-yes (test s) n passes)

-- the lists, source by source
pub split_lists : (test : ℕ → ℕ → Bool) (nodes : List ℕ) (sources : ℕ) (lists : List (List ℕ)) → IsSplit test nodes sources lists → lists ≡ map (λ s. filter (test s) nodes) (range_with_len 0 sources)
split_lists test nodes sources lists is = fill_by_all (λ s. filter (test s) nodes) lists sources [] is.long is.each

-- ---- sources

pub covered_more : (table : List Bool) (first : ℕ) (lists : List (List ℕ)) (nodes : List ℕ)
    → covered_from table first (lists ++ nodes ∷ []) ≡ covered_from table first lists ++ covered_with table (first + length lists) nodes ∷ []
covered_more table first [] nodes = ap (λ s. covered_with table s nodes ∷ []) (sym (add-zero first))
covered_more table first (ns ∷ lists) nodes =
    ap (λ xs. covered_with table first ns ∷ xs) (covered_more table (first + 1) lists nodes ∙ ap (λ s. covered_from table (first + 1) lists ++ covered_with table s nodes ∷ []) (omega arith))

pub sources_more : (table : List Bool) (lists : List (List ℕ)) (k : ℕ) (nodes : List ℕ) (x : Covered) (old new : List Covered)
    → k < length lists → nodes ≡ slice_index_or lists k nodes → x ≡ covered_with table k nodes
    → old ≡ covered_from table 0 (take k lists) → new ≡ old ++ x ∷ [] → new ≡ covered_from table 0 (take (k + 1) lists)
sources_more table lists k nodes x old new below is here was next =
    let count : 0 + length (take k lists) ≡ k = grind (arith, below, length-take k lists) in
    next
    ∙ ap (λ xs. xs ++ x ∷ []) was
    ∙ ap (λ y. covered_from table 0 (take k lists) ++ y ∷ []) (here ∙ ap (λ s. covered_with table s nodes) (sym count))
    ∙ sym (covered_more table 0 (take k lists) nodes)
    ∙ ap (λ ns. covered_from table 0 (take k lists ++ ns ∷ [])) is
    ∙ ap (covered_from table 0) (sym (take_more lists k nodes below))

-- ---- whether a node is a statement of a source

pub is_of : (a b : Bool) (m at s : ℕ) → (a && b) ≡ true → at ≡ m → (a && b && (m == s)) ≡ (at == s)
is_of true true m at s h same = ap (λ k. k == s) (sym same)
is_of true false m at s h same = cc
is_of false b m at s h same = cc

pub is_of_none : (a b c : Bool) → (a && b) ≡ false → (a && b && c) ≡ false
is_of_none true true c h = cc
is_of_none true false c h = refl
is_of_none false b c h = refl
