-- The first Statement of the lines from one on has the least line.
use Rattle.std.proofs.Common.{◌≡◌, ℕ, ◌+◌, ◌-◌, ◌<◌, ◌≤◌, ◌^◌, zero, suc, List, [], ◌∷◌, length, Bool, true, false, not, refl, ap, sym, ◌∙◌, subst, inl, inr, arith}
use Rattle.std.specs.Prelude.{◌==◌, min}
use Rattle.std.specs.List.{filter, list_any, range_with_len, AllByRecursion}
use Rattle.std.proofs.lemmas.Bool.{false≢true}
use Rattle.std.proofs.lemmas.Bool.Decides.{eqb_tells, nat_tests}
use Rattle.pd_values.specs.declared.value.Tag.{Tag}
use Rattle.pd_values.specs.declared.value.Tag.TheVariants.{Statement}
use Rattle.pd_tree.specs.Program.{Program, node_at, has_tag}
use Rattle.pd_break.specs.declared.resolving.Resolved.TheVariants.{Line, Unresolved}
use Rattle.pd_break.specs.Resolving.{all_nodes, is_statement, starts_from, least_line, lesser, resolved}
use Rattle.pd_break.proofs.Rows.{lesser-swap}
use Rattle.pd_filter.specs.Matching.{is_empty}
use Rattle.pd_index.specs.declared.lines.Lines.{Lines}
use Rattle.pd_index.specs.Kept.{NeverFalls, stands_within, between, HasLines, line_of_first}
use Rattle.pd_index.proofs.ListLaws.{either, filter_yes, filter_no, any_here, any_later, any_rest, all_each, all-filter}
use Rattle.pd_index.proofs.LinesLaws.{stands_from, stands_to, any_same}

-- ---- lists

-- what holds of each number of a list holds of one that is in it
pub all_any : (P : ℕ → Type 0) (xs : List ℕ) (n : ℕ) → AllByRecursion P xs → list_any (λ m. m == n) xs ≡ true → P n
all_any P [] n all any = absurd (false≢true any)
all_any P (x ∷ xs) n all any = elim (eqb_tells x n) [
  | inl at ↦ subst P at.1 all.0
  | inr at ↦ all_any P xs n all.1 (any_rest (λ m. m == n) x xs at.0 any)
]

-- a test that a number of the list passes is passed by one
pub any_other : (test : ℕ → Bool) (xs : List ℕ) (n : ℕ) → list_any (λ m. m == n) xs ≡ true → test n ≡ true → list_any test xs ≡ true
any_other test [] n any passes = any
any_other test (x ∷ xs) n any passes = elim (eqb_tells x n) [
  | inl at ↦ any_here test x xs (ap test at.1 ∙ passes)
  | inr at ↦ any_later test x xs (any_other test xs n (any_rest (λ m. m == n) x xs at.0 any) passes)
]

pub any-filter : (test : ℕ → Bool) (xs : List ℕ) (n : ℕ) → list_any (λ m. m == n) xs ≡ true → test n ≡ true → list_any (λ m. m == n) (filter test xs) ≡ true
any-filter test [] n any passes = any
any-filter test (x ∷ xs) n any passes = elim (eqb_tells x n) [
  | inl at ↦ subst (λ ys. list_any (λ m. m == n) ys ≡ true) (sym (filter_yes test x xs (ap test at.1 ∙ passes))) (any_here (λ m. m == n) x (filter test xs) at.0)
  | inr at ↦
      let later = any-filter test xs n (any_rest (λ m. m == n) x xs at.0 any) passes in
      elim (either (test x)) [
        | inl here ↦ subst (λ ys. list_any (λ m. m == n) ys ≡ true) (sym (filter_yes test x xs here)) (any_later (λ m. m == n) x (filter test xs) later)
        | inr fails ↦ subst (λ ys. list_any (λ m. m == n) ys ≡ true) (sym (filter_no test x xs fails)) later
      ]
]

pub any_in_range : (n a k : ℕ) → a ≤ n → n < a + k → list_any (λ m. m == n) (range_with_len a k) ≡ true
any_in_range n a zero low high = absurd (omega (arith, low, high))
any_in_range n a (suc k) low high = elim (eqb_tells a n) [
  | inl at ↦ any_here (λ m. m == n) a (range_with_len (a + 1) k) at.0
  | inr at ↦ any_later (λ m. m == n) a (range_with_len (a + 1) k) (any_in_range n (a + 1) k (omega (arith, low, at.1)) (omega (arith, high)))
]

pub all_in_range : (a k count : ℕ) → a + k ≤ count → AllByRecursion (λ n. n < count) (range_with_len a k)
all_in_range a zero count fits = tt
all_in_range a (suc k) count fits = (omega (arith, fits), all_in_range (a + 1) k count (omega (arith, fits)))

falls_never-filter : (number : ℕ → ℕ) (test : ℕ → Bool) (xs : List ℕ) → NeverFalls number xs → NeverFalls number (filter test xs)
falls_never-filter number test [] never = tt
falls_never-filter number test (x ∷ xs) never = elim (either (test x)) [
  | inl passes ↦
      subst (NeverFalls number) (sym (filter_yes test x xs passes))
      (all_each (λ y h. h.0) (filter test xs) (all-filter (λ y. number x ≤ number y) test xs never.0), falls_never-filter number test xs never.1)
  | inr fails ↦ subst (NeverFalls number) (sym (filter_no test x xs fails)) (falls_never-filter number test xs never.1)
]

-- ---- least lines

no_least : (p : Program) (ns : List ℕ) → AllByRecursion (λ n. false ≡ true) ns → least_line p ns ≡ Unresolved
no_least p [] none = refl
no_least p (n ∷ ns) none = absurd (false≢true none.0)

least_above : (p : Program) (k : ℕ) (ns : List ℕ) → AllByRecursion (λ n. k ≤ (node_at p n).line) ns → lesser k (least_line p ns) ≡ Line k
least_above p k [] above = refl
least_above p k (n ∷ ns) above =
    let least : min (node_at p n).line k ≡ k = omega (arith, above.0) in
    lesser-swap k (node_at p n).line (least_line p ns)
    ∙ ap (lesser (node_at p n).line) (least_above p k ns above.1)
    ∙ ap (λ m. Line m) least

least_is : (p : Program) (k : ℕ) (ns : List ℕ) → AllByRecursion (λ n. k ≤ (node_at p n).line) ns → list_any (λ n. (node_at p n).line == k) ns ≡ true → least_line p ns ≡ Line k
least_is p k [] above any = absurd (false≢true any)
least_is p k (n ∷ ns) above any = elim (eqb_tells (node_at p n).line k) [
  | inl at ↦ ap (λ m. lesser m (least_line p ns)) at.1 ∙ least_above p k ns above.1
  | inr at ↦
      let least : min (node_at p n).line k ≡ k = omega (arith, above.0) in
      ap (lesser (node_at p n).line) (least_is p k ns above.1 (any_rest (λ m. (node_at p m).line == k) n ns at.0 any))
      ∙ ap (λ m. Line m) least
]

-- of two lists with the same nodes, one in order of lines: its first has the least line of the other
first_least : (p : Program) (fs qs : List ℕ) → NeverFalls (λ n. (node_at p n).line) fs
    → AllByRecursion (λ n. list_any (λ m. m == n) fs ≡ true) qs → AllByRecursion (λ n. list_any (λ m. m == n) qs ≡ true) fs
    → line_of_first p fs ≡ least_line p qs
first_least p [] qs never in_first in_second = sym (no_least p qs in_first)
first_least p (x ∷ xs) qs never in_first in_second =
    let k = (node_at p x).line in
    let above : AllByRecursion (λ n. k ≤ (node_at p n).line) (x ∷ xs) = (omega arith, never.0) in
    sym (least_is p k qs
    (all_each {P = λ n. list_any (λ m. m == n) (x ∷ xs) ≡ true} {Q = λ n. k ≤ (node_at p n).line} (λ n any. all_any (λ m. k ≤ (node_at p m).line) (x ∷ xs) n above any) qs in_first)
    (any_other (λ n. (node_at p n).line == k) qs x in_second.0 (any_same k)))

-- ---- Statements

pub tagged_by : (tags : List Tag) → has_tag tags Statement ≡ true → not (is_empty tags) ≡ true
tagged_by [] has = has
tagged_by (t ∷ ts) has = refl

from_parts : (p : Program) (s f n : ℕ) → is_statement p n ≡ true → (node_at p n).source ≡ s → f ≤ (node_at p n).line → starts_from p s f n ≡ true
from_parts p s f n stops at low = grind (arith, nat_tests)

to_parts : (p : Program) (s f n : ℕ) → starts_from p s f n ≡ true → (is_statement p n ≡ true) × ((node_at p n).source ≡ s) × (f ≤ (node_at p n).line)
to_parts p s f n starts = grind (arith, nat_tests)

pub first_stops : (p : Program) (lines : Lines) → HasLines p lines → (s f : ℕ) → line_of_first p (filter (is_statement p) (between lines s f (2 ^ 32 - 1))) ≡ resolved p s f
first_stops p lines has s f =
    let last = 2 ^ 32 - 1 in
    let ns = between lines s f last in
    let fs = filter (is_statement p) ns in
    let all = all_nodes p in
    let qs = filter (starts_from p s f) all in
    let in_first : AllByRecursion (λ n. list_any (λ m. m == n) fs ≡ true) qs =
    all_each {P = λ n. (n < length p.nodes) × (starts_from p s f n ≡ true)} {Q = λ n. list_any (λ m. m == n) fs ≡ true}
    (λ n h.
    let parts = to_parts p s f n h.1 in
    any-filter (is_statement p) ns n (has.whole s f last n h.0 (stands_from p s f last n (tagged_by (node_at p n).tags parts.0) parts.1 parts.2 (omega (arith, has.fit n h.0)))) parts.0)
    qs (all-filter (λ n. n < length p.nodes) (starts_from p s f) all (all_in_range 0 (length p.nodes) (length p.nodes) (omega arith))) in
    let in_second : AllByRecursion (λ n. list_any (λ m. m == n) qs ≡ true) fs =
    all_each {P = λ n. ((n < length p.nodes) × (stands_within p s f last n ≡ true)) × (is_statement p n ≡ true)} {Q = λ n. list_any (λ m. m == n) qs ≡ true}
    (λ n h.
    let parts = stands_to p s f last n h.0.1 in
    any-filter (starts_from p s f) all n (any_in_range n 0 (length p.nodes) (omega arith) (omega (arith, h.0.0))) (from_parts p s f n h.1 parts.1 parts.2))
    fs (all-filter (λ n. (n < length p.nodes) × (stands_within p s f last n ≡ true)) (is_statement p) ns (has.within s f last)) in
    first_least p fs qs (falls_never-filter (λ n. (node_at p n).line) (is_statement p) ns (has.ordered s f last)) in_first in_second
