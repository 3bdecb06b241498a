-- What the places of a program's nodes, in order, keep of its lines.
use Rattle.std.proofs.Common.{◌≡◌, ℕ, ◌+◌, ◌<◌, ◌≤◌, ◌^◌, zero, suc, List, [], ◌∷◌, map, length, Bool, true, false, not, refl, ap, sym, ◌∙◌, subst, inl, inr, arith}
use Rattle.std.specs.Prelude.{◌==◌, nat_eq, slice_index_or as get_or}
use Rattle.std.specs.List.{filter, list_any, range_with_len, AllByRecursion, dedup}
use Rattle.std.specs.List.Sorted.{IsPermutation, IsSortedBy, IsStrictlySortedBy}
use Rattle.std.specs.declared.cmp.Ordering.{Ordering}
use Rattle.std.specs.declared.cmp.Ordering.TheVariants.{Less}
use Rattle.std.specs.Ordering.{nat_cmp, eq_by_cmp}
use Rattle.std.proofs.lemmas.Bool.Decides.{eqb_tells, nat_tests}
use Rattle.std.proofs.lemmas.List.Elements.{All-from_recursion, recursion_from_All}
use Rattle.std.proofs.lemmas.List.Sorted.{All-permutation, list_any-IsPermutation}
use Rattle.std.proofs.lemmas.List.Kept.{IsStrictlySortedBy-filter, Contains-dedup_nat}
use Rattle.std.proofs.lemmas.Map.Keys.{IsDistinct-from_sorted, IsDistinct-IsPermutation, apart_from_distinct, sorted_from_all_adjacent}
use Rattle.pd_tree.specs.Program.{Program, node_at}
use Rattle.pd_break.specs.Resolving.{all_nodes}
use Rattle.pd_filter.specs.Matching.{is_empty}
use Rattle.pd_index.specs.declared.lines.Place.{Place}
use Rattle.pd_index.specs.declared.lines.Lines.{Lines}
use Rattle.pd_index.specs.Indexing.{stands_on, on_line}
use Rattle.pd_index.specs.Among.{RisesFrom, IsAmong}
use Rattle.pd_index.specs.Places.{node_of, source_of, place_of, is_tagged, place_cmp, comes_before, is_within, first_on}
use Rattle.pd_index.specs.Kept.{NeverFalls, stands_within, between, HasLines}
use Rattle.pd_index.proofs.AmongLaws.{among}
use Rattle.pd_index.proofs.ListLaws.{either, filter_yes, filter_no, filter_all, any_here, any_later, any_rest, any-map, all_both, all_each, all-map, all-filter, contains_from_any, any_from_contains}
use Rattle.pd_index.proofs.PlaceLaws.{order, within_to, within_from, less_to, less_nodes, less_from}

-- ---- the places of a range of nodes

-- the place is that of a node with a tag
abbrev IsPlace : Program → Place → Type 0
IsPlace p x = (x.node < length p.nodes) × (is_tagged p x.node ≡ true) × (x ≡ place_of p x.node)

abbrev places_from : Program → ℕ → ℕ → List Place
places_from p a n = map (place_of p) (filter (is_tagged p) (range_with_len a n))

-- of one node more in front
more_yes : (p : Program) (a n : ℕ) → is_tagged p a ≡ true → places_from p a (suc n) ≡ place_of p a ∷ places_from p (a + 1) n
more_yes p a n passes = ap (map (place_of p)) (filter_yes (is_tagged p) a (range_with_len (a + 1) n) passes)

more_no : (p : Program) (a n : ℕ) → is_tagged p a ≡ false → places_from p a (suc n) ≡ places_from p (a + 1) n
more_no p a n fails = ap (map (place_of p)) (filter_no (is_tagged p) a (range_with_len (a + 1) n) fails)

all_are : (p : Program) (a n : ℕ) → a + n ≤ length p.nodes → AllByRecursion (IsPlace p) (places_from p a n)
all_are p a zero fits = tt
all_are p a (suc n) fits =
    let later = all_are p (a + 1) n (omega (arith, fits)) in
    elim (either (is_tagged p a)) [
      | inl passes ↦ subst (AllByRecursion (IsPlace p)) (sym (more_yes p a n passes)) ((omega (arith, fits), passes, refl), later)
      | inr fails ↦ subst (AllByRecursion (IsPlace p)) (sym (more_no p a n fails)) later
    ]

-- what holds of the place of a node with a tag holds of one of them
any_is : (p : Program) (test : Place → Bool) (m : ℕ) → is_tagged p m ≡ true → test (place_of p m) ≡ true → (a n : ℕ) → a ≤ m → m < a + n → list_any test (places_from p a n) ≡ true
any_is p test m tagged passes a zero low high = absurd (omega (arith, low, high))
any_is p test m tagged passes a (suc n) low high = elim (eqb_tells a m) [
  | inl at ↦
      subst (λ xs. list_any test xs ≡ true) (sym (more_yes p a n (ap (is_tagged p) at.1 ∙ tagged)))
      (any_here test (place_of p a) (places_from p (a + 1) n) (ap (λ k. test (place_of p k)) at.1 ∙ passes))
  | inr at ↦
      let later = any_is p test m tagged passes (a + 1) n (omega (arith, low, at.1)) (omega (arith, high)) in
      elim (either (is_tagged p a)) [
        | inl yes_it ↦ subst (λ xs. list_any test xs ≡ true) (sym (more_yes p a n yes_it)) (any_later test (place_of p a) (places_from p (a + 1) n) later)
        | inr no_it ↦ subst (λ xs. list_any test xs ≡ true) (sym (more_no p a n no_it)) later
      ]
]

abbrev node_cmp : Place → Place → Ordering
node_cmp x y = nat_cmp x.node y.node

less_node : (x y : Place) → x.node < y.node → node_cmp x y ≡ Less
less_node x y lt = grind (arith, nat_tests)

all_from : (p : Program) (a n : ℕ) → AllByRecursion (λ y. a ≤ y.node) (places_from p a n)
all_from p a zero = tt
all_from p a (suc n) =
    let later = all_each {P = λ y. a + 1 ≤ y.node} {Q = λ y. a ≤ y.node} (λ y h. omega (arith, h)) (places_from p (a + 1) n) (all_from p (a + 1) n) in
    elim (either (is_tagged p a)) [
      | inl passes ↦ subst (AllByRecursion (λ y. a ≤ y.node)) (sym (more_yes p a n passes)) (omega arith, later)
      | inr fails ↦ subst (AllByRecursion (λ y. a ≤ y.node)) (sym (more_no p a n fails)) later
    ]

nodes_rise : (p : Program) (a n : ℕ) → IsStrictlySortedBy node_cmp (places_from p a n)
unfolding IsStrictlySortedBy
nodes_rise p a zero = tt
nodes_rise p a (suc n) =
    let later = nodes_rise p (a + 1) n in
    let first = all_each {P = λ y. a + 1 ≤ y.node} {Q = λ y. node_cmp (place_of p a) y ≡ Less} (λ y h. less_node (place_of p a) y (omega (arith, h))) (places_from p (a + 1) n) (all_from p (a + 1) n) in
    elim (either (is_tagged p a)) [
      | inl passes ↦ subst (IsStrictlySortedBy node_cmp) (sym (more_yes p a n passes)) (first, later)
      | inr fails ↦ subst (IsStrictlySortedBy node_cmp) (sym (more_no p a n fails)) later
    ]

-- ---- places in order

flips : (x y : Place) → eq_by_cmp node_cmp x y ≡ eq_by_cmp node_cmp y x
flips x y = grind (arith, nat_tests)

apart : (x y : Place) → eq_by_cmp node_cmp x y ≡ false → x.node ≡ y.node → ⊥
apart x y h e = grind (arith, nat_tests)

strictly : (xs ys : List Place) → IsPermutation xs ys → IsStrictlySortedBy node_cmp xs → IsSortedBy comes_before ys → IsStrictlySortedBy place_cmp ys
strictly xs ys moved rise sorted =
    let d = first_on 0 0 in
    let distinct = IsDistinct-IsPermutation (eq_by_cmp node_cmp) flips xs ys moved (IsDistinct-from_sorted node_cmp xs rise) in
    sorted_from_all_adjacent order ys d
    (λ k in_range.
    let x = get_or ys k d in
    let y = get_or ys (k + 1) d in
    less_from x y (sorted k d (omega arith) in_range) (apart x y (apart_from_distinct (eq_by_cmp node_cmp) ys k (k + 1) d distinct (omega arith) in_range)))

-- each of these places is of a node on one of these lines of this source
abbrev IsOn : Program → ℕ → ℕ → ℕ → Place → Type 0
IsOn p source first last x = IsPlace p x × (is_within source first last x ≡ true)

never_falls : (p : Program) (s f l : ℕ) (xs : List Place) → AllByRecursion (IsOn p s f l) xs → IsStrictlySortedBy place_cmp xs → NeverFalls (λ n. (node_at p n).line) (map node_of xs)
unfolding IsStrictlySortedBy
never_falls p s f l [] are rise = tt
never_falls p s f l (x ∷ xs) are rise = (
  all-map node_of (λ m. (node_at p x.node).line ≤ (node_at p m).line) xs
      (all_both {P = IsOn p s f l} {Q = λ y. place_cmp x y ≡ Less} {R = λ y. (node_at p x.node).line ≤ (node_at p y.node).line}
      (λ y is less.
      let at_x = (within_to s f l x are.0.1).0 in
      let at_y = (within_to s f l y is.1).0 in
      let up = less_to x y less (at_x ∙ sym at_y) in
      let line_x = ap (λ (z : Place). z.line) are.0.0.2 in
      let line_y = ap (λ (z : Place). z.line) is.0.2 in
      omega (arith, up, line_x, line_y))
      xs are.1 rise.0),
  never_falls p s f l xs are.1 rise.1,
)

rises : (p : Program) (s l low : ℕ) (xs : List Place) → AllByRecursion (IsOn p s l l) xs → IsStrictlySortedBy place_cmp xs → AllByRecursion (λ y. low ≤ y.node) xs → RisesFrom low (map node_of xs)
unfolding IsStrictlySortedBy
rises p s l low [] are rise from = tt
rises p s l low (x ∷ xs) are rise from = (
  from.0,
  rises p s l (x.node + 1) xs are.1 rise.1
      (all_both {P = IsOn p s l l} {Q = λ y. place_cmp x y ≡ Less} {R = λ y. x.node + 1 ≤ y.node}
      (λ y is less.
      let at_x = within_to s l l x are.0.1 in
      let at_y = within_to s l l y is.1 in
      let line : x.line ≡ y.line = omega (arith, at_x.1, at_x.2, at_y.1, at_y.2) in
      omega (arith, less_nodes x y less (at_x.0 ∙ sym at_y.0) line))
      xs are.1 rise.0),
)

from_zero : (xs : List Place) → AllByRecursion (λ y. 0 ≤ y.node) xs
from_zero [] = tt
from_zero (x ∷ xs) = (omega arith, from_zero xs)

-- a node whose place is among them and within the lines is one of those on the lines
whole_in : (p : Program) (s f l n : ℕ) (xs : List Place) → AllByRecursion (IsPlace p) xs → list_any (λ x. x.node == n) xs ≡ true → is_within s f l (place_of p n) ≡ true
    → list_any (λ m. m == n) (map node_of (filter (is_within s f l) xs)) ≡ true
whole_in p s f l n [] are any within = any
whole_in p s f l n (x ∷ xs) are any within = elim (eqb_tells x.node n) [
  | inl at ↦
      let same : x ≡ place_of p n = are.0.2 ∙ ap (place_of p) at.1 in
      subst (λ ys. list_any (λ m. m == n) (map node_of ys) ≡ true) (sym (filter_yes (is_within s f l) x xs (ap (is_within s f l) same ∙ within)))
      (any_here (λ m. m == n) x.node (map node_of (filter (is_within s f l) xs)) at.0)
  | inr at ↦
      let later = whole_in p s f l n xs are.1 (any_rest (λ y. y.node == n) x xs at.0 any) within in
      elim (either (is_within s f l x)) [
        | inl passes ↦
            subst (λ ys. list_any (λ m. m == n) (map node_of ys) ≡ true) (sym (filter_yes (is_within s f l) x xs passes))
            (any_later (λ m. m == n) x.node (map node_of (filter (is_within s f l) xs)) later)
        | inr fails ↦ subst (λ ys. list_any (λ m. m == n) (map node_of ys) ≡ true) (sym (filter_no (is_within s f l) x xs fails)) later
      ]
]

pub any_same : (n : ℕ) → (n == n) ≡ true
any_same n = grind (arith, nat_tests)

-- ---- tests on nodes

pub stands_from : (p : Program) (s f l n : ℕ) → is_tagged p n ≡ true → (node_at p n).source ≡ s → f ≤ (node_at p n).line → (node_at p n).line ≤ l → stands_within p s f l n ≡ true
stands_from p s f l n tagged at low high = grind (arith, nat_tests)

pub stands_to : (p : Program) (s f l n : ℕ) → stands_within p s f l n ≡ true → (is_tagged p n ≡ true) × ((node_at p n).source ≡ s) × (f ≤ (node_at p n).line) × ((node_at p n).line ≤ l)
stands_to p s f l n stands = grind (arith, nat_tests)

on_to_within : (p : Program) (s l n : ℕ) → stands_on p s l n ≡ true → stands_within p s l l n ≡ true
on_to_within p s l n on = grind (arith, nat_tests)

within_to_on : (p : Program) (s l n : ℕ) → stands_within p s l l n ≡ true → stands_on p s l n ≡ true
within_to_on p s l n within = grind (arith, nat_tests)

pub tagged_from : (b : Bool) → b ≡ false → not b ≡ true
tagged_from true h = sym h
tagged_from false h = refl

-- ---- all of it

module _ (p : Program) (lines : Lines)
    (few : length p.nodes ≤ 2 ^ 32)
    (fit : (n : ℕ) → n < length p.nodes → (node_at p n).line < 2 ^ 32)
    (moved : IsPermutation (map (place_of p) (filter (is_tagged p) (all_nodes p))) lines.places.items)
    (sources_are : lines.sources.items ≡ dedup nat_eq (map source_of lines.places.items)) where
  are : AllByRecursion (IsPlace p) lines.places.items
  are = recursion_from_All (IsPlace p) lines.places.items (All-permutation (IsPlace p) (places_from p 0 (length p.nodes)) lines.places.items moved (All-from_recursion (IsPlace p) (places_from p 0 (length p.nodes)) (all_are p 0 (length p.nodes) (omega arith))))

  any_of : (test : Place → Bool) (n : ℕ) → n < length p.nodes → is_tagged p n ≡ true → test (place_of p n) ≡ true → list_any test lines.places.items ≡ true
  any_of test n below tagged passes =
      sym (list_any-IsPermutation test (places_from p 0 (length p.nodes)) lines.places.items moved)
      ∙ any_is p test n tagged passes 0 (length p.nodes) (omega arith) (omega (arith, below))

  rise : IsStrictlySortedBy place_cmp lines.places.items
  rise = strictly (places_from p 0 (length p.nodes)) lines.places.items moved (nodes_rise p 0 (length p.nodes)) lines.sorted

  on : (s f l : ℕ) → AllByRecursion (IsOn p s f l) (filter (is_within s f l) lines.places.items)
  on s f l = all-filter (IsPlace p) (is_within s f l) lines.places.items are

  risen : (s f l : ℕ) → IsStrictlySortedBy place_cmp (filter (is_within s f l) lines.places.items)
  risen s f l = IsStrictlySortedBy-filter place_cmp (is_within s f l) lines.places.items rise

  whole : (s f l n : ℕ) → n < length p.nodes → stands_within p s f l n ≡ true → list_any (λ m. m == n) (between lines s f l) ≡ true
  whole s f l n below stands =
      let is = stands_to p s f l n stands in
      whole_in p s f l n lines.places.items are
      (any_of (λ x. x.node == n) n below is.0 (any_same n))
      (within_from s f l (place_of p n) is.1 is.2 is.3 (omega (arith, below, few)))

  within : (s f l : ℕ) → AllByRecursion (λ n. (n < length p.nodes) × (stands_within p s f l n ≡ true)) (between lines s f l)
  within s f l =
      all-map node_of (λ n. (n < length p.nodes) × (stands_within p s f l n ≡ true)) (filter (is_within s f l) lines.places.items)
      (all_each {P = IsOn p s f l} {Q = λ x. (x.node < length p.nodes) × (stands_within p s f l x.node ≡ true)}
      (λ x is.
      let to = within_to s f l x is.1 in
      let same = is.0.2 in
      (is.0.0, stands_from p s f l x.node is.0.1 (sym (ap (λ (z : Place). z.source) same) ∙ to.0) (omega (arith, to.1, ap (λ (z : Place). z.line) same)) (omega (arith, to.2, ap (λ (z : Place). z.line) same))))
      (filter (is_within s f l) lines.places.items) (on s f l))

  one : (s l : ℕ) → between lines s l l ≡ on_line p s l
  one s l =
      let ns = between lines s l l in
      let is : IsAmong (length p.nodes) (stands_on p s l) ns = record {
        rising = rises p s l 0 (filter (is_within s l l) lines.places.items) (on s l l) (risen s l l) (from_zero _);
        below = all_each (λ n h. h.0) ns (within s l l);
        whole = λ n below stands. whole s l l n below (on_to_within p s l n stands);
      } in
      sym (filter_all (stands_on p s l) ns (all_each (λ n h. within_to_on p s l n h.1) ns (within s l l)))
      ∙ among (stands_on p s l) (length p.nodes) ns is

  sourced : (n : ℕ) → n < length p.nodes → is_empty (node_at p n).tags ≡ false → list_any (λ s. s == (node_at p n).source) lines.sources.items ≡ true
  sourced n below tagged =
      let s = (node_at p n).source in
      let any = any_of (λ x. x.source == s) n below (tagged_from (is_empty (node_at p n).tags) tagged) (any_same s) in
      let contains = contains_from_any (map source_of lines.places.items) s (any-map source_of (λ k. k == s) lines.places.items ∙ any) in
      subst (λ ks. list_any (λ k. k == s) ks ≡ true) (sym sources_are)
      (any_from_contains (dedup nat_eq (map source_of lines.places.items)) s (Contains-dedup_nat (map source_of lines.places.items) s contains))

  pub has_lines : HasLines p lines
  has_lines = record {
    one = one;
    ordered = λ s f l. never_falls p s f l (filter (is_within s f l) lines.places.items) (on s f l) (risen s f l);
    whole = whole;
    within = within;
    fit = fit;
    sources = sourced;
  }
