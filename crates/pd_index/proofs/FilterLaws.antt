-- Among the nodes of its tags, and among those of its places, are all that satisfy a filter.
use Rattle.std.proofs.Common.{◌≡◌, ℕ, ◌+◌, ◌-◌, ◌<◌, ◌≤◌, ◌^◌, zero, suc, List, [], ◌∷◌, ◌++◌, flat_map, length, Bool, true, false, not, ◌&&◌, refl, sym, subst, inl, inr, arith}
use Rattle.std.specs.Prelude.{◌==◌, slice_index, bytes_eq}
use Rattle.std.specs.List.{filter, list_any, range_with_len, AllByRecursion, Contains}
use Rattle.std.specs.List.Sorted.{IsStrictlyIncreasing}
use Rattle.std.proofs.lemmas.Bool.{false≢true}
use Rattle.std.proofs.lemmas.Bool.Decides.{eqb_tells, nat_tests}
use Rattle.pd_values.specs.declared.value.Tag.{Tag}
use Rattle.pd_values.specs.declared.value.Tag.TheVariants.{Statement, Call, Root, RootBody, Expression, ReadVariable, WriteVariable, AlwaysHalt}
use Rattle.pd_tree.specs.Program.{Program, node_at, has_tag}
use Rattle.pd_break.specs.Resolving.{all_nodes, is_statement, starts_on}
use Rattle.pd_plan.specs.declared.plan.LineRange.{LineRange}
use Rattle.pd_plan.specs.declared.plan.Filter.{Filter}
use Rattle.pd_filter.specs.Matching.{is_empty, satisfies, meets_tags, meets_place, one_of, is_in, root_name}
use Rattle.pd_index.specs.declared.index.NodeIndex.{NodeIndex}
use Rattle.pd_index.specs.declared.lines.Lines.{Lines}
use Rattle.pd_index.specs.Indexing.{bears, tagged, stands_on, on_line}
use Rattle.pd_index.specs.Among.{RisesFrom, IsAmong}
use Rattle.pd_index.specs.Kept.{HasTags, HasLines, IsIndexOf, list_of, between, on_range, of_source, sources_from, sources_of}
use Rattle.pd_index.proofs.ListLaws.{either, filter_yes, filter_no, any_here, any_later, any_rest, all_each, all-filter, contains_from_any, any_from_contains}
use Rattle.pd_index.proofs.LinesLaws.{tagged_from, stands_from, any_same}
use Rattle.pd_index.proofs.StopLaws.{tagged_by, all_any, any-filter, any_in_range, all_in_range}

-- ---- lists

rises_on : (low : ℕ) (xs : List ℕ) → (0 < length xs → low ≤ slice_index xs 0) → IsStrictlyIncreasing xs → RisesFrom low xs
rises_on low [] first rise = tt
rises_on low (x ∷ []) first rise = (first (omega arith), tt)
rises_on low (x ∷ y ∷ ys) first rise = (
  first (omega arith),
  rises_on (x + 1) (y ∷ ys) (λ h. omega (arith, rise 0 (omega arith))) (λ k in_range.
      let next : suc k + 1 ≡ suc (k + 1) = omega arith in
      subst (λ j. slice_index (y ∷ ys) k < slice_index (x ∷ y ∷ ys) j) next (rise (suc k) (omega (arith, in_range)))),
)

pub rises_from : (xs : List ℕ) → IsStrictlyIncreasing xs → RisesFrom 0 xs
rises_from xs rise = rises_on 0 xs (λ h. omega arith) rise

any-append : (n : ℕ) (xs ys : List ℕ) → list_any (λ m. m == n) ys ≡ true → list_any (λ m. m == n) (xs ++ ys) ≡ true
any-append n [] ys any = any
any-append n (x ∷ xs) ys any = any_later (λ m. m == n) x (xs ++ ys) (any-append n xs ys any)

any_in_front : (n : ℕ) (xs ys : List ℕ) → list_any (λ m. m == n) xs ≡ true → list_any (λ m. m == n) (xs ++ ys) ≡ true
any_in_front n [] ys any = absurd (false≢true any)
any_in_front n (x ∷ xs) ys any = elim (eqb_tells x n) [
  | inl at ↦ any_here (λ m. m == n) x (xs ++ ys) at.0
  | inr at ↦ any_later (λ m. m == n) x (xs ++ ys) (any_in_front n xs ys (any_rest (λ m. m == n) x xs at.0 any))
]

-- a number that stands in the list of each thing that passes a test stands in the lists of all, where one passes
any-flat_map : {X : Type 0} (test : X → Bool) (list : X → List ℕ) (n : ℕ) → ((x : X) → test x ≡ true → list_any (λ m. m == n) (list x) ≡ true)
    → (xs : List X) → list_any test xs ≡ true → list_any (λ m. m == n) (flat_map list xs) ≡ true
any-flat_map test list n each [] any = any
any-flat_map test list n each (x ∷ xs) any = elim (either (test x)) [
  | inl passes ↦ any_in_front n (list x) (flat_map list xs) (each x passes)
  | inr fails ↦ any-append n (list x) (flat_map list xs) (any-flat_map test list n each xs (any_rest test x xs fails any))
]

all-append : (P : ℕ → Type 0) (xs ys : List ℕ) → AllByRecursion P xs → AllByRecursion P ys → AllByRecursion P (xs ++ ys)
all-append P [] ys first second = second
all-append P (x ∷ xs) ys first second = (first.0, all-append P xs ys first.1 second)

all-flat_map : {X : Type 0} (P : ℕ → Type 0) (list : X → List ℕ) → ((x : X) → AllByRecursion P (list x)) → (xs : List X) → AllByRecursion P (flat_map list xs)
all-flat_map P list each [] = tt
all-flat_map P list each (x ∷ xs) = all-append P (list x) (flat_map list xs) (each x) (all-flat_map P list each xs)

-- ---- filters of all nodes

rises-filter : (test : ℕ → Bool) (low a k : ℕ) → low ≤ a → RisesFrom low (filter test (range_with_len a k))
rises-filter test low a zero le = tt
rises-filter test low a (suc k) le = elim (either (test a)) [
  | inl passes ↦ subst (RisesFrom low) (sym (filter_yes test a (range_with_len (a + 1) k) passes)) (le, rises-filter test (a + 1) (a + 1) k (omega arith))
  | inr fails ↦ subst (RisesFrom low) (sym (filter_no test a (range_with_len (a + 1) k) fails)) (rises-filter test low (a + 1) k (omega (arith, le)))
]

below-filter : (p : Program) (test : ℕ → Bool) → AllByRecursion (λ n. n < length p.nodes) (filter test (all_nodes p))
below-filter p test = all_each (λ n h. h.0) (filter test (all_nodes p)) (all-filter (λ n. n < length p.nodes) test (all_nodes p) (all_in_range 0 (length p.nodes) (length p.nodes) (omega arith)))

-- those that pass a weaker test are among all that pass
pub among_weaker : (p : Program) (test weaker : ℕ → Bool) → ((n : ℕ) → test n ≡ true → weaker n ≡ true) → IsAmong (length p.nodes) test (filter weaker (all_nodes p))
among_weaker p test weaker weaken = record {
  rising = rises-filter weaker 0 0 (length p.nodes) (omega arith);
  below = below-filter p weaker;
  whole = λ n below passes. any-filter weaker (all_nodes p) n (any_in_range n 0 (length p.nodes) (omega arith) (omega (arith, below))) (weaken n passes);
}

swap_first : (a b c d : Bool) → (a ≡ true → b ≡ true) → (a && c && d) ≡ true → (b && c && d) ≡ true
swap_first true b c d h all = subst (λ x. (x && c && d) ≡ true) (sym (h refl)) all
swap_first false b c d h all = absurd (false≢true all)

-- the nodes of a line, among which are its Statements
pub among_line : (p : Program) (source line : ℕ) → IsAmong (length p.nodes) (starts_on p source line) (on_line p source line)
among_line p source line =
    among_weaker p (starts_on p source line) (stands_on p source line)
    (λ n. swap_first (is_statement p n) (not (is_empty (node_at p n).tags)) ((node_at p n).source == source) ((node_at p n).line == line) (tagged_by (node_at p n).tags))

-- ---- numbers, made to rise

all_by : (P : ℕ → Type 0) (xs : List ℕ) → ((n : ℕ) → list_any (λ m. m == n) xs ≡ true → P n) → AllByRecursion P xs
all_by P [] each = tt
all_by P (x ∷ xs) each = (each x (any_here (λ m. m == x) x xs (any_same x)), all_by P xs (λ n any. each n (any_later (λ m. m == n) x xs any)))

pub among_risen : (count : ℕ) (test : ℕ → Bool) (all risen : List ℕ) → RisesFrom 0 risen → ((n : ℕ) → Contains all n → Contains risen n) → ((n : ℕ) → Contains risen n → Contains all n)
    → AllByRecursion (λ n. n < count) all → ((n : ℕ) → n < count → test n ≡ true → list_any (λ m. m == n) all ≡ true) → IsAmong count test risen
among_risen count test all risen rises kept only below whole = record {
  rising = rises;
  below = all_by (λ n. n < count) risen (λ n any. all_any (λ m. m < count) all n below (any_from_contains all n (only n (contains_from_any risen n any))));
  whole = λ n less passes. any_from_contains risen n (kept n (contains_from_any all n (whole n less passes)));
}

-- ---- by tags

list_is : (p : Program) (index : NodeIndex) → HasTags p index → (tag : Tag) → list_of index tag ≡ tagged p tag
list_is p index has Statement = has.statements
list_is p index has Call = has.calls
list_is p index has Root = has.roots
list_is p index has RootBody = has.bodies
list_is p index has Expression = has.expressions
list_is p index has ReadVariable = has.reads
list_is p index has WriteVariable = has.writes
list_is p index has AlwaysHalt = has.halts

pub tags_below : (p : Program) (index : NodeIndex) → IsIndexOf p index → (tags : List Tag) → AllByRecursion (λ n. n < length p.nodes) (flat_map (list_of index) tags)
tags_below p index is tags =
    all-flat_map (λ n. n < length p.nodes) (list_of index)
    (λ tag. subst (AllByRecursion (λ n. n < length p.nodes)) (sym (list_is p index is.tags tag)) (below-filter p (bears p tag))) tags

one_of_all : {A : Type 0} (wanted : List A) (test : A → Bool) → one_of wanted test ≡ true → is_empty wanted ≡ false → list_any test wanted ≡ true
one_of_all [] test one full = absurd (false≢true (sym full))
one_of_all (x ∷ xs) test one full = one

first_of : (a b : Bool) → (a && b) ≡ true → a ≡ true
first_of true b h = refl
first_of false b h = h

second_of : (a b : Bool) → (a && b) ≡ true → b ≡ true
second_of true b h = h
second_of false b h = absurd (false≢true h)

wants_tags : (p : Program) (f : Filter) (n : ℕ) → satisfies f p n ≡ true → one_of f.tags (has_tag (node_at p n).tags) ≡ true
wants_tags p f n s = grind (arith, nat_tests)

is_marked : (p : Program) (f : Filter) (n : ℕ) → satisfies f p n ≡ true → is_empty (node_at p n).tags ≡ false
is_marked p f n s = grind (arith, nat_tests)

wants_source : (p : Program) (f : Filter) (n : ℕ) → satisfies f p n ≡ true → one_of f.sources (λ source. source == (node_at p n).source) ≡ true
wants_source p f n s = grind (arith, nat_tests)

wants_line : (p : Program) (f : Filter) (n : ℕ) → satisfies f p n ≡ true → one_of f.lines (is_in (node_at p n).line) ≡ true
wants_line p f n s =
    let here = node_at p n in
    let sources = one_of f.sources (λ source. source == here.source) in
    let lines = one_of f.lines (is_in here.line) in
    let roots = one_of f.roots (λ name. bytes_eq name (root_name p here)) in
    second_of sources lines (first_of (sources && lines) roots (second_of (meets_tags f here.tags) (meets_place f p here) s))

pub tags_whole : (p : Program) (index : NodeIndex) → IsIndexOf p index → (f : Filter) → is_empty f.tags ≡ false
    → (n : ℕ) → n < length p.nodes → satisfies f p n ≡ true → list_any (λ m. m == n) (flat_map (list_of index) f.tags) ≡ true
tags_whole p index is f full n below passes =
    any-flat_map (has_tag (node_at p n).tags) (list_of index) n
    (λ tag has. subst (λ ns. list_any (λ m. m == n) ns ≡ true) (sym (list_is p index is.tags tag)) (any-filter (bears p tag) (all_nodes p) n (any_in_range n 0 (length p.nodes) (omega arith) (omega (arith, below))) has))
    f.tags (one_of_all f.tags (has_tag (node_at p n).tags) (wants_tags p f n passes) full)

-- ---- by places

between_below : (p : Program) (lines : Lines) → HasLines p lines → (s f l : ℕ) → AllByRecursion (λ n. n < length p.nodes) (between lines s f l)
between_below p lines has s f l = all_each (λ n h. h.0) (between lines s f l) (has.within s f l)

source_below : (p : Program) (lines : Lines) → HasLines p lines → (ranges : List LineRange) (s : ℕ) → AllByRecursion (λ n. n < length p.nodes) (of_source lines ranges s)
source_below p lines has [] s = between_below p lines has s 0 (2 ^ 32 - 1)
source_below p lines has (r ∷ rs) s = all-flat_map (λ n. n < length p.nodes) (on_range lines s) (λ range. between_below p lines has s range.from range.to) (r ∷ rs)

pub places_below : (p : Program) (lines : Lines) → HasLines p lines → (f : Filter) → AllByRecursion (λ n. n < length p.nodes) (flat_map (of_source lines f.lines) (sources_of f lines))
places_below p lines has f = all-flat_map (λ n. n < length p.nodes) (of_source lines f.lines) (source_below p lines has f.lines) (sources_of f lines)

in_range_to : (line : ℕ) (range : LineRange) → is_in line range ≡ true → (range.from ≤ line) × (line ≤ range.to)
in_range_to line range h = grind (arith, nat_tests)

eq_to : (a b : ℕ) → (a == b) ≡ true → b ≡ a
eq_to a b h = grind (arith, nat_tests)

source_whole : (p : Program) (lines : Lines) → HasLines p lines → (ranges : List LineRange) (n : ℕ) → n < length p.nodes → is_empty (node_at p n).tags ≡ false → one_of ranges (is_in (node_at p n).line) ≡ true
    → (s : ℕ) → (s == (node_at p n).source) ≡ true → list_any (λ m. m == n) (of_source lines ranges s) ≡ true
source_whole p lines has [] n below marked wants s at =
    has.whole s 0 (2 ^ 32 - 1) n below (stands_from p s 0 (2 ^ 32 - 1) n (tagged_from (is_empty (node_at p n).tags) marked) (eq_to s (node_at p n).source at) (omega arith) (omega (arith, has.fit n below)))
source_whole p lines has (r ∷ rs) n below marked wants s at =
    any-flat_map (is_in (node_at p n).line) (on_range lines s) n
    (λ range in_it.
    let to = in_range_to (node_at p n).line range in_it in
    has.whole s range.from range.to n below (stands_from p s range.from range.to n (tagged_from (is_empty (node_at p n).tags) marked) (eq_to s (node_at p n).source at) to.0 to.1))
    (r ∷ rs) wants

sourced : (named all : List ℕ) (source : ℕ) → one_of named (λ s. s == source) ≡ true → list_any (λ s. s == source) all ≡ true → list_any (λ s. s == source) (sources_from named all) ≡ true
sourced [] all source wants any = any
sourced (s ∷ ss) all source wants any = wants

pub places_whole : (p : Program) (lines : Lines) → HasLines p lines → (f : Filter)
    → (n : ℕ) → n < length p.nodes → satisfies f p n ≡ true → list_any (λ m. m == n) (flat_map (of_source lines f.lines) (sources_of f lines)) ≡ true
places_whole p lines has f n below passes =
    let marked = is_marked p f n passes in
    any-flat_map (λ s. s == (node_at p n).source) (of_source lines f.lines) n
    (source_whole p lines has f.lines n below marked (wants_line p f n passes))
    (sources_of f lines) (sourced f.sources lines.sources.items (node_at p n).source (wants_source p f n passes) (has.sources n below marked))
