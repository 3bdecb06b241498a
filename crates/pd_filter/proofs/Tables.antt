-- Rows rise, and have nodes of the program alone.
use Rattle.std.proofs.Common.{ℕ, ◌+◌, ◌<◌, ◌≤◌, zero, suc, List, [], ◌∷◌, map, length, Bool, true, false, cond, sym, ◌∙◌, arith}
use Rattle.std.specs.Prelude.{slice_index, slice_index_or}
use Rattle.std.specs.List.{range_with_len, filter}
use Rattle.std.proofs.lemmas.List.{length-map}
use Rattle.pd_tree.specs.Program.{Program}
use Rattle.pd_plan.specs.declared.plan.Plan.{Plan}
use Rattle.pd_filter.specs.Matching.{is_about, is_always_drawn, row_of, table_of, Rising, AllBelow, IsOver}

abbrev AllFrom : ℕ → List ℕ → Type 0
AllFrom low ns = (k : ℕ) → k < length ns → low ≤ slice_index ns k

from_later : (a : ℕ) (ns : List ℕ) → AllFrom (a + 1) ns → AllFrom a ns
from_later a ns from k in_range = omega (arith, from k in_range)

from_next : (a : ℕ) (ns : List ℕ) → AllFrom (a + 1) ns → AllFrom a (a ∷ ns)
from_next a ns from zero in_range = omega arith
from_next a ns from (suc k) in_range = omega (arith, from k (omega (arith, in_range)))

all_from : (test : ℕ → Bool) (a n : ℕ) → AllFrom a (filter test (range_with_len a n))
all_from test a zero = λ k in_range. absurd (omega (arith, in_range))
all_from test a (suc n) =
    let later = all_from test (a + 1) n in
    elim (test a) as (λ b. AllFrom a (cond b (a ∷ filter test (range_with_len (a + 1) n)) (filter test (range_with_len (a + 1) n))))
    [ true ↦ from_next a _ later | false ↦ from_later a _ later ]

below_next : (a count : ℕ) (ns : List ℕ) → a < count → AllBelow count ns → AllBelow count (a ∷ ns)
below_next a count ns first below zero in_range = first
below_next a count ns first below (suc k) in_range = below k (omega (arith, in_range))

all_below : (test : ℕ → Bool) (a n count : ℕ) → a + n ≤ count → AllBelow count (filter test (range_with_len a n))
all_below test a zero count fits = λ k in_range. absurd (omega (arith, in_range))
all_below test a (suc n) count fits =
    let later = all_below test (a + 1) n count (omega (arith, fits)) in
    let first : a < count = omega (arith, fits) in
    elim (test a) as (λ b. AllBelow count (cond b (a ∷ filter test (range_with_len (a + 1) n)) (filter test (range_with_len (a + 1) n))))
    [ true ↦ below_next a count _ first later | false ↦ later ]

rises_next : (a : ℕ) (ns : List ℕ) → AllFrom (a + 1) ns → Rising ns → Rising (a ∷ ns)
rises_next a ns from rising zero zero lt in_range = absurd (omega (arith, lt))
rises_next a ns from rising zero (suc j) lt in_range = omega (arith, from j (omega (arith, in_range)))
rises_next a ns from rising (suc i) zero lt in_range = absurd (omega (arith, lt))
rises_next a ns from rising (suc i) (suc j) lt in_range = rising i j (omega (arith, lt)) (omega (arith, in_range))

all_rising : (test : ℕ → Bool) (a n : ℕ) → Rising (filter test (range_with_len a n))
all_rising test a zero = λ i j lt in_range. absurd (omega (arith, in_range))
all_rising test a (suc n) =
    let later = all_rising test (a + 1) n in
    let from = all_from test (a + 1) n in
    elim (test a) as (λ b. Rising (cond b (a ∷ filter test (range_with_len (a + 1) n)) (filter test (range_with_len (a + 1) n))))
    [ true ↦ rises_next a _ from later | false ↦ later ]

-- what holds of no row and of each row holds at every number
each_row : {A : Type 0} (P : List ℕ → Type 0) (row : A → List ℕ) → P [] → ((x : A) → P (row x)) → (xs : List A) (b : ℕ) → P (slice_index_or (map row xs) b [])
each_row P row none some [] b = none
each_row P row none some (x ∷ xs) zero = some x
each_row P row none some (x ∷ xs) (suc b) = each_row P row none some xs b

pub table_is_over : (plan : Plan) (p : Program) → IsOver (length p.nodes) (table_of plan p)
table_is_over plan p = record {
  rising = each_row Rising (row_of p) (λ i j lt in_range. absurd (omega (arith, in_range))) (λ b. all_rising (is_about p b) 0 (length p.nodes)) plan.bindings;
  within = each_row (AllBelow (length p.nodes)) (row_of p) (λ k in_range. absurd (omega (arith, in_range))) (λ b. all_below (is_about p b) 0 (length p.nodes) (length p.nodes) (omega arith)) plan.bindings;
  whole = length-map plan.bindings is_always_drawn ∙ sym (length-map plan.bindings (row_of p));
}
