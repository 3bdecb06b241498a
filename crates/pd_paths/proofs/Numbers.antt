-- Amounts of paths of which one is changed or added, and what entries add in all.
use Rattle.std.proofs.Common.{◌≡◌, ℕ, zero, suc, ◌+◌, ◌-◌, ◌<◌, ◌≤◌, Bool, true, false, List, [], ◌∷◌, ◌++◌, length, refl, ap, ◌∙◌, arith}
use Rattle.std.specs.Prelude.{nat_lt, slice_index_or}
use Rattle.std.proofs.lemmas.Bool.{and_parts}
use Rattle.std.proofs.lemmas.Bool.Decides.{nat_tests}
use Rattle.pd_running.specs.Running.{is_enter, Mark}
use Rattle.pd_paths.specs.declared.PathCount.{PathCount}
use Rattle.pd_paths.specs.Tally.{weigh, amount, IsAdditive, number, path_after, next_after, begun_by, tallied, AreRising, all_some}
use Rattle.pd_paths.specs.Counting.{no_path, path_at, raised, AreBegun}

same_cell : (b : Bool) (k l a : ℕ) → weigh b (k + l) + a ≡ (weigh b k + a) + weigh b l
same_cell true k l a = omega arith
same_cell false k l a = omega arith

pub amount_raised : (w : ℕ → ℕ → ℕ) → IsAdditive w → (test : List ℕ → Bool) (count own i : ℕ) (xs : List PathCount) → i < length xs
    → amount (number w) test (raised i count own xs) ≡ amount (number w) test xs + weigh (test (path_at xs i)) (w count own)
amount_raised w additive test count own i [] h = absurd (omega (arith, h))
amount_raised w additive test count own zero (x ∷ xs) h =
    ap (λ k. weigh (test x.path) k + amount (number w) test xs) (additive x.count x.own count own) ∙ same_cell (test x.path) (w x.count x.own) (w count own) (amount (number w) test xs)
amount_raised w additive test count own (suc i) (x ∷ xs) h =
    let rest = amount_raised w additive test count own i xs (omega (arith, h)) in
    omega (arith, rest)

pub amount_push : (f : PathCount → ℕ) (test : List ℕ → Bool) (xs : List PathCount) (x : PathCount) → amount f test (xs ++ x ∷ []) ≡ amount f test xs + weigh (test x.path) (f x)
amount_push f test [] x = omega arith
amount_push f test (y ∷ ys) x = let rest = amount_push f test ys x in omega (arith, rest)

-- one number of a path is part of the amount
pub part_of : (f : PathCount → ℕ) → f no_path ≡ 0 → (xs : List PathCount) (i : ℕ) → f (slice_index_or xs i no_path) ≤ amount f (λ q. true) xs
part_of f none [] i = omega (arith, none)
part_of f none (x ∷ xs) zero = omega arith
part_of f none (x ∷ xs) (suc i) = let rest = part_of f none xs i in omega (arith, rest)

some_length : (xs : List PathCount) → all_some xs ≡ true → length xs ≤ amount (λ x. x.count) (λ q. true) xs
some_length [] h = omega arith
some_length (x ∷ xs) h =
    let parts = and_parts (nat_lt 0 x.count) (all_some xs) h in
    let rest = some_length xs parts.1 in
    let some = above x.count parts.0 in
    omega (arith, rest, some)
  where
    above : (k : ℕ) → nat_lt 0 k ≡ true → 0 < k
    above k h = grind (arith, nat_tests, h)

-- each path but the first began
pub begun_length : (xs : List PathCount) → AreBegun xs → length xs ≤ amount (λ x. x.count) (λ q. true) xs + 1
begun_length [] h = absurd h
begun_length (x ∷ xs) h = let rest = some_length xs h.1 in omega (arith, rest)

-- ---- entries

pub rising_from : (a b events : ℕ) (ms : List Mark) → a ≤ b → AreRising b events ms → AreRising a events ms
rising_from a b events [] l h = omega (arith, l, h)
rising_from a b events (m ∷ ms) l h = let first = h.0 in (omega (arith, l, first), h.1)

pub rising_bound : (next events : ℕ) (ms : List Mark) → AreRising next events ms → next + length ms ≤ events
rising_bound next events [] h = omega (arith, h)
rising_bound next events (m ∷ ms) h =
    let first = h.0 in
    let rest = rising_bound (suc m.number) events ms h.1 in
    omega (arith, first, rest)

-- after an entry the rest is rising from the first event that isn't counted then
pub rising_next : (b : Bool) (event events : ℕ) (ms : List Mark) → AreRising (suc event) events ms → AreRising (next_after b event) events ms
rising_next true event events ms h = rising_from event (suc event) events ms (omega arith) h
rising_next false event events ms h = h

next_bounds : (b : Bool) (event : ℕ) → (event ≤ next_after b event) × (next_after b event ≤ suc event)
next_bounds true event = (omega arith, omega arith)
next_bounds false event = (omega arith, omega arith)

no_own : (b : Bool) (path : List ℕ) → begun_by (λ c o. o) (λ q. true) b path ≡ 0
no_own true path = refl
no_own false path = refl

-- they add all events that aren't counted
pub owns_all : (events : ℕ) (path : List ℕ) (next : ℕ) (ms : List Mark) → AreRising next events ms → tallied (λ c o. o) (λ q. true) events path next ms ≡ events - next
owns_all events path next [] h = refl
owns_all events path next (m ∷ ms) h =
    let b = is_enter m.kind in
    let rising = rising_next b m.number events ms h.1 in
    let rest = owns_all events (path_after b path m.node) (next_after b m.number) ms rising in
    let none = no_own b (path_after b path m.node) in
    let bound = rising_bound (next_after b m.number) events ms rising in
    let low = (next_bounds b m.number).0 in
    let first = h.0 in
    omega (arith, rest, none, bound, low, first)

begun_bound : (b : Bool) (path : List ℕ) → begun_by (λ c o. c) (λ q. true) b path ≤ 1
begun_bound true path = omega arith
begun_bound false path = omega arith

-- and at most one activation each
pub counts_few : (events : ℕ) (path : List ℕ) (next : ℕ) (ms : List Mark) → tallied (λ c o. c) (λ q. true) events path next ms ≤ length ms
counts_few events path next [] = omega arith
counts_few events path next (m ∷ ms) =
    let b = is_enter m.kind in
    let rest = counts_few events (path_after b path m.node) (next_after b m.number) ms in
    let one = begun_bound b (path_after b path m.node) in
    omega (arith, rest, one)
