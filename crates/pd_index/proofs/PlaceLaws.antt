-- The order of places.
use Rattle.std.proofs.Common.{◌≡◌, ℕ, ◌^◌, ◌<◌, ◌≤◌, List, true, false, refl, arith}
use Rattle.std.specs.declared.cmp.Ordering.{Ordering}
use Rattle.std.specs.declared.cmp.Ordering.TheVariants.{Less, Equal, Greater}
use Rattle.std.specs.Ordering.{is_lt, is_le}
use Rattle.std.specs.Ordering.{ordering_index}
use Rattle.std.specs.List.Sorted.{IsSortedBy, IsPartitionedBy}
use Rattle.std.specs.Cmp.{IsTotalOrder}
use Rattle.std.proofs.lemmas.List.Sorted.{searchable_from_sorted}
use Rattle.pd_index.specs.contracts.lines.PlaceOrd.TheImpl.Laws.{total-law}
use Rattle.std.proofs.lemmas.Bool.Decides.{nat_tests}
use Rattle.pd_index.specs.declared.lines.Place.{Place}
use Rattle.pd_index.specs.Places.{place_cmp, comes_before, is_within}

pub within_to : (s f l : ℕ) (pl : Place) → is_within s f l pl ≡ true → (pl.source ≡ s) × (f ≤ pl.line) × (pl.line ≤ l)
within_to s f l pl h = grind (arith, nat_tests)

pub within_from : (s f l : ℕ) (pl : Place) → pl.source ≡ s → f ≤ pl.line → pl.line ≤ l → pl.node < 2 ^ 32 → is_within s f l pl ≡ true
within_from s f l pl a b c d = grind (arith, nat_tests)

pub less_to : (x y : Place) → place_cmp x y ≡ Less → x.source ≡ y.source → x.line ≤ y.line
less_to x y h e = grind (arith, nat_tests)

pub less_nodes : (x y : Place) → place_cmp x y ≡ Less → x.source ≡ y.source → x.line ≡ y.line → x.node < y.node
less_nodes x y h e f = grind (arith, nat_tests)

pub less_from : (x y : Place) → comes_before y x ≡ false → (x.node ≡ y.node → ⊥) → place_cmp x y ≡ Less
less_from x y h apart = grind (arith, nat_tests)

lt_down : (a b : Ordering) → ordering_index a ≤ ordering_index b → is_lt b ≡ true → is_lt a ≡ true
lt_down Less b h e = refl
lt_down Equal Less h e = absurd (omega (arith, h))
lt_down Equal Equal h e = e
lt_down Equal Greater h e = e
lt_down Greater Less h e = absurd (omega (arith, h))
lt_down Greater Equal h e = e
lt_down Greater Greater h e = e

le_down : (a b : Ordering) → ordering_index a ≤ ordering_index b → is_le b ≡ true → is_le a ≡ true
le_down Less b h e = refl
le_down Equal b h e = refl
le_down Greater Less h e = absurd (omega (arith, h))
le_down Greater Equal h e = absurd (omega (arith, h))
le_down Greater Greater h e = e

pub order : IsTotalOrder place_cmp
order = total-law

-- in a list in order those before a place stand in front, and so do those up to it
pub partitioned-lt : (xs : List Place) (z : Place) → IsSortedBy comes_before xs → IsPartitionedBy (λ y. is_lt (place_cmp y z)) xs
partitioned-lt xs z sorted i j d le in_range = lt_down _ _ (searchable_from_sorted order (λ y. y) xs z sorted i j d le in_range)

pub partitioned-le : (xs : List Place) (z : Place) → IsSortedBy comes_before xs → IsPartitionedBy (λ y. is_le (place_cmp y z)) xs
partitioned-le xs z sorted i j d le in_range = le_down _ _ (searchable_from_sorted order (λ y. y) xs z sorted i j d le in_range)
