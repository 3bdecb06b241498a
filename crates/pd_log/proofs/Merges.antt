-- What a sort by place gives where the places differ.
use Rattle.std.proofs.Common.{◌≡◌, refl, ℕ, ◌+◌, ◌<◌, ◌≤◌, ◌==◌, Bool, List, length, sym, arith, ⊎_elim}
use Rattle.std.specs.Prelude.{count_by, if◌then◌else◌}
use Rattle.std.specs.List.Sorted.{IsPermutation, IsNonDecreasingBy}
use Rattle.std.proofs.lemmas.Bool.{eq-eqb, cases_lt}
use Rattle.std.proofs.lemmas.List.Sums.{count_by_more_yes, sum_by-take-le}
use Rattle.std.proofs.lemmas.List.Sorted.{sum_by-IsPermutation}
use Rattle.pd_log.specs.declared.Entry.{Entry}
use Rattle.pd_log.specs.Pairing.{no_entry, entry_at}
use Rattle.pd_log.specs.Merging.{PlacesDiffer, IsMerged}

-- whether the entry has the place
abbrev has_place : ℕ → Entry → Bool
has_place p e = e.place == p

-- two neighbours with one place are two entries of that place
two : (xs : List Entry) (i : ℕ) → i + 1 < length xs → (entry_at xs i).place ≡ (entry_at xs (i + 1)).place → 2 ≤ count_by (has_place (entry_at xs i).place) xs
two xs i below same =
    let p : ℕ = (entry_at xs i).place in
    let one = count_by_more_yes (has_place p) xs i no_entry (omega (arith, below)) (eq-eqb p p refl) in
    let more = count_by_more_yes (has_place p) xs (i + 1) no_entry below (eq-eqb (entry_at xs (i + 1)).place p (sym same)) in
    let all = sum_by-take-le (λ e. if has_place p e then 1 else 0) xs (i + 1 + 1) in
    omega (arith, one, more, all)

-- so, sorted by place, each is above the one before it
pub merged : (xs ys : List Entry) → PlacesDiffer xs → IsPermutation xs ys → IsNonDecreasingBy (λ (e : Entry). e.place) ys → IsMerged xs ys
merged xs ys differ moved sorted = record {
  same = moved;
  rising = λ i below.
      let p : ℕ = (entry_at ys i).place in
      let q : ℕ = (entry_at ys (i + 1)).place in
      let le = sorted i (i + 1) no_entry (omega arith) below in
      let few = differ p in
      let kept = sum_by-IsPermutation (λ e. if has_place p e then 1 else 0) xs ys moved in
      ⊎_elim
      (λ (e : p < q). e)
      (λ (e : q ≤ p). let twice = two ys i below (omega (arith, le, e)) in absurd (omega (arith, twice, few, kept)))
      (cases_lt p q);
}
