-- The places on these lines stand between the first that is not before them and the first that is behind them.
use Rattle.std.proofs.Common.{rules, ◌≡◌, map, ℕ, ◌-◌, Bool, true, false, List, take, drop, ap, sym, ◌∙◌, arith, subst}
use Rattle.std.specs.List.Sorted.{IsPartitionPoint, IsPartitionedBy}
use Rattle.std.specs.Ordering.{is_lt, is_le}
use Rattle.std.proofs.lemmas.List.{take-map, drop-map}
use Rattle.std.proofs.lemmas.List.Sorted.{IsPartitionPoint-from_clause}
use Rattle.pd_index.specs.declared.lines.Place.{Place}
use Rattle.pd_index.specs.Places.{node_of, place_cmp, first_on, last_on}
use Rattle.pd_index.proofs.CutLaws.{cut}
use Rattle.pd_index.proofs.PlaceLaws.{partitioned-lt, partitioned-le}
use Rattle.pd_index.proofs.lines.Lines.stretch.Goals as goal

pub returns : goal.returns
returns c =
    let lines = c.args.self.now in
    let xs = lines.places.items in
    let p : Place → Bool = λ y. is_lt (place_cmp y (first_on c.args.source c.args.from)) in
    let q : Place → Bool = λ y. is_le (place_cmp y (last_on c.args.source c.args.to)) in
    let s = c.partition_point-start.result in
    let e = c.partition_point-end.result in
    let starts : IsPartitionPoint (λ x. p x ≡ true) (λ x. p x ≡ false) xs s =
    subst (λ (ys : List Place). IsPartitionPoint (λ x. p x ≡ true) (λ x. p x ≡ false) ys s) c.deref.ensures.value
    (IsPartitionPoint-from_clause p c.deref.result.now s c.partition_point-start.ensures.partitioned (subst (λ (ys : List Place). IsPartitionedBy p ys) (sym c.deref.ensures.value) (partitioned-lt xs (first_on c.args.source c.args.from) lines.sorted)) (λ a r f k. search rules)) in
    let ends : IsPartitionPoint (λ x. q x ≡ true) (λ x. q x ≡ false) xs e =
    subst (λ (ys : List Place). IsPartitionPoint (λ x. q x ≡ true) (λ x. q x ≡ false) ys e) c.deref-2.ensures.value
    (IsPartitionPoint-from_clause q c.deref-2.result.now e c.partition_point-end.ensures.partitioned (subst (λ (ys : List Place). IsPartitionedBy q ys) (sym c.deref-2.ensures.value) (partitioned-le xs (last_on c.args.source c.args.to) lines.sorted)) (λ a r f k. search rules)) in
    let cut_is = cut p q xs s e starts ends in
    let long : c.max.result - s ≡ e - s = omega (arith, c.max.ensures) in
    ap (λ (n : ℕ). take n (drop s c.as_slice.result.now)) long
    ∙ ap (λ (ns : List ℕ). take (e - s) (drop s ns)) (c.as_slice.ensures.value ∙ lines.beside)
    ∙ ap (take (e - s)) (drop-map node_of s xs)
    ∙ take-map node_of (e - s) (drop s xs)
    ∙ ap (map node_of) (sym cut_is)
