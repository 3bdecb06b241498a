-- By the laws on places in order.
use Rattle.std.proofs.Common.{◌≡◌, ◌≤◌, ◌^◌, map, length, take, filter, List, ◌∙◌, ap, subst, arith}
use Rattle.std.specs.Prelude.{nat_eq}
use Rattle.std.specs.List.{dedup}
use Rattle.std.specs.List.Sorted.{IsPermutation}
use Rattle.std.proofs.lemmas.List.{take_all}
use Rattle.std.proofs.lemmas.List.Filters.{dedup_is}
use Rattle.pd_break.specs.Resolving.{all_nodes}
use Rattle.pd_index.specs.declared.lines.Place.{Place}
use Rattle.pd_index.specs.Places.{place_of, is_tagged, source_of}
use Rattle.pd_index.proofs.LinesLaws.{has_lines}
use Rattle.pd_index.proofs.lines.Lines.of.Goals as goal

pub returns : goal.returns
returns c =
    let p = c.args.program.now in
    let sorted = c.sort_unstable.new.self.items in
    let items = c.as_slice-place-items.result.now in
    let few : length p.nodes ≤ 2 ^ 32 = omega (arith, c.places.ensures.few) in
    let moved : IsPermutation (map (place_of p) (filter (is_tagged p) (all_nodes p))) sorted = subst (λ (xs : List Place). IsPermutation xs sorted) c.in_ok-places.ensures.places c.sort_unstable.ensures.permutation in
    let all : take c.loop-place.place-index items ≡ items = take_all c.loop-place.place-index items c.loop-place-test.false in
    let before : c.loop-place.sources.items ≡ map source_of sorted = c.loop-place.invariant.1 ∙ ap (map source_of) (all ∙ c.as_slice-place-items.ensures.value) in
    has_lines p _ few c.in_ok-places.ensures.fit moved (dedup_is nat_eq c.loop-place.sources.items c.dedup.new.self.items c.dedup.ensures.filtered ∙ ap (dedup nat_eq) before)
