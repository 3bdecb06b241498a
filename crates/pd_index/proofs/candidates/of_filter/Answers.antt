-- What the lists leave out doesn't satisfy the filter.
use Rattle.std.proofs.Common.{◌≡◌, ℕ, List, flat_map, length, true, false, subst, inl, inr, arith}
use Rattle.std.specs.List.{Contains}
use Rattle.pd_filter.specs.Matching.{is_empty, satisfies}
use Rattle.pd_index.specs.Kept.{list_of, of_source, sources_of}
use Rattle.pd_index.proofs.ListLaws.{either}
use Rattle.pd_index.proofs.FilterLaws.{among_risen, tags_below, tags_whole, places_below, places_whole}
use Rattle.pd_index.proofs.candidates.of_filter.Goals as goal
use Rattle.pd_index.proofs.candidates.of_filter.Goals.{else-nodes-tags-via-then-nodes-tags+else-nodes-places, else-nodes-tags-via-else-nodes-tags}

pub returns-in_ok-with_tags : goal.returns-in_ok-with_tags
returns-in_ok-with_tags c =
    let p = c.args.program.now in
    let f = c.args.filter.now in
    let index = c.args.index.now in
    let count = length p.nodes in
    let all = flat_map (list_of index) f.tags in
    let few : is_empty f.tags ≡ true → ⊥ = λ none. elim c.else-nodes-tags.branch [
      | else-nodes-tags-via-then-nodes-tags+else-nodes-places w ↦ absurd (omega (arith, c.count_tags-tags.ensures none, w.if-nodes-tags.true, w.if-nodes-places.false, c.if-tags-places.true, c.nodes-nodes.type_inv))
      | else-nodes-tags-via-else-nodes-tags w ↦ absurd (omega (arith, c.count_tags-tags.ensures none, w.if-nodes-tags.false, c.nodes-nodes.type_inv))
    ] in
    let full : is_empty f.tags ≡ false = elim (either (is_empty f.tags)) [ inl none ↦ absurd (few none) | inr some ↦ some ] in
    let is : c.in_ok-with_tags.field-0.items ≡ all = c.in_ok-with_tags.ensures in
    among_risen count (satisfies f p) all c.rising.result.items c.rising.ensures.rises
    (subst (λ (xs : List ℕ). (n : ℕ) → Contains xs n → Contains c.rising.result.items n) is c.rising.ensures.whole)
    (subst (λ (xs : List ℕ). (n : ℕ) → Contains c.rising.result.items n → Contains xs n) is c.rising.ensures.only)
    (tags_below p index c.requires f.tags) (tags_whole p index c.requires f full)

pub returns-in_ok-on_places : goal.returns-in_ok-on_places
returns-in_ok-on_places c =
    let p = c.args.program.now in
    let f = c.args.filter.now in
    let lines = c.args.index.now.lines in
    let risen = c.rising-else-tags-places in
    let all = flat_map (of_source lines f.lines) (sources_of f lines) in
    let is : c.in_ok-on_places.field-0.items ≡ all = c.in_ok-on_places.ensures in
    among_risen (length p.nodes) (satisfies f p) all risen.result.items risen.ensures.rises
    (subst (λ (xs : List ℕ). (n : ℕ) → Contains xs n → Contains risen.result.items n) is risen.ensures.whole)
    (subst (λ (xs : List ℕ). (n : ℕ) → Contains risen.result.items n → Contains xs n) is risen.ensures.only)
    (places_below p lines c.requires.lines f) (places_whole p lines c.requires.lines f)
