use Rattle.std.proofs.Common.{◌≡◌, ℕ, ◌*◌, ◌/◌, ◌<◌, ◌≤◌, ◌^◌, ◌+◌, arith, refl, sym, ap, ◌∙◌, rules, [], ◌∷◌, replicate, length, subst}
use Rattle.std.proofs.lemmas.Nat.{mul-le}
use lib.ListN.{length-map, length-replicate}
use Rattle.pd_core.specs.Layout.{Layout, layout_of, words_in, width, front, bindings, IsSound}
use Rattle.pd_core.specs.Views.{first_view}
use Rattle.pd_core.specs.Good.{Good}
use Rattle.pd_core.proofs.Places.{front_is, width_is}
use Rattle.pd_core.proofs.Opens.{opens}
use Rattle.pd_core.proofs.hub.Core.new.Goals as goal

pub of_words-requires : goal.of_words-requires
of_words-requires c =
    let p : Layout = layout_of c.args.nodes c.args.rows.items c.args.sessions c.args.contexts in
    let n : ℕ = c.args.nodes in
    let count : c.len-count.result ≡ bindings p = (let long : c.len-count.result ≡ length c.args.rows.items = search rules in long ∙ simp length-map) in
    let items : c.in_ok-words.words.items ≡ replicate (((n + n * ((c.len-count.result + 63) / 64)) + c.len-count.result) + (c.args.sessions + 1)) 0 = search rules in
    let wide : (c.len-count.result + 63) / 64 ≡ width p = ap (λ k. (k + 63) / 64) count ∙ sym (width_is p) in
    let total : ((n + n * ((c.len-count.result + 63) / 64)) + c.len-count.result) + (c.args.sessions + 1) ≡ words_in p = (λ i. ((n + n * wide i) + count i) + (c.args.sessions + 1)) ∙ ap (λ k. (k + bindings p) + (c.args.sessions + 1)) (sym (front_is p)) in
    let zeros : c.as_slice.result.now ≡ replicate (words_in p) 0 = c.as_slice.ensures.value ∙ (items ∙ ap (λ k. replicate k 0) total) in
    subst (λ ws. Good p ws (first_view ∷ [])) (sym zeros) (opens p c.requires)

pub invariant_of-result : goal.invariant_of-result
invariant_of-result c =
    let p : Layout = layout_of c.args.nodes c.args.rows.items c.args.sessions c.args.contexts in
    let n : ℕ = c.args.nodes in
    let key : c.in_ok-table.table.shared.key ≡ p = search rules in
    let count : c.len-count.result ≡ bindings p = (let long : c.len-count.result ≡ length c.args.rows.items = search rules in long ∙ simp length-map) in
    let items : c.in_ok-words.words.items ≡ replicate (((n + n * ((c.len-count.result + 63) / 64)) + c.len-count.result) + (c.args.sessions + 1)) 0 = search rules in
    let wide : (c.len-count.result + 63) / 64 ≡ width p = ap (λ k. (k + 63) / 64) count ∙ sym (width_is p) in
    let front_value : n + n * ((c.len-count.result + 63) / 64) ≡ front p = ap (λ w. n + n * w) wide ∙ sym (front_is p) in
    let few : (c.len-count.result + 63) / 64 ≤ 64 = omega (arith, c.requires.0) in
    let small : n ≤ 2 ^ 32 = omega (arith, c.ranges.nodes) in
    let product = mul-le n ((c.len-count.result + 63) / 64) (2 ^ 32) 64 small few in
    let low : (n + n * ((c.len-count.result + 63) / 64)) + c.len-count.result < 2 ^ 42 = omega (arith, product, c.requires.0) in
    let long : c.in_ok-table.table.shared.table_id.words ≡ length c.as_slice.result.now = search rules in
    let words : c.in_ok-table.table.shared.table_id.words ≡ words_in p = long ∙ (ap length (c.as_slice.ensures.value ∙ items) ∙ (length-replicate (((n + n * ((c.len-count.result + 63) / 64)) + c.len-count.result) + (c.args.sessions + 1)) 0 ∙ (λ i. (front_value i + count i) + (c.args.sessions + 1)))) in
    subst (λ (q : Layout). (n ≡ q.nodes) × (c.in_ok-table.table.shared.table_id.words ≡ words_in q) × IsSound q × (c.in_ok-table.table.shared.table_id.slots ≡ 0) × ((n + n * ((c.len-count.result + 63) / 64)) + c.len-count.result ≡ front q + bindings q) × (c.args.sessions ≡ q.sessions) × ((n + n * ((c.len-count.result + 63) / 64)) + c.len-count.result < 2 ^ 42) × (n + n * ((c.len-count.result + 63) / 64) ≡ front q) × ((c.len-count.result + 63) / 64 ≡ width q) × (c.args.contexts ≡ q.contexts)) (sym key)
    (refl, words, c.requires, search rules, λ i. front_value i + count i, refl, low, front_value, wide, refl)
