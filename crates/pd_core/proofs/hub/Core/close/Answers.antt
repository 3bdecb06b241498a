use Rattle.std.proofs.Common.{◌≡◌, ℕ, suc, ◌<◌, List, [], ◌∷◌, length, arith, refl, sym, ap, ◌∙◌, subst, rules}
use Rattle.std.specs.Prelude.{slice_index}
use mathlib.Core.Option.{some, some-injective}
use lib.ListN.{get_elem?}
use Rattle.pd_core.specs.declared.view.View.{View}
use Rattle.pd_core.specs.Layout.{Layout}
use Rattle.pd_core.specs.Tokens.{Hub, Holder}
use Rattle.pd_core.specs.Good.{Good}
use Rattle.pd_core.proofs.hub.Core.close.Goals as goal

-- two lists of one length with the same numbers at each place
same_by_places : (xs ys : List ℕ) → length xs ≡ length ys → ((k : ℕ) → k < length xs → get_elem? ys k ≡ some (slice_index xs k)) → ys ≡ xs
same_by_places [] [] e h = refl
same_by_places [] (y ∷ ys) e h = absurd (omega arith)
same_by_places (x ∷ xs) [] e h = absurd (omega arith)
same_by_places (x ∷ xs) (y ∷ ys) e h = λ i. some-injective y x (h 0 (omega arith)) i ∷ same_by_places xs ys (omega arith) (λ k l. h (suc k) (omega arith)) i

pub free-requires : goal.free-requires
free-requires c = λ k h. absurd (omega (arith, c.self.invariant.3, c.close_with-closed.ensures.counts.1))

pub returns : goal.returns
returns c =
    let last = c.close_with-closed.ensures.values.2 in
    let good = last.1.0 in
    let inv = c.loop-i.invariant in
    let count : length c.in_ok-words.words.items ≡ c.self.inside.table.shared.table_id.words = search rules in
    let end : c.len-i-end.result ≡ length c.in_ok-words.words.items = search rules in
    let ended : c.loop-i.i ≡ length c.loop-i.words.items = omega (arith, inv.0) in
    let wide : length c.loop-i.words.items ≡ length last.0.words = inv.0 ∙ (count ∙ (c.self.invariant.1 ∙ sym good.sized)) in
    let words : last.0.words ≡ c.loop-i.words.items = same_by_places c.loop-i.words.items last.0.words wide (λ k h. ap (λ ws. get_elem? ws k) last.2 ∙ inv.1 k (omega arith)) in
    let layout : c.self.inside.table.shared.key ≡ c.args.self.layout = ap (λ (h : Hub). h.layout) c.self.view_is in
    let view : c.last.inside.seat.me.0 ≡ c.args.last.view = ap (λ (h : Holder). h.view) c.last.view_is in
    (last.0.views, subst (λ (x : Layout × List ℕ). Good x.0 x.1 last.0.views) (λ i. (layout i, words i)) good, (_, last.1.1 ∙ ap (λ (v : View). some v) view))
