-- The reader's stack, which lies in a vector from the outermost frame on.
use Rattle.std.proofs.Common.{◌≡◌, ℕ, List, [], ◌∷◌, ◌++◌, reverse, length, refl, sym, ap, ◌∙◌, arith}
use Rattle.std.proofs.lemmas.List.{reverse-append}
use Rattle.pd_pl0_read.specs.declared.parts.Keyword.{Keyword}
use Rattle.pd_pl0_read.specs.declared.parts.Frame.{Frame}
use Rattle.pd_pl0_read.specs.declared.parts.Frame.TheVariants.{Parens, Sequence, Heading, Procedure}
use Rattle.pd_pl0_read.specs.Places.{node}
use Rattle.pd_pl0_read.specs.Held.{Held, Nodes, heading_shape, headings_ended}

pub reverse_last : (xs : List Frame) (f : Frame) → reverse (xs ++ f ∷ []) ≡ f ∷ reverse xs
reverse_last xs f = reverse-append xs (f ∷ [])

ended_one : (at : ℕ) (w : Keyword) (first : ℕ) (k : List Frame) (ns : Nodes) → headings_ended at (Heading w first ∷ k) ns ≡ headings_ended at k (ns ++ node (heading_shape w) first at 2 ∷ [])
unfolding headings_ended
ended_one at w first k ns = refl

ended_none : (at : ℕ) (ns : Nodes) → headings_ended at [] ns ≡ ([], ns)
unfolding headings_ended
ended_none at ns = refl

ended_other : (at : ℕ) (top : Frame) (k : List Frame) (ns : Nodes) → ((w : Keyword) (first : ℕ) → top ≡ Heading w first → ⊥) → headings_ended at (top ∷ k) ns ≡ (top ∷ k, ns)
unfolding headings_ended
ended_other at (Heading w first) k ns h = absurd (h w first refl)
ended_other at (Parens l) k ns h = refl
ended_other at (Sequence first n) k ns h = refl
ended_other at Procedure k ns h = refl

-- a statement with a condition on top
pub heading_done : (at : ℕ) (w : Keyword) (first : ℕ) (top : Frame) (xs ys k : List Frame) (ns ms : Nodes) (h : Held) → xs ≡ ys ++ top ∷ [] → top ≡ Heading w first → reverse xs ≡ h.stack → ns ≡ h.nodes → k ≡ reverse ys → ms ≡ ns ++ node (heading_shape w) first at 2 ∷ [] → headings_ended at k ms ≡ headings_ended at h.stack h.nodes
heading_done at w first top xs ys k ns ms h e i v n q g =
    ap (λ l. headings_ended at l ms) q ∙ ap (headings_ended at (reverse ys)) g ∙ sym (ended_one at w first (reverse ys) ns)
    ∙ ap (λ l. headings_ended at l ns) (sym (ap reverse e ∙ reverse_last ys top ∙ ap (λ t. t ∷ reverse ys) i))
    ∙ ap (λ l. headings_ended at l ns) v ∙ ap (headings_ended at h.stack) n

-- any other frame on top
pub other_kept : (at : ℕ) (top : Frame) (xs ys zs : List Frame) (ns : Nodes) (h : Held) → ((w : Keyword) (first : ℕ) → top ≡ Heading w first → ⊥) → xs ≡ ys ++ top ∷ [] → zs ≡ ys ++ top ∷ [] → reverse xs ≡ h.stack → ns ≡ h.nodes → headings_ended at h.stack h.nodes ≡ (reverse zs, ns)
other_kept at top xs ys zs ns h o e z v n =
    let pair : List Frame → List Frame × Nodes = λ k. (k, ns) in
    ap (headings_ended at h.stack) (sym n) ∙ ap (λ k. headings_ended at k ns) (sym v ∙ ap reverse e ∙ reverse_last ys top) ∙ ended_other at top (reverse ys) ns o
    ∙ ap pair (sym (ap reverse z ∙ reverse_last ys top))

pub none_kept : (at : ℕ) (xs ys : List Frame) (ns : Nodes) (h : Held) → length xs ≡ 0 → xs ≡ ys ++ [] → reverse xs ≡ h.stack → ns ≡ h.nodes → headings_ended at h.stack h.nodes ≡ (reverse ys, ns)
none_kept at [] [] ns h e i v n = ap (headings_ended at h.stack) (sym n) ∙ ap (λ k. headings_ended at k ns) (sym v) ∙ ended_none at ns
none_kept at [] (y ∷ ys) ns h e i v n = absurd (cc)
none_kept at (x ∷ xs) ys ns h e i v n = absurd (omega arith)
