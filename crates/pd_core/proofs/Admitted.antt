-- A step that keeps the rule is admitted by the table, and what it tells is what the call promises.
use Rattle.std.proofs.Common.{◌≡◌, ℕ, ◌<◌, refl, sym, ap, ◌∙◌, subst}
use Rattle.std.specs.Prelude.{slice_index}
use Rattle.atomic_table.specs.Table.{Me, keeps}
use Rattle.atomic_table.specs.Seated.{TableId}
use Rattle.pd_core.specs.declared.view.View.{View}
use Rattle.pd_core.specs.Layout.{Layout}
use Rattle.pd_core.specs.Words.{operand}
use Rattle.pd_core.specs.Tokens.{Holder}
use Rattle.pd_core.specs.Views.{noted}
use Rattle.pd_core.specs.Kinds.{Kind, word_of, change_of, May, effect, after, State, Found}
use Rattle.pd_core.specs.Steps.{Admits, Told}
use Rattle.pd_core.proofs.Steps.{each_kind}

pub admitted : (p : Layout) (k : Kind) (slots id : ℕ) (me : Me ℕ View) → 0 < me.0.seat_share → May p k me.0 → Admits p k slots id me (word_of p k) (change_of k)
admitted p k slots id me seated may s good deep at small = let n : ℕ = slice_index s.words (word_of p k) in let h : State = record { words = s.words; views = s.views } in
    (after p k n me.0, keeps, tt, each_kind p k h id me.0 good at seated may, (refl, (h, good, (id, at), refl)))

-- the same for the number of the word
pub admitted_at : (p : Layout) (k : Kind) (slots id : ℕ) (me : Me ℕ View) (word : ℕ) → word ≡ word_of p k → 0 < me.0.seat_share → May p k me.0 → Admits p k slots id me word (change_of k)
admitted_at p k slots id me word e seated may = subst (λ (w : ℕ). Admits p k slots id me w (change_of k)) (sym e) (admitted p k slots id me seated may)

abbrev holder : TableId → View → Holder
holder id v = record { id = id; view = v }

pub told : (k : Kind) (p q : Layout) (word n : ℕ) (was now : TableId) (before next : Me ℕ View) (h : Holder)
    → (now ≡ was) × Told p k word (operand (change_of k)) 0 before n next → word ≡ word_of q k → holder was before.0 ≡ h → p ≡ q → holder now next.0 ≡ record h { view = after q k n h.view }
told k p q word n was now before next h e there is same =
    let ids : now ≡ h.id = e.0 ∙ ap (λ (x : Holder). x.id) is in
    let old : before.0 ≡ h.view = ap (λ (x : Holder). x.view) is in
    let views : next.0 ≡ after q k n h.view = ap (λ (m : Me ℕ View). m.0) e.1.0 ∙ (λ i. noted (there i) (operand (change_of k)) n (effect (same i) k n (old i))) in
    λ i. holder (ids i) (views i)

-- what may be done by what contracts see may be done by what is inside
pub inside : (k : Kind) (p q : Layout) (v w : View) → p ≡ q → v ≡ w → May q k w → May p k v
inside k p q v w e f may = subst (λ (x : Layout × View). May x.0 k x.1) (λ i. (sym e i, sym f i)) may

-- what was found by what is inside was found by what contracts see
pub found_out : (k : Kind) (p q : Layout) (v w : View) (n : ℕ) → p ≡ q → v ≡ w → Found p k v n → Found q k w n
found_out k p q v w n e f found = subst (λ (x : Layout × View). Found x.0 k x.1 n) (λ i. (e i, f i)) found
