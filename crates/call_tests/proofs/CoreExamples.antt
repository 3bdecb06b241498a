-- What the tests may do, on the layout that they use.
use Rattle.std.proofs.Common.{ap, ◌∙◌, Bool, ◌≡◌, ℕ, ◌<◌, ◌≤◌, ◌+◌, ◌^◌, ◌++◌, ◌∷◌, [], subst, true, false, not, ◌==◌, Some, refl, sym, arith}
use Rattle.std.proofs.lemmas.Bool.Decides.{nat_tests}
use Rattle.pd_core.specs.declared.view.View.{View}
use Rattle.pd_core.specs.Examples.{one_binding, attached_view, IsAttached}
use Rattle.pd_core.specs.Layout.{Layout, width}
use Rattle.pd_core.specs.Words.{disposed, live, bit_of}
use Rattle.pd_core.specs.Counts.{total, same, times, first_is, only_if}
use Rattle.pd_core.specs.Talks.{spent}
use Rattle.pd_core.specs.Views.{known, found_attached, known_in, past_in, half_in, first_view, halved, newcomer}
use Rattle.pd_core.specs.Kinds.{May, after, load_node, load_binding, draw, clear_bit, set_bit, set_attached, count_answer, load_answers, load_row, set_summary, set_off}
use Rattle.pd_core.specs.Runs.{MaySplit}
use Rattle.pd_core.proofs.Talks.{spent_first}

pub may_split : MaySplit one_binding first_view
may_split = (omega arith, omega arith, (λ s h. omega (arith, spent_first s)), omega arith)

-- the views of the first pass and of the second, by the words that the steps found
abbrev pub at_load : ℕ → View
at_load a = after one_binding (load_node 3) a (halved first_view)

pub may_bit : (a : ℕ) → May one_binding (set_bit 3 0) (at_load a)
unfolding half_in past_in
may_bit a = ((omega arith, omega arith), (refl, (omega arith, refl)), tt)

abbrev pub at_bit : ℕ → ℕ → View
at_bit a b = after one_binding (set_bit 3 0) b (at_load a)

pub may_summary : (a b : ℕ) → May one_binding (set_summary 3 0) (at_bit a b)
unfolding half_in past_in width
may_summary a b = ((omega arith, omega arith), (0, omega arith, (refl, (omega arith, refl)), refl), tt)

abbrev pub at_summary : ℕ → ℕ → ℕ → View
at_summary a b c = after one_binding (set_summary 3 0) c (at_bit a b)

pub may_attach : (a b c : ℕ) → May one_binding (set_attached 0) (at_summary a b c)
unfolding past_in
may_attach a b c = (omega arith, omega arith, tt)

abbrev pub at_attach : ℕ → ℕ → ℕ → ℕ → View
at_attach a b c d = after one_binding (set_attached 0) d (at_summary a b c)

pub may_draw : (a b c d : ℕ) → (disposed d == 1) ≡ false → May one_binding (draw 4 0) (at_attach a b c d)
unfolding known_in times total same
may_draw a b c d e = (omega arith, ((λ i. known_in (0 ∷ []) (only_if (e i) 0) 0), omega arith), tt)

abbrev pub at_draw : ℕ → ℕ → ℕ → ℕ → ℕ → View
at_draw a b c d x = after one_binding (draw 4 0) x (at_attach a b c d)

abbrev pub at_off : ℕ → ℕ → ℕ → ℕ → ℕ → ℕ → View
at_off a b c d x y = after one_binding (set_off 0) y (at_draw a b c d x)

pub may_miss : (a b c d x y : ℕ) → (disposed d == 1) ≡ false → live x ≡ true → (disposed y == 1) ≡ false → May one_binding (draw 5 0) (at_off a b c d x y)
unfolding known_in times total same
may_miss a b c d x y e f g = (omega arith, ((λ i. known_in (0 ∷ []) ((only_if (e i) 0 ++ only_if (not (f i)) 0) ++ only_if (g i) 0) 0), omega arith), tt)

pub bit_there : (w b : ℕ) → (bit_of w b == 1) ≡ true → bit_of w b ≡ 1
bit_there w b e = grind (arith, nat_tests)

pub may_row : (p : Layout) (v w : View) (a : ℕ) → p ≡ one_binding → v ≡ w → w.loaded ≡ Some (record { node = 3; summary = a; rows = [] }) → bit_of a 0 ≡ 1 → May p (load_row 3 0) v
unfolding width
may_row p v w a e f g there = subst (λ (x : Layout × View). May x.0 (load_row 3 0) x.1) (λ i. (sym e i, sym f i)) ((omega arith, omega arith), (record { node = 3; summary = a; rows = [] }, g, refl, there), tt)

pub may_look : May one_binding (load_binding 6 0) (newcomer first_view)
unfolding known_in times total
may_look = (omega arith, refl, tt)

pub may_clear : (a : ℕ) → (disposed a == 1) ≡ true → May one_binding (clear_bit 3 0) (after one_binding (load_binding 6 0) a (newcomer first_view))
unfolding known_in times total same
may_clear a e = ((omega arith, omega arith), (λ i. known_in (only_if (live a) 0) (only_if (e i) 0) 0), omega arith)

pub may_answer : (a b : ℕ) → May one_binding (count_answer 0) (after one_binding (clear_bit 3 0) b (after one_binding (load_binding 6 0) a (newcomer first_view)))
unfolding spent total
may_answer a b = (omega arith, omega arith, tt)

pub splits : (p q : Layout) (v w : View) → p ≡ q → v ≡ w → MaySplit q w → MaySplit p v
splits p q v w e f may = subst (λ (x : Layout × View). MaySplit x.0 x.1) (λ i. (sym e i, sym f i)) may

-- a session may be read where nothing was read of it
pub ask : (p : Layout) (v w : View) → p ≡ one_binding → v ≡ w → w.talk.reads ≡ [] → May p (load_answers 0) v
unfolding total
ask p v w e f none = subst (λ (x : Layout × View). May x.0 (load_answers 0) x.1) (λ i. (sym e i, sym f i)) (omega arith, tt, subst (λ xs. total (first_is 0) xs + 1 < 2 ^ 32) (sym none) (omega arith))

-- the same from the first view, where no other was split from it
pub first_bit : May one_binding (set_bit 3 0) first_view
unfolding half_in past_in
first_bit = ((omega arith, omega arith), (refl, (omega arith, refl)), tt)

pub first_summary : (a : ℕ) → May one_binding (set_summary 3 0) (after one_binding (set_bit 3 0) a first_view)
unfolding half_in past_in width
first_summary a = ((omega arith, omega arith), (0, omega arith, (refl, (omega arith, refl)), refl), tt)

pub first_attach : (a b : ℕ) → May one_binding (set_attached 0) (after one_binding (set_summary 3 0) b (after one_binding (set_bit 3 0) a first_view))
unfolding past_in
first_attach a b = (omega arith, omega arith, tt)

known_view : (a b c : ℕ) → (disposed c == 1) ≡ false → known_in (attached_view a b c).found_attached (attached_view a b c).found_disposed 0 ≡ found_attached
unfolding known_in times total same
known_view a b c e = λ i. known_in (0 ∷ []) (only_if (e i) 0) 0

-- what is known after the attachment, and that there are shares for three splits
pub is_known : (v : View) → IsAttached v → known v 0 ≡ found_attached
is_known v t = subst (λ (w : View). known w 0 ≡ found_attached) (sym t.3) (known_view t.0 t.1 t.2 t.4)

pub may_first : (v : View) → IsAttached v → MaySplit one_binding v
may_first v t = subst (MaySplit one_binding) (sym t.3) (omega arith, omega arith, (λ s h. omega (arith, spent_first s)), omega arith)

pub may_second : (v : View) → IsAttached v → MaySplit one_binding (halved v)
unfolding spent total
may_second v t = subst (λ (w : View). MaySplit one_binding (halved w)) (sym t.3) (omega arith, omega arith, (λ s h. omega arith), omega arith)

pub may_third : (v : View) → IsAttached v → MaySplit one_binding (halved (halved v))
unfolding spent total
may_third v t = subst (λ (w : View). MaySplit one_binding (halved (halved w))) (sym t.3) (omega arith, omega arith, (λ s h. omega arith), omega arith)

pub shares_left : (v : View) → IsAttached v → 2 ≤ (halved (halved (halved v))).draw_share
shares_left v t = subst (λ (w : View). 2 ≤ (halved (halved (halved w))).draw_share) (sym t.3) (omega arith)

pub split_first : (p : Layout) (v : View) → p ≡ one_binding → IsAttached v → MaySplit p v
split_first p v e t = subst (λ (q : Layout). MaySplit q v) (sym e) (may_first v t)

pub split_second : (p : Layout) (v w : View) → p ≡ one_binding → IsAttached v → w ≡ halved v → MaySplit p w
split_second p v w e t f = subst (λ (x : Layout × View). MaySplit x.0 x.1) (λ i. (sym e i, sym f i)) (may_second v t)

pub split_third : (p : Layout) (v w : View) → p ≡ one_binding → IsAttached v → w ≡ halved (halved v) → MaySplit p w
split_third p v w e t f = subst (λ (x : Layout × View). MaySplit x.0 x.1) (λ i. (sym e i, sym f i)) (may_third v t)

-- what is known stays through splits
pub known_halved : (v w : View) → w ≡ halved v → known w 0 ≡ known v 0
known_halved v w e = ap (λ (x : View). known x 0) e

pub known_new : (v w : View) → w ≡ newcomer v → known w 0 ≡ known v 0
known_new v w e = ap (λ (x : View). known x 0) e

pub share_new : (v w : View) → w ≡ newcomer v → 2 ≤ w.draw_share
share_new v w e = omega (arith, ap (λ (x : View). x.draw_share) e)

pub share_thrice : (v w x y : View) → IsAttached v → w ≡ halved v → x ≡ halved w → y ≡ halved x → 2 ≤ y.draw_share
share_thrice v w x y t e f g = omega (arith, shares_left v t, ap (λ (u : View). u.draw_share) e, ap (λ (u : View). u.draw_share) f, ap (λ (u : View). u.draw_share) g)
