-- One node of a row: its bit and its summary's.
use Rattle.std.proofs.Common.{◌≡◌, ℕ, suc, ◌+◌, ◌/◌, ◌<◌, Bool, true, false, ◌&&◌, cond, refl, sym, subst, ap, ◌∙◌, arith, eq-eqb, length, List, get_or}
use Rattle.std.proofs.lemmas.Grind.{common_steps}
use Rattle.std.specs.Prelude.{slice_index, Some}
use Rattle.pd_core.specs.declared.view.View.{View}
use Rattle.pd_core.specs.Layout.{Layout, bindings, row}
use Rattle.pd_core.specs.Views.{past_in, half_in}
use Rattle.pd_core.specs.Kinds.{after, May, Found, set_bit, set_summary}
use Rattle.pd_core.proofs.Places.{row_of}
use Rattle.pd_shared.specs.Steps.{HasMarked, MarkedTo, TookOne}

pub marked_start : (p : Layout) (b : ℕ) (v : View) → past_in v.attaching b ≡ 0 → half_in v.attaching b ≡ false → HasMarked p b 0 v v
marked_start p b v past half = record { past = past; whole = half; rest = refl; marks = refl }

past_own : (b k : ℕ) (half : Bool) → past_in (Some (record { binding = b; past = k; half = half })) b ≡ k
unfolding past_in
past_own b k half = ap (λ (t : Bool). cond t k 0) (eq-eqb b b refl)

half_own : (b k : ℕ) (half : Bool) → half_in (Some (record { binding = b; past = k; half = half })) b ≡ half
unfolding half_in
half_own b k half = ap (λ (t : Bool). t && half) (eq-eqb b b refl)

pub may_mark : (p : Layout) (n b k : ℕ) (v : View) → b < bindings p → n < p.nodes → k < length (row p b) → slice_index (row p b) k ≡ n → past_in v.attaching b ≡ k → half_in v.attaching b ≡ false → May p (set_bit n b) v
may_mark p n b k v lt node within is past half = ((node, lt), (half, (rw past within, rw past is)), tt)

pub may_sum : (p : Layout) (n b k w : ℕ) (v : View) → b < bindings p → n < p.nodes → k < length (row p b) → slice_index (row p b) k ≡ n → past_in v.attaching b ≡ k → May p (set_summary n (b / 64)) (after p (set_bit n b) w v)
may_sum p n b k w v lt node within is past =
    let now : past_in (after p (set_bit n b) w v).attaching b ≡ k = past_own b (past_in v.attaching b) true ∙ past in
    ((node, row_of p b lt), (b, lt, (half_own b (past_in v.attaching b) true, (rw now within, rw now is)), refl), tt)

pub marked_more : (p : Layout) (n b k w u : ℕ) (v m : View) → slice_index (row p b) k ≡ n → Found p (set_bit n b) m w → Found p (set_summary n (b / 64)) (after p (set_bit n b) w m) u → HasMarked p b k v m → HasMarked p b (k + 1) v (after p (set_summary n (b / 64)) u (after p (set_bit n b) w m))
marked_more p n b k w u v m is bit summary h =
    let next : View = after p (set_summary n (b / 64)) u (after p (set_bit n b) w m) in
    record {
      past = past_own b (past_in m.attaching b + 1) false ∙ ap (λ (i : ℕ). i + 1) h.past;
      whole = half_own b (past_in m.attaching b + 1) false;
      rest = ap (λ (y : View). record y { attaching = next.attaching; steps = next.steps; last = next.last }) h.rest;
      marks = subst (λ (i : ℕ). MarkedTo p b i v next) (let e : suc k ≡ k + 1 = omega arith in e) (m, after p (set_bit n b) w m, h.marks, subst (λ (i : ℕ). TookOne p (set_bit i b) m (after p (set_bit n b) w m)) (sym is) (w, (bit, refl)), subst (λ (i : ℕ). TookOne p (set_summary i (b / 64)) (after p (set_bit n b) w m) next) (sym is) (u, (summary, refl)));
    }

pub item_read : (xs : List ℕ) (k x : ℕ) → k < length xs → x ≡ get_or xs k x → slice_index xs k ≡ x
item_read xs k x within e = grind (arith, common_steps)
