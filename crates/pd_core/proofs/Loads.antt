-- Loading a node keeps the rule.
use Rattle.std.proofs.Common.{◌≡◌, ◌≢◌, ℕ, zero, suc, ◌+◌, ◌/◌, ◌%◌, ◌<◌, ◌^◌, List, [], ◌∷◌, length, set, Bool, true, ◌&&◌, ◌==◌, sym, refl, ap, ◌∙◌, ⊎_elim, arith, length-append}
use Rattle.std.specs.Prelude.{slice_index, ltb}
use Rattle.std.proofs.lemmas.Bool.Decides.{nat_tests}
use mathlib.Core.Logic.{dite}
use native.Mathlib.Decide.{dec_lt}
use Rattle.pd_core.specs.declared.view.View.{View}
use Rattle.pd_core.specs.Layout.{Layout, bindings, row, row_at, binding_word}
use Rattle.pd_core.specs.Words.{attached, disposed, bit_of, mark}
use Rattle.pd_core.specs.Counts.{total, same, times}
use Rattle.pd_core.specs.Views.{Known, fresh, found_attached, found_disposed, known, outcomes, gather, is_found_attached, is_missing, loaded, row_loaded}
use Rattle.pd_core.specs.Good.{Fits, Good}
use Rattle.pd_core.specs.Kinds.{load_node, load_row}
use Rattle.pd_core.proofs.Sums.{times-append, times-none, times_some, same_cases}
use Rattle.pd_core.proofs.Bits.{disposed_fits}
use Rattle.pd_core.proofs.Frame.{Keeps, Alike, quiet_load, node_steps}
use Rattle.pd_core.proofs.Places.{row_inside, node_inside, mark_is}
use Rattle.pd_core.proofs.Waves.{known_attached, wave_up}
use Rattle.pd_core.proofs.Draws.{zero_or_one}
use Rattle.pd_core.proofs.Attaches.{both, eqb_is}

-- what stands in the list stands at some place
pub at_some : (n : ℕ) (xs : List ℕ) → 0 < times n xs → (k : ℕ) × (k < length xs) × (slice_index xs k ≡ n)
unfolding times total
at_some n [] h = absurd (omega arith)
at_some n (x ∷ xs) h = ⊎_elim (λ (e : (n ≡ x) × (same n x ≡ 1)). (0, omega arith, sym e.0))
    (λ (e : (n ≢ x) × (same n x ≡ 0)). let r = at_some n xs (omega (arith, e.1)) in (suc r.0, omega (arith, r.1), r.2)) (same_cases n x)

gathered : (test : ℕ → Bool) (n c : ℕ) → 0 < times c (gather test n) → test c ≡ true
gathered test zero c h = absurd (omega (arith, times-none c))
gathered test (suc n) c h = ⊎_elim (λ was. gathered test n c was) (λ (e : (test n ≡ true) × (c ≡ n)). ap test e.1 ∙ e.0) (times_some c n (gather test n) (test n) h)

some_there : (n : ℕ) → ltb 0 n ≡ true → 0 < n
some_there n e = grind (arith, nat_tests)

attached_from : (k : Known) → is_found_attached k ≡ true → k ≡ found_attached
attached_from found_attached e = refl
attached_from fresh e = absurd (cc)
attached_from found_disposed e = absurd (cc)

-- A binding that is found missing is disposed
missing_gone : (p : Layout) (ws : List ℕ) (views : List View) (n r c : ℕ) (v : View) (g : Good p ws views) → Fits p ws g.limit v → c < bindings p → is_missing p n r (slice_index ws (row_at p n r)) v c ≡ true → disposed (binding_word p ws c) ≡ 1
missing_gone p ws views n r c v g f h e =
    let o : ℕ = slice_index ws (row_at p n r) in
    let s = both (c / 64 == r) (ltb 0 (times n (row p c)) && ((bit_of o (c % 64) == 0) && is_found_attached (known v c))) e in
    let t = both (ltb 0 (times n (row p c))) ((bit_of o (c % 64) == 0) && is_found_attached (known v c)) s.1 in
    let u = both (bit_of o (c % 64) == 0) (is_found_attached (known v c)) t.1 in
    let here : c / 64 ≡ r = eqb_is (c / 64) r s.0 in
    let no_bit : mark p ws n c ≡ 0 = mark_is p ws n c ∙ (ap (λ q. bit_of (slice_index ws (row_at p n q)) (c % 64)) here ∙ eqb_is (bit_of o (c % 64)) 0 u.0) in
    let on : attached (binding_word p ws c) ≡ 1 = f.knows.attached_is c h (known_attached v c (attached_from (known v c) u.1)).1 in
    ⊎_elim (λ still. absurd (let m = at_some n (row p c) (some_there (times n (row p c)) t.0) in let there = g.sound.marked c n h (on, still) (m.0, (m.1, m.2)) in omega arith)) (λ gone. gone)
    (zero_or_one (disposed (binding_word p ws c)) (disposed_fits (binding_word p ws c)))

module _ (n x : ℕ) (v : View) where
  alike_loaded : Alike v (loaded n x v)
  alike_loaded = record { drawn_same = λ c y. refl; firsts_same = λ c. refl; disposals_same = λ c. refl; draws_same = refl; seats_same = refl; upto_same = λ kind c y. refl; misses_same = λ c y. refl; toggles_kept = refl; taken_kept = refl }

  fits_loaded : (p : Layout) (ws : List ℕ) (l : ℕ → ℕ) → length v.loads + 1 < 2 ^ 32 → 0 < v.seat_share → Fits p ws l v → Fits p ws l (loaded n x v)
  fits_loaded p ws l fits seated f = record { underway = f.underway; knows = f.knows; done = f.done; waves = f.waves; ordered = f.ordered; few = (omega (arith, length-append v.loads (n ∷ [])), f.few.1); idle = λ z. absurd (omega arith) }

module _ (p : Layout) (n r x : ℕ) (v : View) where
  alike_row : Alike v (row_loaded p n r x v)
  alike_row = record { drawn_same = λ c y. refl; firsts_same = λ c. refl; disposals_same = λ c. refl; draws_same = refl; seats_same = refl; upto_same = λ kind c y. refl; misses_same = λ c y. refl; toggles_kept = refl; taken_kept = refl }

  fits_row : (ws : List ℕ) (l : ℕ → ℕ) → ((c : ℕ) → c < bindings p → is_missing p n r x v c ≡ true → disposed (binding_word p ws c) ≡ 1) → 0 < v.seat_share → Fits p ws l v → Fits p ws l (row_loaded p n r x v)
  fits_row ws l gone seated f = record {
    underway = f.underway;
    knows = record {
      attached_is = f.knows.attached_is;
      disposed_is = λ c h k. let more = times-append c v.found_disposed (gather (is_missing p n r x v) (bindings p)) in dite (dec_lt 0 (times c v.found_disposed)) (λ was. f.knows.disposed_is c h was) (λ new. gone c h (gathered (is_missing p n r x v) (bindings p) c (omega arith)));
    };
    done = f.done;
    waves = λ c h. wave_up v (row_loaded p n r x v) c (l c) (outcomes c v.deeds.sights) (omega (arith, times-append c v.found_disposed (gather (is_missing p n r x v) (bindings p)))) (omega arith) (f.waves c h);
    ordered = f.ordered;
    few = f.few;
    idle = λ z. absurd (omega arith);
  }

pub loads : (p : Layout) (n : ℕ) → Keeps p (load_node n)
loads p n h id v g at seated may =
    node_steps p h.words h.views id n (slice_index h.words n) v (loaded n (slice_index h.words n) v) g (node_inside p n may.0) at (quiet_load p h.words n) (alike_loaded n (slice_index h.words n) v) refl
    (fits_loaded n (slice_index h.words n) v p (set h.words n (slice_index h.words n)) g.limit may.2 seated)

pub row_loads : (p : Layout) (n r : ℕ) → Keeps p (load_row n r)
row_loads p n r h id v g at seated may =
    let i : ℕ = row_at p n r in
    let o : ℕ = slice_index h.words i in
    let q = quiet_load p h.words i in
    node_steps p h.words h.views id i o v (row_loaded p n r o v) g (row_inside p n r may.0.0 may.0.1) at q (alike_row p n r o v) refl
    (fits_row p n r o v (set h.words i o) g.limit (λ c k e. ap disposed (q.bindings_same c k) ∙ missing_gone p h.words h.views n r c v g (g.each id v at) k e) seated)
