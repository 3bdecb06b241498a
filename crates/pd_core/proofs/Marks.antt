-- Setting and clearing bits of a node keeps the rule.
use Rattle.std.proofs.Common.{◌≡◌, ◌≢◌, ◌⊎◌, ℕ, ◌+◌, ◌/◌, ◌%◌, ◌<◌, ◌≤◌, ◌^◌, List, [], ◌∷◌, length, length-append, set, eqb, cond, true, false, Option, Some, None, sym, refl, ap, ◌∙◌, subst, ⊎_elim, inl, inr, arith, eq-eqb, ne_eqb, get_or-set_same, get_or-set_other}
use Rattle.std.specs.Prelude.{slice_index}
use mathlib.Core.Logic.{dite}
use native.Mathlib.Decide.{ℕ_discrete, dec_lt}
use Rattle.pd_core.specs.declared.view.View.{View}
use Rattle.pd_core.specs.declared.view.Attaching.{Attaching}
use Rattle.pd_core.specs.Layout.{Layout, bindings, row, width, IsAt, Matches, front, row_at, binding_at, binding_word}
use Rattle.pd_core.specs.Words.{attached, disposed, bit_of, summary}
use Rattle.pd_core.specs.Words as words
use Rattle.pd_core.specs.Views.{past_in, half_in, IsHalf, further, marked, summed, swept}
use Rattle.pd_core.specs.Good.{Underway, Fits}
use Rattle.pd_core.specs.Kinds.{set_bit, clear_bit, set_summary}
use Rattle.pd_core.proofs.Bits.{with_bit, without_bit, bit_set_here, bit_set_else, bit_clear_here, bit_clear_else}
use Rattle.pd_core.proofs.Places.{row_of, row_inside, node_inside, row_behind, row_apart, mark_other, summary_other, mark_is, summary_is}
use Rattle.pd_core.proofs.Frame.{Keeps, room, Alike, Quiet, node_steps}
use Rattle.pd_core.proofs.Waves.{known_disposed}
use Rattle.pd_core.proofs.Attaches.{both, eqb_is}

past_here : (a : Attaching) (b : ℕ) → b ≡ a.binding → past_in (Some a) b ≡ a.past
unfolding past_in
past_here a b e = ap (λ t. cond t a.past 0) (eq-eqb b a.binding e)

past_else : (a : Attaching) (b : ℕ) → b ≢ a.binding → past_in (Some a) b ≡ 0
unfolding past_in
past_else a b ne = ap (λ t. cond t a.past 0) (ne_eqb b a.binding ne)

half_is : (a : Attaching) (b : ℕ) → half_in (Some a) b ≡ true → (b ≡ a.binding) × (a.half ≡ true)
unfolding half_in
half_is a b e = let t = both (eqb b a.binding) a.half e in (eqb_is b a.binding t.0, t.1)

no_half : (b : ℕ) → half_in None b ≡ true → ⊥
unfolding half_in
no_half b e = cc

module _ (p : Layout) (ws : List ℕ) (b n : ℕ) where
  underway_marked : (a : Option Attaching) → IsAt p b (past_in a b) n → words.mark p ws n b ≡ 1 → Underway p ws a → Underway p ws (Some (record { binding = b; past = past_in a b; half = true }))
  underway_marked a next there f =
      let new : Attaching = record { binding = b; past = past_in a b; half = true } in
      record {
        past = λ c k h j. dite (ℕ_discrete c b) (λ e. f.past c k h (omega (arith, past_here new c e, ap (past_in a) e))) (λ ne. absurd (omega (arith, past_else new c ne)));
        half_done = λ c m h e. let is : c ≡ b = (half_is new c e.0).0 in
            let now : slice_index (row p c) (past_in (Some new) c) ≡ slice_index (row p b) (past_in a b) = λ i. slice_index (row p (is i)) (past_here new c is i) in
            inl (subst (λ (y : ℕ × ℕ). words.mark p ws y.0 y.1 ≡ 1) (λ i. ((sym next.1 ∙ (sym now ∙ e.1.1)) i, sym is i)) there);
      }

  underway_summed : (a : Option Attaching) → b < bindings p → IsHalf p a b n → summary ws n (b / 64) ≡ 1 → Underway p ws a → Underway p ws (further a)
  underway_summed None lt half there f = absurd (no_half b half.0)
  underway_summed (Some x) lt half there f =
      let here : b ≡ x.binding = (half_is x b half.0).0 in
      let y : Attaching = record x { past = x.past + 1; half = false } in
      let was : past_in (Some x) b ≡ x.past = past_here x b here in
      let now : past_in (Some y) b ≡ x.past + 1 = past_here y b here in
      record {
        past = λ c k h j. dite (ℕ_discrete c b)
            (λ e. subst (λ (z : ℕ). (k < length (row p z)) × (summary ws (slice_index (row p z) k) (z / 64) ≡ 1) × ((words.mark p ws (slice_index (row p z) k) z ≡ 1) ⊎ (disposed (binding_word p ws z) ≡ 1))) (sym e)
            (dite (dec_lt k x.past) (λ low. f.past b k lt (omega arith))
            (λ high. let is : past_in (Some x) b ≡ k = omega (arith, ap (past_in (Some y)) e) in
            subst (λ (m : ℕ). (m < length (row p b)) × (summary ws (slice_index (row p b) m) (b / 64) ≡ 1) × ((words.mark p ws (slice_index (row p b) m) b ≡ 1) ⊎ (disposed (binding_word p ws b) ≡ 1))) is
            (half.1.0, subst (λ (z : ℕ). summary ws z (b / 64) ≡ 1) (sym half.1.1) there, subst (λ (z : ℕ). (words.mark p ws z b ≡ 1) ⊎ (disposed (binding_word p ws b) ≡ 1)) (sym half.1.1) (f.half_done b n lt half)))))
            (λ ne. absurd (omega (arith, past_else y c (λ e. ne (e ∙ sym here)))));
        half_done = λ c m h e. let none : false ≡ true = (half_is y c e.0).1 in absurd (cc);
      }

module _ (v : View) where
  alike_marked : (b : ℕ) → Alike v (marked b v)
  alike_marked b = record { drawn_same = λ c y. refl; firsts_same = λ c. refl; disposals_same = λ c. refl; draws_same = refl; seats_same = refl; upto_same = λ kind c y. refl; misses_same = λ c y. refl; toggles_kept = refl; taken_kept = refl }

  alike_swept : (n b : ℕ) → Alike v (swept n b v)
  alike_swept n b = record { drawn_same = λ c y. refl; firsts_same = λ c. refl; disposals_same = λ c. refl; draws_same = refl; seats_same = refl; upto_same = λ kind c y. refl; misses_same = λ c y. refl; toggles_kept = refl; taken_kept = refl }

  alike_summed : Alike v (summed v)
  alike_summed = record { drawn_same = λ c y. refl; firsts_same = λ c. refl; disposals_same = λ c. refl; draws_same = refl; seats_same = refl; upto_same = λ kind c y. refl; misses_same = λ c y. refl; toggles_kept = refl; taken_kept = refl }

  fits_marked : (p : Layout) (ws : List ℕ) (l : ℕ → ℕ) (b n : ℕ) → IsAt p b (past_in v.attaching b) n → words.mark p ws n b ≡ 1 → 0 < v.seat_share → Fits p ws l v → Fits p ws l (marked b v)
  fits_marked p ws l b n next there seated f = record { underway = underway_marked p ws b n v.attaching next there f.underway; knows = f.knows; done = f.done; waves = f.waves; ordered = f.ordered; few = f.few; idle = λ z. absurd (omega arith) }

  fits_swept : (p : Layout) (ws : List ℕ) (l : ℕ → ℕ) (n b : ℕ) → length v.cleared + 1 < 2 ^ 60 → 0 < v.seat_share → Fits p ws l v → Fits p ws l (swept n b v)
  fits_swept p ws l n b few seated f = record { underway = f.underway; knows = f.knows; done = f.done; waves = f.waves; ordered = f.ordered; few = (f.few.0, omega (arith, length-append v.cleared ((n, b) ∷ []))); idle = λ z. absurd (omega arith) }

  fits_summed : (p : Layout) (ws : List ℕ) (l : ℕ → ℕ) (b n : ℕ) → b < bindings p → IsHalf p v.attaching b n → summary ws n (b / 64) ≡ 1 → 0 < v.seat_share → Fits p ws l v → Fits p ws l (summed v)
  fits_summed p ws l b n lt half there seated f = record { underway = underway_summed p ws b n v.attaching lt half there f.underway; knows = f.knows; done = f.done; waves = f.waves; ordered = f.ordered; few = f.few; idle = λ z. absurd (omega arith) }

-- A write of x to the word of bits of n that has b
module _ (p : Layout) (ws : List ℕ) (n b x : ℕ) (sized : front p + bindings p ≤ length ws) (inside : n < p.nodes) (lt : b < bindings p) where
  abbrev pub at : ℕ
  at = row_at p n (b / 64)

  pub in_front : at < front p
  in_front = row_inside p n (b / 64) inside (row_of p b lt)

  pub mark_now : (c k : ℕ) → row_at p k (c / 64) ≡ at → words.mark p (set ws at x) k c ≡ bit_of x (c % 64)
  mark_now c k e = mark_is p (set ws at x) k c ∙ (ap (λ i. bit_of (slice_index (set ws at x) i) (c % 64)) e ∙ ap (λ w. bit_of w (c % 64)) (get_or-set_same ws at x 0 (omega (arith, in_front))))

  pub mark_was : (c k : ℕ) → row_at p k (c / 64) ≡ at → words.mark p ws k c ≡ bit_of (slice_index ws at) (c % 64)
  mark_was c k e = mark_is p ws k c ∙ ap (λ i. bit_of (slice_index ws i) (c % 64)) e

  pub same_bit : (c k : ℕ) → c / 64 < width p → row_at p k (c / 64) ≡ at → c % 64 ≡ b % 64 → (c ≡ b) × (k ≡ n)
  same_bit c k h e r = let i = row_apart p k (c / 64) n (b / 64) h (row_of p b lt) e in (omega (arith, i.1, r), i.0)

  written : ((c : ℕ) → bit_of (slice_index ws at) (c % 64) ≡ 1 → (bit_of x (c % 64) ≡ 1) ⊎ ((c % 64 ≡ b % 64) × (disposed (binding_word p ws b) ≡ 1)))
      → ((c : ℕ) → bit_of x (c % 64) ≡ 1 → (bit_of (slice_index ws at) (c % 64) ≡ 1) ⊎ ((c % 64 ≡ b % 64) × Matches p b n)) → Quiet p ws (set ws at x)
  written keeps comes = record {
    bindings_same = λ c h. get_or-set_other ws at (binding_at p c) x 0 (λ e. omega (arith, in_front));
    keeps = λ c k h m e. dite (ℕ_discrete (row_at p k (c / 64)) at)
        (λ i. ⊎_elim (λ y. inl (mark_now c k i ∙ y)) (λ (d : (c % 64 ≡ b % 64) × (disposed (binding_word p ws b) ≡ 1)). inr (ap (λ y. disposed (binding_word p ws y)) (same_bit c k (row_of p c h) i d.0).0 ∙ d.1)) (keeps c (sym (mark_was c k i) ∙ e)))
        (λ ne. inl (mark_other p ws at x k c ne ∙ e));
    comes = λ c k h m e. dite (ℕ_discrete (row_at p k (c / 64)) at)
        (λ i. ⊎_elim (λ y. inl (mark_was c k i ∙ y)) (λ (d : (c % 64 ≡ b % 64) × Matches p b n). let s = same_bit c k h i d.0 in inr (subst (λ (y : ℕ × ℕ). Matches p y.0 y.1) (λ j. (sym s.0 j, sym s.1 j)) d.1)) (comes c (sym (mark_now c k i) ∙ e)))
        (λ ne. inl (sym (mark_other p ws at x k c ne) ∙ e));
    sums_keep = λ k r m e. summary_other ws at x k r (λ y. omega (arith, row_behind p n (b / 64))) ∙ e;
    sums_come = λ k r m e. inl (sym (summary_other ws at x k r (λ y. omega (arith, row_behind p n (b / 64)))) ∙ e);
  }

pub low_bit : (b : ℕ) → b % 64 < 64
low_bit b = omega arith

pub marks : (p : Layout) (n b : ℕ) → Keeps p (set_bit n b)
marks p n b h id v g at seated may =
    let i : ℕ = row_at p n (b / 64) in
    let o : ℕ = slice_index h.words i in
    let x : ℕ = with_bit (b % 64) o in
    let inside : n < p.nodes = may.0.0 in
    let lt : b < bindings p = may.0.1 in
    let here : bit_of x (b % 64) ≡ 1 = bit_set_here o (b % 64) (low_bit b) in
    let q = written p h.words n b x (room g) inside lt
    (λ c e. inl (dite (ℕ_discrete (c % 64) (b % 64)) (λ is. ap (bit_of x) is ∙ here) (λ ne. bit_set_else o (b % 64) (c % 64) (low_bit b) ne ∙ e)))
    (λ c e. dite (ℕ_discrete (c % 64) (b % 64)) (λ is. inr (is, (past_in v.attaching b, may.1.1))) (λ ne. inl (sym (bit_set_else o (b % 64) (c % 64) (low_bit b) ne) ∙ e))) in
    node_steps p h.words h.views id i x v (marked b v) g (in_front p h.words n b x (room g) inside lt) at q (alike_marked v b) refl
    (fits_marked v p (set h.words i x) g.limit b n may.1.1 (mark_now p h.words n b x (room g) inside lt b n refl ∙ here) seated)

pub sweeps : (p : Layout) (n b : ℕ) → Keeps p (clear_bit n b)
sweeps p n b h id v g at seated may =
    let i : ℕ = row_at p n (b / 64) in
    let o : ℕ = slice_index h.words i in
    let x : ℕ = without_bit (b % 64) o in
    let inside : n < p.nodes = may.0.0 in
    let lt : b < bindings p = may.0.1 in
    let gone : disposed (binding_word p h.words b) ≡ 1 = (g.each id v at).knows.disposed_is b lt (known_disposed v b may.1) in
    let q = written p h.words n b x (room g) inside lt
    (λ c e. dite (ℕ_discrete (c % 64) (b % 64)) (λ is. inr (is, gone)) (λ ne. inl (bit_clear_else o (b % 64) (c % 64) (low_bit b) (low_bit c) ne ∙ e)))
    (λ c e. dite (ℕ_discrete (c % 64) (b % 64)) (λ is. absurd (let none = bit_clear_here o (b % 64) (low_bit b) in omega (arith, ap (bit_of x) is))) (λ ne. inl (sym (bit_clear_else o (b % 64) (c % 64) (low_bit b) (low_bit c) ne) ∙ e))) in
    node_steps p h.words h.views id i x v (swept n b v) g (in_front p h.words n b x (room g) inside lt) at q (alike_swept v n b) refl (fits_swept v p (set h.words i x) g.limit n b may.2 seated)

pub summaries : (p : Layout) (n r : ℕ) → Keeps p (set_summary n r)
summaries p n r h id v g at seated may =
    let b : ℕ = may.1.0 in
    let lt : b < bindings p = may.1.1 in
    let half = may.1.2 in
    let row_is : b / 64 ≡ r = may.1.3 in
    let o : ℕ = slice_index h.words n in
    let x : ℕ = with_bit r o in
    let inside : n < p.nodes = may.0.0 in
    let few : r < 64 = omega (arith, g.shape.0) in
    let ws : List ℕ = set h.words n x in
    let now : (q : ℕ) → summary ws n q ≡ bit_of x q = λ q. summary_is ws n q ∙ ap (λ w. bit_of w q) (get_or-set_same h.words n x 0 (omega (arith, room g, node_inside p n inside))) in
    let here : bit_of x r ≡ 1 = bit_set_here o r few in
    let else : (q : ℕ) → q ≢ r → bit_of x q ≡ bit_of o q = λ q ne. bit_set_else o r q few ne in
    let apart : (k c : ℕ) → row_at p k (c / 64) ≢ n = λ k c e. omega (arith, row_behind p k (c / 64)) in
    let q : Quiet p h.words ws = record {
      bindings_same = λ c k. get_or-set_other h.words n (binding_at p c) x 0 (λ e. omega (arith, node_inside p n inside));
      keeps = λ c k j m e. inl (mark_other p h.words n x k c (apart k c) ∙ e);
      comes = λ c k j m e. inl (sym (mark_other p h.words n x k c (apart k c)) ∙ e);
      sums_keep = λ k q m e. dite (ℕ_discrete k n)
          (λ is. subst (λ (y : ℕ). summary ws y q ≡ 1) (sym is) (now q ∙ dite (ℕ_discrete q r) (λ t. ap (bit_of x) t ∙ here) (λ ne. else q ne ∙ (sym (summary_is h.words n q) ∙ (ap (λ y. summary h.words y q) (sym is) ∙ e)))))
          (λ ne. summary_other h.words n x k q ne ∙ e);
      sums_come = λ k q m e. dite (ℕ_discrete k n)
          (λ is. dite (ℕ_discrete q r) (λ t. inr (b, lt, row_is ∙ sym t, (past_in v.attaching b, (half.1.0, half.1.1 ∙ sym is))))
          (λ ne. inl (ap (λ y. summary h.words y q) is ∙ (summary_is h.words n q ∙ (sym (else q ne) ∙ (sym (now q) ∙ (ap (λ y. summary ws y q) (sym is) ∙ e)))))))
          (λ ne. inl (sym (summary_other h.words n x k q ne) ∙ e));
    } in
    node_steps p h.words h.views id n x v (summed v) g (node_inside p n inside) at q (alike_summed v) refl (fits_summed v p ws g.limit b n lt half (ap (summary ws n) row_is ∙ (now r ∙ here)) seated)
