-- A node's bit comes only by set bit, and clear bit leaves none.
use Rattle.std.proofs.Common.{◌≡◌, ◌≢◌, ◌⊎◌, ℕ, zero, suc, ◌+◌, ◌/◌, ◌%◌, ◌<◌, ◌≤◌, List, [], ◌∷◌, length, set, sym, refl, ap, ◌∙◌, ⊎_elim, arith}
use Rattle.std.specs.Prelude.{slice_index}
use mathlib.Core.Logic.{dite}
use mathlib.Core.Option.{some}
use native.Mathlib.Decide.{ℕ_discrete}
use lib.Seq.{set-get_or}
use Rattle.pd_core.specs.Layout.{Layout, bindings, row_at, front}
use Rattle.pd_core.specs.Words.{mark, made_of, bit_of}
use Rattle.pd_core.specs.Good.{Good}
use Rattle.pd_core.specs.Kinds.{Kind, load_node, load_binding, draw, clear_bit, set_bit, set_attached, set_disposed, count_answer, load_answers, count_end, load_ends, load_row, set_summary, set_off, clear_off, word_of, change_of, InRange, State}
use Rattle.pd_core.specs.Runs.{Turn, moves, splits, joins, Leads, BitsComeBySetBit, ClearBitLeavesNone}
use Rattle.pd_core.proofs.Bits.{with_bit, without_bit, bit_set_else, bit_clear_here, bit_clear_else, bit_fits}
use Rattle.pd_core.proofs.Draws.{zero_or_one}
use Rattle.pd_core.proofs.Places.{row_of, row_inside, row_behind, mark_other}
use Rattle.pd_core.proofs.Frame.{room}
use Rattle.pd_core.proofs.Marks.{mark_now, mark_was, same_bit, low_bit}
use Rattle.pd_core.proofs.Runs.{each_turn}

module _ (p : Layout) (ws : List ℕ) (n b : ℕ) (sized : front p + bindings p ≤ length ws) (inside : n < p.nodes) (lt : b < bindings p) (none : mark p ws n b ≡ 0) where
  -- another word, or the same word as before
  other : {Q : Type 0} (i x : ℕ) → row_at p n (b / 64) ≢ i → mark p (set ws i x) n b ≡ 1 → Q
  other i x ne now = absurd (omega (arith, mark_other p ws i x n b ne))

  unread : {Q : Type 0} (i : ℕ) → mark p (set ws i (slice_index ws i)) n b ≡ 1 → Q
  unread i now = absurd (omega (arith, ap (λ (xs : List ℕ). mark p xs n b) (set-get_or ws i 0)))

  far : (i : ℕ) → front p ≤ i → row_at p n (b / 64) ≢ i
  far i h e = omega (arith, row_inside p n (b / 64) inside (row_of p b lt))

  came : (k : Kind) → InRange p k → mark p (set ws (word_of p k) (made_of (change_of k) (slice_index ws (word_of p k)))) n b ≡ 1 → k ≡ set_bit n b
  came (load_node m) r now = unread m now
  came (load_binding event c) r now = unread (word_of p (load_binding event c)) now
  came (draw event c) r now = other (word_of p (draw event c)) _ (far (word_of p (draw event c)) (omega arith)) now
  came (clear_bit m c) r now =
      let i : ℕ = row_at p m (c / 64) in
      let o : ℕ = slice_index ws i in
      let x : ℕ = without_bit (c % 64) o in
      dite (ℕ_discrete (row_at p n (b / 64)) i)
      (λ e. let is = mark_now p ws m c x sized r.0 r.1 b n e in dite (ℕ_discrete (b % 64) (c % 64))
      (λ t. absurd (let gone = bit_clear_here o (c % 64) (low_bit c) in omega (arith, ap (bit_of x) t)))
      (λ ne. absurd (omega (arith, mark_was p ws m c x sized r.0 r.1 b n e, bit_clear_else o (c % 64) (b % 64) (low_bit c) (low_bit b) ne))))
      (λ ne. other i x ne now)
  came (set_bit m c) r now =
      let i : ℕ = row_at p m (c / 64) in
      let o : ℕ = slice_index ws i in
      let x : ℕ = with_bit (c % 64) o in
      dite (ℕ_discrete (row_at p n (b / 64)) i)
      (λ e. let is = mark_now p ws m c x sized r.0 r.1 b n e in dite (ℕ_discrete (b % 64) (c % 64))
      (λ t. let s = same_bit p ws m c x sized r.0 r.1 b n (row_of p b lt) e t in λ j. set_bit (sym s.1 j) (sym s.0 j))
      (λ ne. absurd (omega (arith, mark_was p ws m c x sized r.0 r.1 b n e, bit_set_else o (c % 64) (b % 64) (low_bit c) ne))))
      (λ ne. other i x ne now)
  came (set_attached c) r now = other (word_of p (set_attached c)) _ (far (word_of p (set_attached c)) (omega arith)) now
  came (set_disposed c) r now = other (word_of p (set_disposed c)) _ (far (word_of p (set_disposed c)) (omega arith)) now
  came (count_answer s) r now = other (word_of p (count_answer s)) _ (far (word_of p (count_answer s)) (omega arith)) now
  came (load_answers s) r now = unread (word_of p (load_answers s)) now
  came count_end r now = other (word_of p count_end) _ (far (word_of p count_end) (omega arith)) now
  came load_ends r now = unread (word_of p load_ends) now
  came (load_row m q) r now = unread (row_at p m q) now
  came (set_summary m q) r now = other m _ (λ e. omega (arith, row_behind p n (b / 64), r.0)) now
  came (set_off c) r now = other (word_of p (set_off c)) _ (far (word_of p (set_off c)) (omega arith)) now
  came (clear_off c) r now = other (word_of p (clear_off c)) _ (far (word_of p (clear_off c)) (omega arith)) now

-- one turn
by_turn : (p : Layout) (s : State) (t : Turn) (next : State) (n b : ℕ) → Good p s.words s.views → Leads p s t next → n < p.nodes → b < bindings p → mark p s.words n b ≡ 0 → mark p next.words n b ≡ 1 → (id : ℕ) × (t ≡ moves (set_bit n b) id)
by_turn p s (moves k id) next n b g h inside lt none now = (id, ap (λ y. moves y id) (came p s.words n b (room g) inside lt none k h.3.0 (ap (λ (x : State). mark p x.words n b) (sym h.4) ∙ now)))
by_turn p s (splits id) next n b g h inside lt none now = absurd (let same : mark p next.words n b ≡ mark p s.words n b = ap (λ (x : State). mark p x.words n b) h.3 in omega arith)
by_turn p s (joins id other) next n b g h inside lt none now = absurd (let same : mark p next.words n b ≡ mark p s.words n b = ap (λ (x : State). mark p x.words n b) h.6 in omega arith)

mark_cases : (p : Layout) (ws : List ℕ) (n b : ℕ) → (mark p ws n b ≡ 0) ⊎ (mark p ws n b ≡ 1)
unfolding mark
mark_cases p ws n b = zero_or_one (bit_of (slice_index ws (row_at p n (b / 64))) (b % 64)) (bit_fits (slice_index ws (row_at p n (b / 64))) (b % 64))

pub bits_come : BitsComeBySetBit
bits_come p s [] next n b g r inside lt none now = absurd (let same : mark p next.words n b ≡ mark p s.words n b = ap (λ (x : State). mark p x.words n b) r in omega arith)
bits_come p s (t ∷ ts) next n b g r inside lt none now = ⊎_elim
    (λ (still : mark p r.0.words n b ≡ 0). let later = bits_come p r.0 ts next n b (each_turn p s t r.0 g r.1) r.2 inside lt still now in (suc later.0, later.1, later.2))
    (λ (came : mark p r.0.words n b ≡ 1). let here = by_turn p s t r.0 n b g r.1 inside lt none came in (zero, here.0, ap some here.1))
    (mark_cases p r.0.words n b)

pub clear_leaves : ClearBitLeavesNone
clear_leaves p s id next n b g h =
    let o : ℕ = slice_index s.words (row_at p n (b / 64)) in
    let x : ℕ = without_bit (b % 64) o in
    ap (λ (y : State). mark p y.words n b) h.4 ∙ (mark_now p s.words n b x (room g) h.3.0.0 h.3.0.1 b n refl ∙ bit_clear_here o (b % 64) (low_bit b))
