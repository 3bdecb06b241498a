-- A step may be counted and kept in the view.
use Rattle.std.proofs.Common.{◌≡◌, ℕ, zero, suc, ◌+◌, ◌<◌, List, [], ◌∷◌, set, refl, sym, ap, subst, inl, arith}
use Rattle.std.specs.Prelude.{slice_index}
use mathlib.Core.Option.{some, some-ne-none}
use lib.ListN.{get_elem?}
use Rattle.pd_core.specs.declared.view.View.{View}
use Rattle.pd_core.specs.Layout.{Layout}
use Rattle.pd_core.specs.Words.{operand, made_of}
use Rattle.pd_core.specs.Talks.{Spoken}
use Rattle.pd_core.specs.Views.{talk_of, noted}
use Rattle.pd_core.specs.Good.{Fits, Good}
use Rattle.pd_core.proofs.Parts.{ordered_later}
use Rattle.pd_core.specs.Kinds.{Kind, load_node, load_binding, draw, clear_bit, set_bit, set_attached, set_disposed, count_answer, load_answers, count_end, load_ends, load_row, set_summary, set_off, clear_off, May, word_of, change_of, effect, after, State, stepped}
use Rattle.pd_core.proofs.Frame.{Keeps, Grows, Weighs, good_steps, switched_stays, answered_kept}
use Rattle.pd_core.proofs.Speaks.{map_stays}

set_twice : {A : Type 0} (xs : List A) (i : ℕ) (a b : A) → set (set xs i a) i b ≡ set xs i b
set_twice [] i a b = refl
set_twice (x ∷ xs) zero a b = refl
set_twice (x ∷ xs) (suc i) a b = ap (λ ys. x ∷ ys) (set_twice xs i a b)

stands : {A : Type 0} (xs : List A) (i : ℕ) (v a : A) → get_elem? xs i ≡ some v → get_elem? (set xs i a) i ≡ some a
stands [] i v a e = absurd (some-ne-none v (sym e))
stands (x ∷ xs) zero v a e = refl
stands (x ∷ xs) (suc i) v a e = stands xs i v a e

module _ (p : Layout) (ws : List ℕ) (l : ℕ → ℕ) (word a n : ℕ) (w : View) where
  still_grows : Grows p ws ws l l
  still_grows = record { bits = λ b k h m e. inl e; sums = λ k r h e. e; attached_stays = λ b h e. e; disposed_stays = λ b h e. e; limit_stays = λ b h e. refl; limit_grows = λ b h. omega arith }

  still_weighs : Weighs p ws ws l l w (noted word a n w)
  still_weighs = record { drawn = λ b x h. refl; set_first = λ b h. refl; ended = λ b h. refl; draws = omega arith; seats = refl }

  still_fits : 0 < w.seat_share → Fits p ws l w → Fits p ws l (noted word a n w)
  still_fits seated f = record { underway = f.underway; knows = f.knows; done = f.done; waves = f.waves; ordered = ordered_later w.deeds w.steps (w.steps + 1) (omega arith) f.ordered; few = f.few; idle = λ z. absurd (omega arith) }

noted_keeps : (p : Layout) (ws : List ℕ) (views : List View) (id word a n : ℕ) (v w : View) → get_elem? views id ≡ some v → 0 < w.seat_share → Good p ws (set views id w) → Good p ws (set views id (noted word a n w))
noted_keeps p ws views id word a n v w at seated g =
    let here : get_elem? (set views id w) id ≡ some w = stands views id v w at in
    subst (Good p ws) (set_twice views id w (noted word a n w))
    (good_steps p ws ws (set views id w) id w (noted word a n w) g g.limit refl here g.sound (still_grows p ws g.limit word a n w) (still_weighs p ws g.limit word a n w) (still_fits p ws g.limit word a n w seated (g.each id w here))
    (subst (Spoken p ws) (sym (map_stays talk_of (set views id w) id w (noted word a n w) here refl)) g.spoken)
    (switched_stays p ws ws (set views id w) id w (noted word a n w) g here (λ c h. refl) (λ kind c y. refl) (λ c y. refl)) (answered_kept (set views id w) id w (noted word a n w) here refl refl g.answered))

share_stays : (p : Layout) (k : Kind) (n : ℕ) (v : View) → (effect p k n v).seat_share ≡ v.seat_share
share_stays p (load_node m) n v = refl
share_stays p (load_binding event b) n v = refl
share_stays p (draw event b) n v = refl
share_stays p (clear_bit m b) n v = refl
share_stays p (set_bit m b) n v = refl
share_stays p (set_attached b) n v = refl
share_stays p (set_disposed b) n v = refl
share_stays p (count_answer s) n v = refl
share_stays p (load_answers s) n v = refl
share_stays p count_end n v = refl
share_stays p load_ends n v = refl
share_stays p (load_row m r) n v = refl
share_stays p (set_summary m r) n v = refl
share_stays p (set_off b) n v = refl
share_stays p (clear_off b) n v = refl

pub stays_seated : (p : Layout) (k : Kind) (n : ℕ) (v : View) → 0 < v.seat_share → 0 < (after p k n v).seat_share
stays_seated p k n v h = omega (arith, share_stays p k n v)

-- whatever the state is, a step of this kind keeps the rule
abbrev pub KeepsAll : Layout → Kind → Type 0
KeepsAll p k = (s : State) (id : ℕ) (v : View) → Good p s.words s.views → get_elem? s.views id ≡ some v → 0 < v.seat_share → May p k v → Good p (stepped p k id v s).words (stepped p k id v s).views

pub keeps_all : (p : Layout) (k : Kind) → Keeps p k → KeepsAll p k
keeps_all p k kept h id v g at seated may =
    let n : ℕ = slice_index h.words (word_of p k) in
    noted_keeps p (set h.words (word_of p k) (made_of (change_of k) n)) h.views id (word_of p k) (operand (change_of k)) n v (effect p k n v) at (omega (arith, share_stays p k n v)) (kept h id v g at seated may)
