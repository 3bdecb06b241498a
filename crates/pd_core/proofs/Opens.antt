-- The opening state meets the rule.
use Rattle.std.proofs.Common.{inr, ◌≡◌, ℕ, zero, suc, ◌/◌, ◌%◌, List, [], ◌∷◌, replicate, sym, refl, ap, ◌∙◌, subst, inl, arith, Bool, true, false}
use Rattle.std.specs.Prelude.{slice_index}
use Rattle.std.proofs.lemmas.Nat.Bits.{bit_at-zero}
use mathlib.Core.Option.{some, some-injective, some-ne-none}
use lib.ListN.{get_elem?, length-replicate}
use Rattle.pd_core.specs.declared.view.View.{View}
use Rattle.pd_core.specs.Layout.{Layout, words_in, session_at, end_at, bindings, IsSound, binding_word, row_at, binding_at}
use Rattle.pd_core.specs.Words.{attached, disposed, off, sum_in, bit_of}
use Rattle.pd_core.specs.Counts.{total, added}
use Rattle.pd_core.specs.Views.{known, drew_number, misses, toggles_upto, firsts, disposals, first_view}
use Rattle.pd_core.specs.Good.{Fits, Good}
use Rattle.pd_core.proofs.Sums.{total-one, once_below_none}
use Rattle.pd_core.proofs.Places.{mark_is, summary_is}
use Rattle.pd_core.proofs.Talks.{spoken_opens}
use Rattle.pd_core.proofs.Parts.{none_underway, ordered_none}
use Rattle.pd_core.proofs.Frame.{There}
use Rattle.pd_core.specs.declared.view.Deeds.{Deeds}
use Rattle.pd_core.specs.Views.{no_deeds}
use Rattle.pd_core.specs.Good.{IsOf}
use Rattle.pd_core.proofs.Seats.{answered_none, misses_none, upto_none, no_outcomes, drawn_none, firsts_none, disposals_none, knows_none, done_none}
use Rattle.pd_core.specs.Views.{of_all}

blank : (n i : ℕ) → slice_index (replicate n 0) i ≡ zero
blank zero i = refl
blank (suc n) zero = refl
blank (suc n) (suc i) = blank n i

none_added : (f : ℕ → ℕ) (n : ℕ) → ((i : ℕ) → f i ≡ 0) → added f n ≡ 0
unfolding added
none_added f zero h = refl
none_added f (suc n) h = omega (arith, none_added f n h, h n)

attached_none : (w : ℕ) → w ≡ 0 → attached w ≡ 0
unfolding attached
attached_none w e = ap attached e

disposed_none : (w : ℕ) → w ≡ 0 → disposed w ≡ 0
unfolding disposed
disposed_none w e = ap disposed e

off_none : (w : ℕ) → w ≡ 0 → off w ≡ 0
unfolding off
off_none w e = ap off e

sum_none : (w : ℕ) → w ≡ 0 → sum_in w ≡ 0
unfolding sum_in
sum_none w e = ap sum_in e

bit_none : (w b : ℕ) → w ≡ 0 → bit_of w b ≡ 0
unfolding bit_of
bit_none w b e = ap (λ n. bit_of n b) e ∙ bit_at-zero b

only_one : (v : View) (j : ℕ) (u : View) → get_elem? (v ∷ []) j ≡ some u → v ≡ u
only_one v zero u e = some-injective v u e
only_one v (suc j) u e = absurd (some-ne-none u (sym e))

of_first : (d : Deeds) → IsOf first_view d → d ≡ no_deeds
of_first d (inl e) = e
of_first d (inr t) = absurd (some-ne-none d (sym t.1))

fits_first : (p : Layout) (ws : List ℕ) (l : ℕ → ℕ) → Fits p ws l first_view
fits_first p ws l = record { underway = none_underway p ws; knows = knows_none p ws l; done = done_none p ws l; waves = λ c h. no_outcomes (known first_view c) (l c) c; ordered = ordered_none 0; few = (omega arith, omega arith); idle = λ z. absurd (omega arith) }

pub opens : (p : Layout) → IsSound p → Good p (replicate (words_in p) 0) (first_view ∷ [])
opens p shape =
    let ws : List ℕ = replicate (words_in p) 0 in
    let none : (i : ℕ) → slice_index ws i ≡ zero = blank (words_in p) in
    record {
      shape = shape;
      sized = length-replicate (words_in p) 0;
      limit = λ _. 0;
      sound = record {
        marked = λ b n h live m. absurd (let a = attached_none (binding_word p ws b) (none (binding_at p b)) in omega (arith, live.0));
        only = λ b n h k e. absurd (let a = bit_none (slice_index ws (row_at p n (b / 64))) (b % 64) (none (row_at p n (b / 64))) in omega (arith, mark_is p ws n b));
        summed = λ b n h on m. absurd (let a = attached_none (binding_word p ws b) (none (binding_at p b)) in omega arith);
        sums_only = λ n r k e. absurd (let a = bit_none (slice_index ws n) r (none n) in omega (arith, summary_is ws n r));
        none_yet = λ b h e. sum_none (binding_word p ws b) (none (binding_at p b));
        until = λ b h e. sym (sum_none (binding_word p ws b) (none (binding_at p b)));
        within = λ b h. omega arith;
      };
      each = λ j u e. subst (Fits p ws (λ _. 0)) (only_one first_view j u e) (fits_first p ws (λ _. 0));
      counted = record {
        drawn = λ b x h. total-one (of_all (drew_number b x)) first_view ∙ (drawn_none b x ∙ sym (once_below_none x));
        set_first = λ b h. total-one (of_all (firsts b)) first_view ∙ (firsts_none b ∙ sym (attached_none (binding_word p ws b) (none (binding_at p b))));
        ended = λ b h. total-one (of_all (disposals b)) first_view ∙ (disposals_none b ∙ sym (disposed_none (binding_word p ws b) (none (binding_at p b))));
        draws = omega (arith, total-one (λ (v : View). v.draw_share) first_view, none_added (λ b. sum_in (binding_word p ws b)) (bindings p) (λ b. sum_none (binding_word p ws b) (none (binding_at p b))));
        seats = total-one (λ (v : View). v.seat_share) first_view;
      };
      switched = λ b h.
          let none_at : (kind : Bool) (x : ℕ) → total (of_all (toggles_upto kind b x)) (first_view ∷ []) ≡ 0 = λ kind x. total-one (of_all (toggles_upto kind b x)) first_view ∙ upto_none kind b x in
          let none_missed : (x : ℕ) → total (of_all (misses b x)) (first_view ∷ []) ≡ 0 = λ x. total-one (of_all (misses b x)) first_view ∙ misses_none b x in
          record {
            below = λ x k. absurd (omega arith);
            on = λ x k e. omega (arith, none_at true x, none_at false x, off_none (binding_word p ws b) (none (binding_at p b)));
            gone = λ x k e. inl (omega (arith, none_at true x, none_at false x));
            none = λ x k. none_missed x;
          };
      answered = λ j u e d is. answered_none (There (first_view ∷ [])) d (of_first d (subst (λ (y : View). IsOf y d) (sym (only_one first_view j u e)) is));
      spoken = spoken_opens p ws (λ s. none (session_at p s)) (none (end_at p));
    }
