-- The steps on the words of sessions and of ended contexts keep the rule.
use Rattle.std.proofs.Common.{◌≡◌, ◌≢◌, ℕ, suc, ◌+◌, ◌/◌, ◌%◌, ◌<◌, ◌≤◌, ◌^◌, List, [], ◌∷◌, ◌++◌, map, length, set, false, sym, refl, ap, ◌∙◌, subst, ⊎_elim, inl, arith, length-set, length-append, get_or-set_same, get_or-set_other}
use mathlib.Core.Logic.{dite}
use mathlib.Core.Option.{some}
use native.Mathlib.Decide.{ℕ_discrete}
use lib.ListN.{get_elem?}
use lib.Seq.{map-set}
use Rattle.atomic_table.proofs.Lists.{at_set, at_map}
use Rattle.pd_core.specs.declared.view.View.{View}
use Rattle.pd_core.specs.declared.view.Talk.{Talk}
use Rattle.pd_core.specs.Layout.{Layout, bindings, binding_at, front, session_at, end_at, session_word, end_word, words_in}
use Rattle.pd_core.specs.Counts.{total, same, first_is, pair_is, once_below}
use Rattle.pd_core.specs.Talks.{spent, numbers, readings, end_readings, ends_of, answered, asked, ended_talk, counted_ends, Heard, Spoken}
use Rattle.pd_core.specs.Views.{talk_of, spoke}
use Rattle.pd_core.specs.Good.{Fits, Good}
use Rattle.pd_core.specs.Kinds.{count_answer, load_answers, count_end, load_ends}
use Rattle.pd_core.proofs.Sums.{total_push, total-set, once_below_more, first_is-here, first_is-else, first_is-one, pair_is-here, pair_is-else, pair_is-some, times-append, times-one, same_some}
use Rattle.pd_core.proofs.Frame.{Keeps, Quiet, Alike, quiet_grows, quiet_sound, quiet_weighs, good_steps, fits_grows, switched_stays, answered_kept}
use Rattle.pd_core.specs.Counts.{one_if}
use Rattle.pd_core.proofs.Parts.{either_part}
use Rattle.pd_core.proofs.Places.{row_of, row_inside, node_inside, mark_other, summary_other}

-- A step on a word behind those of nodes and bindings
module _ (p : Layout) (ws : List ℕ) (i x : ℕ) (l : ℕ → ℕ) (far : front p + bindings p ≤ i) where
  abbrev far_words : List ℕ
  far_words = set ws i x

  quiet_far : Quiet p ws far_words
  quiet_far = record {
    bindings_same = λ b h. get_or-set_other ws i (binding_at p b) x 0 (λ e. omega arith);
    keeps = λ c n h k e. inl (mark_other p ws i x n c (λ r. omega (arith, row_inside p n (c / 64) k (row_of p c h))) ∙ e);
    comes = λ c n h k e. inl (sym (mark_other p ws i x n c (λ r. omega (arith, row_inside p n (c / 64) k h))) ∙ e);
    sums_keep = λ n r k e. summary_other ws i x n r (λ y. omega (arith, node_inside p n k)) ∙ e;
    sums_come = λ n r k e. inl (sym (summary_other ws i x n r (λ y. omega (arith, node_inside p n k))) ∙ e);
  }

  alike_spoke : (t : Talk) (v : View) → Alike v (spoke t v)
  alike_spoke t v = record { drawn_same = λ c y. refl; firsts_same = λ c. refl; disposals_same = λ c. refl; draws_same = refl; seats_same = refl; upto_same = λ kind c y. refl; misses_same = λ c y. refl; toggles_kept = refl; taken_kept = refl }

  far_fits : (t : Talk) (v : View) → 0 < v.seat_share → Fits p far_words l v → Fits p far_words l (spoke t v)
  far_fits t v seated f = record { underway = f.underway; knows = f.knows; done = f.done; waves = f.waves; ordered = f.ordered; few = f.few; idle = λ z. absurd (omega arith) }

far_steps : (p : Layout) (ws : List ℕ) (views : List View) (id i x : ℕ) (t : Talk) (v : View) (g : Good p ws views) → front p + bindings p ≤ i → get_elem? views id ≡ some v → 0 < v.seat_share
    → Spoken p (set ws i x) (set (map talk_of views) id t) → Good p (set ws i x) (set views id (spoke t v))
far_steps p ws views id i x t v g far at seated spoken =
    let q = quiet_far p ws i x g.limit far in
    let grows = quiet_grows p ws (set ws i x) g.limit q in
    good_steps p ws (set ws i x) views id v (spoke t v) g g.limit (length-set ws i x) at (quiet_sound p ws (set ws i x) g.limit q g.shape g.sound) grows (quiet_weighs p ws (set ws i x) g.limit q v (spoke t v) (alike_spoke p ws i x g.limit far t v))
    (far_fits p ws i x g.limit far t v seated (fits_grows p ws (set ws i x) g.limit g.limit v g.shape grows (g.each id v at)))
    (subst (Spoken p (set ws i x)) (sym (map-set talk_of views id (spoke t v))) spoken)
    (switched_stays p ws (set ws i x) views id v (spoke t v) g at q.bindings_same (λ kind c y. refl) (λ c y. refl)) (answered_kept views id v (spoke t v) at refl refl g.answered)

pub total_under : {A : Type 0} (f g : A → ℕ) (xs : List A) → ((j : ℕ) (u : A) → get_elem? xs j ≡ some u → f u ≤ g u) → total f xs ≤ total g xs
unfolding total
total_under f g [] h = omega arith
total_under f g (x ∷ xs) h = let here = h 0 x refl in omega (arith, total_under f g xs (λ j u e. h (suc j) u e))

spent_answered : (c s n : ℕ) (t : Talk) → spent c (answered s n t) ≡ spent c t + first_is c (s, n)
unfolding spent
spent_answered c s n t = let pushed = total_push (first_is c) t.numbers (s, n) in omega arith

numbers_answered : (c x s n : ℕ) (t : Talk) → numbers c x (answered s n t) ≡ numbers c x t + pair_is c x (s, n)
unfolding numbers
numbers_answered c x s n t = let pushed = total_push (pair_is c x) t.numbers (s, n) in omega arith

readings_asked : (c x s n : ℕ) (t : Talk) → readings c x (asked s n t) ≡ readings c x t + pair_is c x (s, n)
unfolding readings
readings_asked c x s n t = let pushed = total_push (pair_is c x) t.reads (s, n) in omega arith

end_readings_more : (x n : ℕ) (t : Talk) → end_readings x (counted_ends n t) ≡ end_readings x t + same x n
unfolding end_readings
end_readings_more x n t = omega (arith, times-append x t.end_reads (n ∷ []), times-one x n)

-- the next number fits the word
abbrev next : ℕ → ℕ
next w = (w + 1) % 2 ^ 64

module _ (p : Layout) (ws : List ℕ) (sized : length ws ≡ words_in p) where
  session_here : (s x : ℕ) → s < p.sessions → session_word p (set ws (session_at p s) x) s ≡ x
  session_here s x lt = get_or-set_same ws (session_at p s) x 0 (omega arith)

  session_else : (s c x : ℕ) → c ≢ s → session_word p (set ws (session_at p s) x) c ≡ session_word p ws c
  session_else s c x ne = get_or-set_other ws (session_at p s) (session_at p c) x 0 (λ e. ne (omega arith))

  end_same : (s x : ℕ) → s < p.sessions → end_word p (set ws (session_at p s) x) ≡ end_word p ws
  end_same s x lt = get_or-set_other ws (session_at p s) (end_at p) x 0 (λ e. omega arith)

  end_here : (x : ℕ) → end_word p (set ws (end_at p) x) ≡ x
  end_here x = get_or-set_same ws (end_at p) x 0 (omega arith)

  session_same : (c x : ℕ) → c < p.sessions → session_word p (set ws (end_at p) x) c ≡ session_word p ws c
  session_same c x lt = get_or-set_other ws (end_at p) (session_at p c) x 0 (λ e. omega arith)

  -- an answer
  spoken_answer : (ts : List Talk) (id s : ℕ) (t : Talk) → get_elem? ts id ≡ some t → s < p.sessions → spent s t < t.granted → Spoken p ws ts
      → Spoken p (set ws (session_at p s) (next (session_word p ws s))) (set ts id (answered s (session_word p ws s) t))
  unfolding readings end_readings
  spoken_answer ts id s t at lt enough g =
      let n : ℕ = session_word p ws s in
      let few : n < 2 ^ 32 = omega (arith, total_under (spent s) (λ u. u.granted) ts (λ j u e. (g.heard j u e).within s lt), g.added s lt, g.granted s lt) in
      let next_is : next n ≡ n + 1 = omega arith in
      let now : session_word p (set ws (session_at p s) (next n)) s ≡ n + 1 = session_here s (next n) lt ∙ next_is in
      let grew : (c : ℕ) → session_word p ws c ≤ session_word p (set ws (session_at p s) (next n)) c =
      λ c. dite (ℕ_discrete c s) (λ e. subst (λ (y : ℕ). session_word p ws y ≤ session_word p (set ws (session_at p s) (next n)) y) (sym e) (omega arith)) (λ ne. omega (arith, session_else s c (next n) ne)) in
      let heard : (u : Talk) → Heard p ws u → Heard p (set ws (session_at p s) (next n)) u =
      λ u h. record { within = h.within; reads = λ c m l e. omega (arith, h.reads c m l e, grew c); end_reads = λ m e. omega (arith, h.end_reads m e, end_same s (next n) lt); few_reads = h.few_reads; few_end_reads = h.few_end_reads } in
      let mine = heard t (g.heard id t at) in
      record {
        numbered = λ c x l. dite (ℕ_discrete c s)
            (λ e. subst (λ (y : ℕ). total (numbers y x) (set ts id (answered s n t)) ≡ once_below x (session_word p (set ws (session_at p s) (next n)) y)) (sym e)
            (omega (arith, total-set (numbers s x) ts id t (answered s n t) at, numbers_answered s x s n t, pair_is-here s x s n refl, g.numbered s x lt, once_below_more x n) ∙ ap (once_below x) (sym now)))
            (λ ne. omega (arith, total-set (numbers c x) ts id t (answered s n t) at, numbers_answered c x s n t, pair_is-else c x s n ne) ∙ (g.numbered c x l ∙ ap (once_below x) (sym (session_else s c (next n) ne))));
        added = λ c l. dite (ℕ_discrete c s)
            (λ e. subst (λ (y : ℕ). total (spent y) (set ts id (answered s n t)) ≡ session_word p (set ws (session_at p s) (next n)) y) (sym e) (omega (arith, total-set (spent s) ts id t (answered s n t) at, spent_answered s s n t, first_is-here s s n refl, g.added s lt)))
            (λ ne. omega (arith, total-set (spent c) ts id t (answered s n t) at, spent_answered c s n t, first_is-else c s n ne, g.added c l, session_else s c (next n) ne));
        granted = λ c l. omega (arith, total-set (λ (u : Talk). u.granted) ts id t (answered s n t) at, g.granted c l);
        ends = omega (arith, total-set ends_of ts id t (answered s n t) at, g.ends, end_same s (next n) lt);
        end_granted = omega (arith, total-set (λ (u : Talk). u.end_granted) ts id t (answered s n t) at, g.end_granted, end_same s (next n) lt);
        heard = λ j u e. ⊎_elim
            (λ (c : (j ≡ id) × (answered s n t ≡ u)). subst (Heard p (set ws (session_at p s) (next n))) c.1
            record {
              within = λ c l. dite (ℕ_discrete c s) (λ e. omega (arith, spent_answered c s n t, first_is-one c s n, ap (λ y. spent y t) e)) (λ ne. omega (arith, spent_answered c s n t, first_is-else c s n ne, mine.within c l));
              reads = mine.reads;
              end_reads = mine.end_reads;
              few_reads = mine.few_reads;
              few_end_reads = mine.few_end_reads;
            })
            (λ (c : (j ≢ id) × (get_elem? ts j ≡ some u)). heard u (g.heard j u c.1)) (at_set ts id j (answered s n t) u e);
      }

pub answers : (p : Layout) (s : ℕ) → Keeps p (count_answer s)
answers p s h id v g at seated may =
    far_steps p h.words h.views id (session_at p s) (next (session_word p h.words s)) (answered s (session_word p h.words s) v.talk) v g (omega arith) at seated
    (spoken_answer p h.words g.sized (map talk_of h.views) id s v.talk (at_map talk_of h.views id v at) may.0 (omega (arith, may.1)) g.spoken)

spent_kept : (c : ℕ) (t u : Talk) → u.numbers ≡ t.numbers → u.handed ≡ t.handed → spent c u ≡ spent c t
unfolding spent
spent_kept c t u e f = λ i. total (first_is c) (e i) + total (first_is c) (f i)

numbers_kept : (c x : ℕ) (t u : Talk) → u.numbers ≡ t.numbers → u.handed ≡ t.handed → numbers c x u ≡ numbers c x t
unfolding numbers
numbers_kept c x t u e f = λ i. total (pair_is c x) (e i) + total (pair_is c x) (f i)

-- A step that leaves the sessions' words and the talk's numbers as they are: what it owes
spoken_same_numbers : (p : Layout) (ws ws' : List ℕ) (ts : List Talk) (id : ℕ) (t u : Talk) → get_elem? ts id ≡ some t → u.numbers ≡ t.numbers → u.handed ≡ t.handed → u.granted ≡ t.granted
    → ((c : ℕ) → c < p.sessions → session_word p ws' c ≡ session_word p ws c) → end_word p ws ≤ end_word p ws'
    → ends_of u + end_word p ws ≡ ends_of t + end_word p ws' → u.end_granted + end_word p ws' ≤ t.end_granted + end_word p ws
    → (Heard p ws' t → Heard p ws' u) → Spoken p ws ts → Spoken p ws' (set ts id u)
spoken_same_numbers p ws ws' ts id t u at e f gr words ends ended granted mine g =
    let heard : (y : Talk) → Heard p ws y → Heard p ws' y =
    λ y h. record { within = h.within; reads = λ c m l r. omega (arith, h.reads c m l r, words c l); end_reads = λ m r. omega (arith, h.end_reads m r); few_reads = h.few_reads; few_end_reads = h.few_end_reads } in
    record {
      numbered = λ c x l. omega (arith, total-set (numbers c x) ts id t u at, numbers_kept c x t u e f) ∙ (g.numbered c x l ∙ ap (once_below x) (sym (words c l)));
      added = λ c l. omega (arith, total-set (spent c) ts id t u at, spent_kept c t u e f, g.added c l, words c l);
      granted = λ c l. omega (arith, total-set (λ (y : Talk). y.granted) ts id t u at, g.granted c l);
      ends = omega (arith, total-set ends_of ts id t u at, g.ends);
      end_granted = omega (arith, total-set (λ (y : Talk). y.end_granted) ts id t u at, g.end_granted);
      heard = λ j y r. ⊎_elim (λ (c : (j ≡ id) × (u ≡ y)). subst (Heard p ws') c.1 (mine (heard t (g.heard id t at)))) (λ (c : (j ≢ id) × (get_elem? ts j ≡ some y)). heard y (g.heard j y c.1)) (at_set ts id j u y r);
    }

pub asks : (p : Layout) (s : ℕ) → Keeps p (load_answers s)
unfolding readings end_readings
asks p s h id v g at seated may =
    let n : ℕ = session_word p h.words s in
    let t : Talk = v.talk in
    let ws : List ℕ = set h.words (session_at p s) n in
    let words : (c : ℕ) → c < p.sessions → session_word p ws c ≡ session_word p h.words c =
    λ c l. dite (ℕ_discrete c s) (λ e. subst (λ (y : ℕ). session_word p ws y ≡ session_word p h.words y) (sym e) (session_here p h.words g.sized s n may.0)) (λ ne. session_else p h.words g.sized s c n ne) in
    let end : end_word p ws ≡ end_word p h.words = end_same p h.words g.sized s n may.0 in
    far_steps p h.words h.views id (session_at p s) n (asked s n t) v g (omega arith) at seated
    (spoken_same_numbers p h.words ws (map talk_of h.views) id t (asked s n t) (at_map talk_of h.views id v at) refl refl refl words (omega arith) (omega arith) (omega arith)
    (λ m. record {
      within = λ c l. omega (arith, m.within c l, spent_kept c t (asked s n t) refl refl);
      reads = λ c y l r. either_part (readings c y t) (pair_is c y (s, n)) (readings c y (asked s n t)) r (readings_asked c y s n t) (λ was. m.reads c y l was)
          (λ new. let e = pair_is-some c y s n new in omega (arith, e.1, ap (session_word p ws) e.0, words s may.0));
      end_reads = m.end_reads;
      few_reads = λ c l. dite (ℕ_discrete c s) (λ e. subst (λ (y : ℕ). total (first_is y) (t.reads ++ (s, n) ∷ []) < 2 ^ 32) (sym e) (omega (arith, total_push (first_is s) t.reads (s, n), may.2, first_is-one s s n))) (λ ne. omega (arith, total_push (first_is c) t.reads (s, n), first_is-else c s n ne, m.few_reads c l));
      few_end_reads = m.few_end_reads;
    }) g.spoken)

ended_one : (t : Talk) → t.ended ≡ false → ends_of (ended_talk t) ≡ ends_of t + 1
ended_one t e = let none : one_if t.ended ≡ 0 = ap one_if e in omega arith

pub finishes : (p : Layout) → Keeps p count_end
unfolding readings end_readings
finishes p h id v g at seated may =
    let n : ℕ = end_word p h.words in
    let t : Talk = v.talk in
    let next_is : next n ≡ n + 1 = omega (arith, g.spoken.end_granted) in
    let ws : List ℕ = set h.words (end_at p) (next n) in
    let end : end_word p ws ≡ n + 1 = end_here p h.words g.sized (next n) ∙ next_is in
    far_steps p h.words h.views id (end_at p) (next n) (ended_talk t) v g (omega arith) at seated
    (spoken_same_numbers p h.words ws (map talk_of h.views) id t (ended_talk t) (at_map talk_of h.views id v at) refl refl refl (λ c l. session_same p h.words g.sized c (next n) l) (omega arith) (omega (arith, ended_one t may.1.0)) (omega (arith, may.1.1))
    (λ m. record { within = λ c l. omega (arith, m.within c l, spent_kept c t (ended_talk t) refl refl); reads = m.reads; end_reads = m.end_reads; few_reads = m.few_reads; few_end_reads = m.few_end_reads }) g.spoken)

pub tallies : (p : Layout) → Keeps p load_ends
unfolding readings end_readings
tallies p h id v g at seated may =
    let n : ℕ = end_word p h.words in
    let t : Talk = v.talk in
    let ws : List ℕ = set h.words (end_at p) n in
    let end : end_word p ws ≡ n = end_here p h.words g.sized n in
    far_steps p h.words h.views id (end_at p) n (counted_ends n t) v g (omega arith) at seated
    (spoken_same_numbers p h.words ws (map talk_of h.views) id t (counted_ends n t) (at_map talk_of h.views id v at) refl refl refl (λ c l. session_same p h.words g.sized c n l) (omega arith) (omega arith) (omega arith)
    (λ m. record {
      within = λ c l. omega (arith, m.within c l, spent_kept c t (counted_ends n t) refl refl);
      reads = m.reads;
      end_reads = λ y r. either_part (end_readings y t) (same y n) (end_readings y (counted_ends n t)) r (end_readings_more y n t) (λ was. m.end_reads y was) (λ new. let e : y ≡ n = same_some y n new in omega arith);
      few_reads = m.few_reads;
      few_end_reads = omega (arith, length-append t.end_reads (n ∷ []), may.2);
    }) g.spoken)
