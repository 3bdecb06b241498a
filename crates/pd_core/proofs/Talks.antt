-- The talk of a split and of a join, and of the opening state.
use Rattle.std.proofs.Common.{◌≡◌, ◌≢◌, ℕ, zero, suc, ◌+◌, ◌<◌, ◌≤◌, List, [], ◌∷◌, ◌++◌, set, sym, refl, ap, ◌∙◌, subst, ⊎_elim, arith}
use mathlib.Core.Option.{some, some-injective, some-ne-none}
use lib.ListN.{get_elem?}
use Rattle.atomic_table.proofs.Lists.{at_set, at_snoc}
use Rattle.pd_core.specs.declared.view.Talk.{Talk}
use Rattle.pd_core.specs.Layout.{Layout, session_word, end_word}
use Rattle.pd_core.specs.Counts.{total, times, first_is, pair_is, once_below}
use Rattle.pd_core.specs.Talks.{spent, numbers, readings, end_readings, ends_of, silent, first_talk, handed_answers, halved_talk, new_talk, joined_talk, Heard, Spoken}
use Rattle.pd_core.proofs.Sums.{total-none, total-append, total_push, total-set, times-append, once_below_none}
use Rattle.pd_core.proofs.Parts.{either_part}

spent_halved : (s : ℕ) (t : Talk) → spent s (halved_talk t) ≡ spent s t
unfolding spent
spent_halved s t = refl

spent_new : (s : ℕ) → spent s new_talk ≡ 0
unfolding spent total
spent_new s = refl

pub spent_silent : (s : ℕ) → spent s silent ≡ 0
unfolding spent total
spent_silent s = refl

pub spent_first : (s : ℕ) → spent s first_talk ≡ 0
unfolding spent total
spent_first s = refl

spent_joined : (s : ℕ) (t u : Talk) → spent s (joined_talk t u) ≡ spent s t + spent s u
unfolding spent
spent_joined s t u = omega (arith, total-append (first_is s) (t.handed ++ u.handed) u.numbers, total-append (first_is s) t.handed u.handed)

numbers_halved : (s x : ℕ) (t : Talk) → numbers s x (halved_talk t) ≡ numbers s x t
unfolding numbers
numbers_halved s x t = refl

numbers_new : (s x : ℕ) → numbers s x new_talk ≡ 0
unfolding numbers total
numbers_new s x = refl

pub numbers_silent : (s x : ℕ) → numbers s x silent ≡ 0
unfolding numbers total
numbers_silent s x = refl

pub numbers_first : (s x : ℕ) → numbers s x first_talk ≡ 0
unfolding numbers total
numbers_first s x = refl

numbers_joined : (s x : ℕ) (t u : Talk) → numbers s x (joined_talk t u) ≡ numbers s x t + numbers s x u
unfolding numbers
numbers_joined s x t u = omega (arith, total-append (pair_is s x) (t.handed ++ u.handed) u.numbers, total-append (pair_is s x) t.handed u.handed)

readings_none : (s x : ℕ) → readings s x silent ≡ 0
unfolding readings total
readings_none s x = refl

readings_new : (s x : ℕ) → readings s x new_talk ≡ 0
unfolding readings total
readings_new s x = refl

readings_first : (s x : ℕ) → readings s x first_talk ≡ 0
unfolding readings total
readings_first s x = refl

end_readings_none : (x : ℕ) → end_readings x silent ≡ 0
unfolding end_readings times total
end_readings_none x = refl

end_readings_new : (x : ℕ) → end_readings x new_talk ≡ 0
unfolding end_readings times total
end_readings_new x = refl

end_readings_first : (x : ℕ) → end_readings x first_talk ≡ 0
unfolding end_readings times total
end_readings_first x = refl

readings_halved : (s x : ℕ) (t : Talk) → readings s x (halved_talk t) ≡ readings s x t
unfolding readings
readings_halved s x t = refl

end_readings_halved : (x : ℕ) (t : Talk) → end_readings x (halved_talk t) ≡ end_readings x t
unfolding end_readings
end_readings_halved x t = refl

readings_joined : (s x : ℕ) (t u : Talk) → readings s x (joined_talk t u) ≡ readings s x t + readings s x u
unfolding readings
readings_joined s x t u = omega (arith, total-append (pair_is s x) (t.handed_reads ++ u.handed_reads) u.reads, total-append (pair_is s x) t.handed_reads u.handed_reads)

end_readings_joined : (x : ℕ) (t u : Talk) → end_readings x (joined_talk t u) ≡ end_readings x t + end_readings x u
unfolding end_readings
end_readings_joined x t u = omega (arith, times-append x (t.handed_end_reads ++ u.handed_end_reads) u.end_reads, times-append x t.handed_end_reads u.handed_end_reads)

module _ (p : Layout) (ws : List ℕ) where
  heard_silent : Heard p ws silent
  heard_silent = record { within = λ s l. omega (arith, spent_silent s); reads = λ s n lt e. absurd (omega (arith, readings_none s n)); end_reads = λ n e. absurd (omega (arith, end_readings_none n)); few_reads = λ s l. omega (arith, total-none (first_is s)); few_end_reads = omega arith }

  heard_new : Heard p ws new_talk
  heard_new = record { within = λ s l. omega (arith, spent_new s); reads = λ s n lt e. absurd (omega (arith, readings_new s n)); end_reads = λ n e. absurd (omega (arith, end_readings_new n)); few_reads = λ s l. omega (arith, total-none (first_is s)); few_end_reads = omega arith }

  pub heard_first : Heard p ws first_talk
  heard_first = record { within = λ s l. omega (arith, spent_first s); reads = λ s n lt e. absurd (omega (arith, readings_first s n)); end_reads = λ n e. absurd (omega (arith, end_readings_first n)); few_reads = λ s l. omega (arith, total-none (first_is s)); few_end_reads = omega arith }

  -- weights after a split and after a join of talks
  split_total : (f : Talk → ℕ) (ts : List Talk) (id : ℕ) (t : Talk) → get_elem? ts id ≡ some t → f (halved_talk t) + f new_talk ≡ f t → total f (set ts id (halved_talk t) ++ new_talk ∷ []) ≡ total f ts
  split_total f ts id t at e = omega (arith, total_push f (set ts id (halved_talk t)) new_talk, total-set f ts id t (halved_talk t) at)

  join_total : (f : Talk → ℕ) (ts : List Talk) (id other : ℕ) (t u : Talk) → get_elem? ts id ≡ some t → get_elem? (set ts id (joined_talk t u)) other ≡ some u → f (joined_talk t u) + f silent ≡ f t + f u → total f (set (set ts id (joined_talk t u)) other silent) ≡ total f ts
  join_total f ts id other t u at there e = omega (arith, total-set f (set ts id (joined_talk t u)) other u silent there, total-set f ts id t (joined_talk t u) at)

  pub spoken_split : (ts : List Talk) (id : ℕ) (t : Talk) → get_elem? ts id ≡ some t → ((s : ℕ) → s < p.sessions → spent s t + handed_answers ≤ t.granted) → 1 ≤ t.end_granted → Spoken p ws ts → Spoken p ws (set ts id (halved_talk t) ++ new_talk ∷ [])
  spoken_split ts id t at enough one g = record {
    numbered = λ s x lt. split_total (numbers s x) ts id t at (omega (arith, numbers_halved s x t, numbers_new s x)) ∙ g.numbered s x lt;
    added = λ s lt. split_total (spent s) ts id t at (omega (arith, spent_halved s t, spent_new s)) ∙ g.added s lt;
    granted = λ c l. omega (arith, split_total (λ (u : Talk). u.granted) ts id t at (let e = enough c l in omega arith), g.granted c l);
    ends = split_total ends_of ts id t at (omega arith) ∙ g.ends;
    end_granted = omega (arith, split_total (λ (u : Talk). u.end_granted) ts id t at (omega arith), g.end_granted);
    heard = λ j u e. let mine = g.heard id t at in ⊎_elim
        (λ was. ⊎_elim (λ (c : (j ≡ id) × (halved_talk t ≡ u)). subst (Heard p ws) c.1 record { within = λ s l. omega (arith, spent_halved s t, enough s l); reads = λ s n l k. mine.reads s n l (omega (arith, readings_halved s n t)); end_reads = λ n k. mine.end_reads n (omega (arith, end_readings_halved n t)); few_reads = mine.few_reads; few_end_reads = mine.few_end_reads })
        (λ (c : (j ≢ id) × (get_elem? ts j ≡ some u)). g.heard j u c.1) (at_set ts id j (halved_talk t) u was))
        (λ (new : new_talk ≡ u). subst (Heard p ws) new heard_new) (at_snoc (set ts id (halved_talk t)) new_talk u j e);
  }

  pub spoken_join : (ts : List Talk) (id other : ℕ) (t u : Talk) → get_elem? ts id ≡ some t → get_elem? ts other ≡ some u → get_elem? (set ts id (joined_talk t u)) other ≡ some u → Spoken p ws ts → Spoken p ws (set (set ts id (joined_talk t u)) other silent)
  spoken_join ts id other t u at here there g = record {
    numbered = λ s x lt. join_total (numbers s x) ts id other t u at there (omega (arith, numbers_joined s x t u, numbers_silent s x)) ∙ g.numbered s x lt;
    added = λ s lt. join_total (spent s) ts id other t u at there (omega (arith, spent_joined s t u, spent_silent s)) ∙ g.added s lt;
    granted = λ c l. omega (arith, join_total (λ (y : Talk). y.granted) ts id other t u at there (omega arith), g.granted c l);
    ends = join_total ends_of ts id other t u at there (omega arith) ∙ g.ends;
    end_granted = omega (arith, join_total (λ (y : Talk). y.end_granted) ts id other t u at there (omega arith), g.end_granted);
    heard = λ j y e. let mine = g.heard id t at in let theirs = g.heard other u here in ⊎_elim
        (λ (c : (j ≡ other) × (silent ≡ y)). subst (Heard p ws) c.1 heard_silent)
        (λ (c : (j ≢ other) × (get_elem? (set ts id (joined_talk t u)) j ≡ some y)). ⊎_elim
        (λ (d : (j ≡ id) × (joined_talk t u ≡ y)). subst (Heard p ws) d.1 record { within = λ s l. omega (arith, spent_joined s t u, mine.within s l, theirs.within s l); reads = λ s n l k. either_part (readings s n t) (readings s n u) (readings s n (joined_talk t u)) k (readings_joined s n t u) (λ was. mine.reads s n l was) (λ was. theirs.reads s n l was); end_reads = λ n k. either_part (end_readings n t) (end_readings n u) (end_readings n (joined_talk t u)) k (end_readings_joined n t u) (λ was. mine.end_reads n was) (λ was. theirs.end_reads n was); few_reads = mine.few_reads; few_end_reads = mine.few_end_reads })
        (λ (d : (j ≢ id) × (get_elem? ts j ≡ some y)). g.heard j y d.1) (at_set ts id j (joined_talk t u) y c.1))
        (at_set (set ts id (joined_talk t u)) other j silent y e);
  }

  pub spoken_opens : ((s : ℕ) → session_word p ws s ≡ 0) → end_word p ws ≡ 0 → Spoken p ws (first_talk ∷ [])
  unfolding total
  spoken_opens none no_end = record {
    numbered = λ s x lt. omega (arith, numbers_first s x, once_below_none x, ap (once_below x) (none s));
    added = λ s lt. omega (arith, spent_first s, none s);
    granted = λ c l. omega arith;
    ends = sym no_end;
    end_granted = omega arith;
    heard = one;
  }
    where
      one : (j : ℕ) (t : Talk) → get_elem? (first_talk ∷ []) j ≡ some t → Heard p ws t
      one zero t e = subst (Heard p ws) (some-injective first_talk t e) heard_first
      one (suc j) t e = absurd (some-ne-none t (sym e))
