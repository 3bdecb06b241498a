-- The lists of a seat that takes another in.
use Rattle.std.proofs.Common.{◌≡◌, ◌≢◌, ℕ, ◌+◌, ◌<◌, ◌≤◌, ◌^◌, max, List, ◌++◌, length, length-set, slice_set, Bool, true, false, eqb, sym, refl, ap, ◌∙◌, subst, arith, ⊎_elim, get_or-set_other}
use Rattle.std.specs.Prelude.{slice_index_or}
use Rattle.std.proofs.lemmas.Grind.{get_or-set_at}
use Rattle.pd_board.proofs.ChainLemmas.{by_eq, by_lt}
use Rattle.pd_board.specs.declared.answers.Known.{Known}
use Rattle.pd_board.specs.declared.answers.Known.TheVariants as knowns
use Rattle.pd_core.specs.declared.view.View.{View}
use Rattle.pd_core.specs.declared.view.Talk.{Talk}
use Rattle.pd_core.specs.Layout.{Layout}
use Rattle.pd_core.specs.Counts.{times, first_is, pair_is}
use Rattle.pd_core.specs.Talks.{spent, answer_share, readings, end_readings, joined_talk}
use Rattle.pd_core.specs.Views.{Known as Found_as, fresh, found_attached, found_disposed, known, joined}
use Rattle.pd_core.proofs.Sums.{total-append, times-append}
use Rattle.pd_core.proofs.Waves.{known_fresh, known_attached, known_disposed, is_attached, is_disposed, same_known}
use Rattle.pd_core.proofs.Attaches.{both}
use Rattle.pd_shared.specs.declared.token.Reads.{Reads}
use Rattle.pd_shared.specs.Book.{Book, known_at, reads_at, unread}
use Rattle.pd_shared.specs.Tied.{told, none_taken, AreReads, IsTied}
use Rattle.pd_shared.specs.Merged.{later, with_last, IsMerged}
use Rattle.pd_shared.proofs.HeldLemmas.{joined_taken, greater_is}

pub merged_start : {A : Type 0} (f : A → A → A) (d : A) (own other : List A) → IsMerged f d 0 own other own
merged_start f d own other = record { lengths = refl; below = λ i h. absurd (omega arith); above = λ i h. refl }

pub merged_next : {A : Type 0} (f : A → A → A) (d : A) (k : ℕ) (own other now : List A) (x : A) → k < length own → IsMerged f d k own other now → x ≡ f (slice_index_or now k d) (slice_index_or other k d) → IsMerged f d (k + 1) own other (slice_set now k x)
merged_next f d k own other now x lt m is =
    let within : k < length now = omega (arith, m.lengths) in
    record {
      lengths = length-set now k x ∙ m.lengths;
      below = λ i h. by_eq i k
          (λ (e : i ≡ k). get_or-set_at now k i x d e within ∙ (is ∙ (ap (λ y. f y (slice_index_or other k d)) (m.above k (omega arith)) ∙ ap (λ (j : ℕ). f (slice_index_or own j d) (slice_index_or other j d)) (sym e))))
          (λ (ne : i ≢ k). get_or-set_other now k i x d ne ∙ m.below i (omega arith));
      above = λ i h. let ne : i ≢ k = (λ e. omega arith) in get_or-set_other now k i x d ne ∙ m.above i (omega arith);
    }

-- ---- what is known

module _ (v w : View) (b : ℕ) where
  gone_sum : times b (joined v w).found_disposed ≡ times b v.found_disposed + times b w.found_disposed
  gone_sum = times-append b v.found_disposed w.found_disposed

  on_sum : times b (joined v w).found_attached ≡ times b v.found_attached + times b w.found_attached
  on_sum = times-append b v.found_attached w.found_attached

  attached_case : known v b ≡ found_attached → (k : Found_as) → known w b ≡ k → later (told found_attached) (told k) ≡ told (known (joined v w) b)
  attached_case e found_disposed q = ap told (sym (is_disposed (joined v w) b (omega (arith, gone_sum, known_disposed w b q))))
  attached_case e found_attached q = let x = known_attached v b e in let y = known_attached w b q in ap told (sym (is_attached (joined v w) b (omega (arith, gone_sum, x.0, y.0)) (omega (arith, on_sum, x.1))))
  attached_case e fresh q = let x = known_attached v b e in let y = known_fresh w b q in ap told (sym (is_attached (joined v w) b (omega (arith, gone_sum, x.0, y.0)) (omega (arith, on_sum, x.1))))

  by_own : (k : Found_as) → known v b ≡ k → later (told k) (told (known w b)) ≡ told (known (joined v w) b)
  by_own found_disposed e = ap told (sym (is_disposed (joined v w) b (omega (arith, gone_sum, known_disposed v b e))))
  by_own fresh e = let x = known_fresh v b e in ap told (sym (same_known w (joined v w) b (omega (arith, gone_sum, x.0)) (omega (arith, on_sum, x.1))))
  by_own found_attached e = attached_case e (known w b) refl

  known_joined : later (told (known v b)) (told (known w b)) ≡ told (known (joined v w) b)
  known_joined = by_own (known v b) refl

-- ---- what was read

reading_joined : (s x : ℕ) (t u : Talk) → readings s x (joined_talk t u) ≡ readings s x t + readings s x u
unfolding readings
reading_joined s x t u = omega (arith, total-append (pair_is s x) (t.handed_reads ++ u.handed_reads) u.reads, total-append (pair_is s x) t.handed_reads u.handed_reads)

end_reading_joined : (x : ℕ) (t u : Talk) → end_readings x (joined_talk t u) ≡ end_readings x t + end_readings x u
unfolding end_readings
end_reading_joined x t u = omega (arith, times-append x (t.handed_end_reads ++ u.handed_end_reads) u.end_reads, times-append x t.handed_end_reads u.handed_end_reads)

spent_joined : (s : ℕ) (t u : Talk) → spent s (joined_talk t u) ≡ spent s t + spent s u
unfolding spent
spent_joined s t u = omega (arith, total-append (first_is s) (t.handed ++ u.handed) u.numbers, total-append (first_is s) t.handed u.handed)

pub share_joined : (s : ℕ) (t u : Talk) → spent s t ≤ t.granted → spent s u ≤ u.granted → answer_share s (joined_talk t u) ≡ answer_share s t + answer_share s u
share_joined s t u mine theirs = omega (arith, spent_joined s t u)

greater_read : (m n : ℕ) (f g h : ℕ → ℕ) → ((x : ℕ) → h x ≡ f x + g x) → (0 < m → 0 < f m) → (0 < n → 0 < g n) → 0 < max m n → 0 < h (max m n)
greater_read m n f g h sum mine theirs some = ⊎_elim
    (λ (e : max m n ≡ m). subst (λ (k : ℕ). 0 < h k) (sym e) (let here = mine (subst (λ (k : ℕ). 0 < k) e some) in omega (arith, sum m)))
    (λ (e : max m n ≡ n). subst (λ (k : ℕ). 0 < h k) (sym e) (let here = theirs (subst (λ (k : ℕ). 0 < k) e some) in omega (arith, sum n)))
    (greater_is m n)

reads_joined : (p : Layout) (t u : Talk) (ended gone : Bool) (xs ys now : List Reads) (a b : Reads) → IsMerged with_last unread (length xs) xs ys now → AreReads p t ended xs a → AreReads p u gone ys b → AreReads p (joined_talk t u) ended now (with_last a b)
reads_joined p t u ended gone xs ys now a b m r q =
    let at : (s : ℕ) → s < p.sessions → reads_at now s ≡ with_last (reads_at xs s) (reads_at ys s) = λ s lt. m.below s (omega (arith, r.sessions_are)) in
    record {
      ended_is = r.ended_is;
      sessions_are = m.lengths ∙ r.sessions_are;
      within = λ s lt. let mine = r.within s lt in let theirs = q.within s lt in omega (arith, spent_joined s t u);
      loads = λ s lt. r.loads s lt ∙ sym (ap (λ (x : Reads). x.loads) (at s lt));
      last = λ s lt some. let is = ap (λ (x : Reads). x.last) (at s lt) in
          subst (λ (x : ℕ). 0 < readings s x (joined_talk t u)) (sym is)
          (greater_read (reads_at xs s).last (reads_at ys s).last (λ x. readings s x t) (λ x. readings s x u) (λ x. readings s x (joined_talk t u)) (λ x. reading_joined s x t u) (r.last s lt) (q.last s lt) (subst (λ (x : ℕ). 0 < x) is some));
      end_loads = r.end_loads;
      last_end = λ some. greater_read a.last b.last (λ x. end_readings x t) (λ x. end_readings x u) (λ x. end_readings x (joined_talk t u)) (λ x. end_reading_joined x t u) r.last_end q.last_end some;
    }

-- ---- all

pub tied_joined : (p : Layout) (v w : View) (k o : Book) (ks : List Known) (ss : List Reads) → IsTied p v k → IsTied p w o → IsMerged later knowns.Fresh (length k.known) k.known o.known ks → IsMerged with_last unread (length k.sessions) k.sessions o.sessions ss → IsTied p (joined v w) (record k { known = ks; sessions = ss; ends = with_last k.ends o.ends })
tied_joined p v w k o ks ss t u m n = record {
  idle = t.idle;
  known_is = (m.lengths ∙ t.known_is.0, λ b lt. m.below b (omega (arith, t.known_is.0)) ∙ ((λ i. later (t.known_is.1 b lt i) (u.known_is.1 b lt i)) ∙ known_joined v w b));
  deeds = t.deeds;
  reads = reads_joined p v.talk w.talk k.ended o.ended k.sessions o.sessions ss k.ends o.ends n t.reads u.reads;
  all_loads = t.all_loads;
  cleared = t.cleared;
  alone = λ a b gone. absurd (let q : false ≡ true = sym (joined_taken v w) ∙ (both (eqb (joined v w).seat_share (2 ^ 32)) (none_taken (joined v w).taken) a).1 in cc);
  gone = λ b h. let was = t.gone b h in by_lt b (length k.known)
      (λ (lt : b < length k.known). m.below b lt ∙ ap (λ (x : Known). later x (known_at o.known b)) was)
      (λ (past : length k.known ≤ b). m.above b past ∙ was);
  loads = t.loads;
}

pub merged_all : {A : Type 0} (f : A → A → A) (d : A) (k : ℕ) (own other now : List A) → k ≡ length own → IsMerged f d k own other now → IsMerged f d (length own) own other now
merged_all f d k own other now e m = subst (λ (n : ℕ). IsMerged f d n own other now) e m
