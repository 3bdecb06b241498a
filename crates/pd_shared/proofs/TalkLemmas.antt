-- What the steps on the words of sessions and of ended contexts leave.
use Rattle.std.proofs.Common.{◌≡◌, ◌≢◌, ℕ, zero, suc, ◌+◌, ◌<◌, ◌≤◌, ◌^◌, List, [], ◌∷◌, ◌++◌, map, length, length-set, length-append, slice_set, Bool, true, false, if◌then◌else◌, ◌==◌, Some, None, sym, refl, ap, ◌∙◌, subst, arith, eq-eqb, ne_eqb, get_or-set_other, append-nil}
use Rattle.std.proofs.lemmas.Grind.{get_or-set_at}
use Rattle.std.proofs.lemmas.List.Elements.{All-cons, All-nil, filter_map-append}
use Rattle.std.specs.List.{All, filter_map, cons_option}
use Rattle.atomic_table.proofs.Lists.{at_map}
use Rattle.pd_board.proofs.ChainLemmas.{by_eq}
use Rattle.pd_core.specs.declared.view.View.{View}
use Rattle.pd_core.specs.declared.view.Talk.{Talk}
use Rattle.pd_core.specs.Layout.{Layout, session_word}
use Rattle.pd_core.specs.Counts.{total, first_is, pair_is}
use Rattle.pd_core.specs.Talks.{spent, numbers, readings, end_readings, answer_share, answered, asked, ended_talk, counted_ends}
use Rattle.pd_core.specs.Views.{talk_of, noted, spoke}
use Rattle.pd_core.specs.Kinds.{Found, count_answer, load_answers, load_ends}
use Rattle.pd_core.proofs.Sums.{total_push, total-at, once_below_some, first_is-here, first_is-else, pair_is-here, same_here, times_here}
use Rattle.pd_core.proofs.Attaches.{eqb_is}
use Rattle.pd_core.proofs.Facts.{answers_rise, ends_rise, session_fits, end_fits}
use Rattle.pd_shared.specs.declared.token.Reads.{Reads}
use Rattle.pd_shared.specs.Book.{Book, reads_at, unread}
use Rattle.pd_shared.specs.Tied.{AreReads, IsTied}
use Rattle.pd_shared.specs.Sitting.{number_for}

-- ---- an answer

cons_below : (n : ℕ) (t : Bool) (x : ℕ) (xs : List ℕ) → (t ≡ true → x < n) → All (λ y. y < n) xs → All (λ y. y < n) (cons_option (if t then Some x else None) xs)
cons_below n true x xs h all = All-cons (λ y. y < n) x xs (h refl) all
cons_below n false x xs h all = all

numbers_below : (s n : ℕ) (ps : List (ℕ × ℕ)) → ((x : ℕ) → 0 < total (pair_is s x) ps → x < n) → All (λ x. x < n) (filter_map (number_for s) ps)
unfolding total
numbers_below s n [] h = All-nil (λ x. x < n)
numbers_below s n (q ∷ qs) h = cons_below n (q.0 == s) q.1 (filter_map (number_for s) qs)
    (λ e. h q.1 (omega (arith, pair_is-here s q.1 q.0 q.1 (sym (eqb_is q.0 s e)), same_here q.1 q.1 refl)))
    (numbers_below s n qs (λ x lt. h x (omega arith)))

own_numbers : (s x : ℕ) (t : Talk) → total (pair_is s x) t.numbers ≤ numbers s x t
unfolding numbers
own_numbers s x t = omega arith

pub answer_above : (p : Layout) (s n : ℕ) (v : View) → s < p.sessions → Found p (count_answer s) v n → All (λ x. x < n) (filter_map (number_for s) v.talk.numbers)
answer_above p s n v lt f = numbers_below s n v.talk.numbers
    (λ x h. subst (λ (k : ℕ). x < k) f.3 (once_below_some x (session_word p f.0.words s)
    (omega (arith, own_numbers s x v.talk, total-at (numbers s x) (map talk_of f.0.views) f.2.0 v.talk (at_map talk_of f.0.views f.2.0 v f.2.1), f.1.spoken.numbered s x lt))))

pub answer_number : (s n : ℕ) (t : Talk) → filter_map (number_for s) (answered s n t).numbers ≡ filter_map (number_for s) t.numbers ++ n ∷ []
answer_number s n t = filter_map-append (number_for s) t.numbers ((s, n) ∷ []) ∙ ap (λ (b : Bool). filter_map (number_for s) t.numbers ++ cons_option (if b then Some n else None) []) (eq-eqb s s refl)

pub answer_other : (s n r : ℕ) (t : Talk) → (r == s) ≡ false → filter_map (number_for r) (answered s n t).numbers ≡ filter_map (number_for r) t.numbers
answer_other s n r t other = filter_map-append (number_for r) t.numbers ((s, n) ∷ [])
    ∙ (ap (λ (b : Bool). filter_map (number_for r) t.numbers ++ cons_option (if b then Some n else None) []) (ne_eqb s r (λ e. absurd (let same : (r == s) ≡ true = eq-eqb r s (sym e) in cc))) ∙ append-nil (filter_map (number_for r) t.numbers))

spent_more : (s n r : ℕ) (t : Talk) → spent r (answered s n t) ≡ spent r t + first_is r (s, n)
unfolding spent
spent_more s n r t = omega (arith, total_push (first_is r) t.numbers (s, n))

pub share_less : (s n r : ℕ) (t : Talk) → 0 < answer_share s t → answer_share r (answered s n t) + (if r == s then 1 else 0) ≡ answer_share r t
share_less s n r t left = by_eq r s
    (λ (e : r ≡ s). ap (λ (b : Bool). answer_share r (answered s n t) + (if b then 1 else 0)) (eq-eqb r s e) ∙ (let some : 0 < answer_share r t = subst (λ (k : ℕ). 0 < answer_share k t) (sym e) left in omega (arith, spent_more s n r t, first_is-here r s n e)))
    (λ (ne : r ≢ s). ap (λ (b : Bool). answer_share r (answered s n t) + (if b then 1 else 0)) (ne_eqb r s ne) ∙ omega (arith, spent_more s n r t, first_is-else r s n ne))

reads_answered : (p : Layout) (s n : ℕ) (t : Talk) (ended : Bool) (words : List Reads) (ends : Reads) → 0 < answer_share s t → AreReads p t ended words ends → AreReads p (answered s n t) ended words ends
unfolding readings end_readings
reads_answered p s n t ended words ends left r = record {
  ended_is = r.ended_is;
  sessions_are = r.sessions_are;
  within = λ k lt. by_eq k s
      (λ (e : k ≡ s). let was = r.within k lt in let some : 0 < answer_share k t = subst (λ (i : ℕ). 0 < answer_share i t) (sym e) left in omega (arith, spent_more s n k t, first_is-here k s n e))
      (λ (ne : k ≢ s). let was = r.within k lt in omega (arith, spent_more s n k t, first_is-else k s n ne));
  loads = r.loads;
  last = r.last;
  end_loads = r.end_loads;
  last_end = r.last_end;
}

-- ---- a read of a session's word

reading_here : (s n : ℕ) (t : Talk) → 0 < readings s n (asked s n t)
unfolding readings
reading_here s n t = omega (arith, total_push (pair_is s n) t.reads (s, n), pair_is-here s n s n refl, same_here n n refl)

reading_more : (s n r x : ℕ) (t : Talk) → readings r x t ≤ readings r x (asked s n t)
unfolding readings
reading_more s n r x t = omega (arith, total_push (pair_is r x) t.reads (s, n))

end_reading_asked : (s n x : ℕ) (t : Talk) → end_readings x (asked s n t) ≡ end_readings x t
unfolding end_readings
end_reading_asked s n x t = refl

spent_asked : (s n r : ℕ) (t : Talk) → spent r (asked s n t) ≡ spent r t
unfolding spent
spent_asked s n r t = refl

reads_asked : (p : Layout) (s n : ℕ) (t : Talk) (ended : Bool) (words : List Reads) (ends now : Reads) → s < p.sessions → now ≡ record { loads = (reads_at words s).loads + 1; last = n } → AreReads p t ended words ends → AreReads p (asked s n t) ended (slice_set words s now) ends
reads_asked p s n t ended words ends now lt is r =
    let within : s < length words = omega (arith, r.sessions_are) in
    record {
      ended_is = r.ended_is;
      sessions_are = length-set words s now ∙ r.sessions_are;
      within = λ k h. let was = r.within k h in omega (arith, spent_asked s n k t);
      loads = λ k h. by_eq k s
          (λ (e : k ≡ s). let read : reads_at (slice_set words s now) k ≡ now = get_or-set_at words s k now unread e within in
          let old = r.loads k h in
          let count : (reads_at (slice_set words s now) k).loads ≡ (reads_at words s).loads + 1 = ap (λ (x : Reads). x.loads) read ∙ ap (λ (x : Reads). x.loads) is in
          let same_word : (reads_at words k).loads ≡ (reads_at words s).loads = ap (λ (i : ℕ). (reads_at words i).loads) e in
          omega (arith, total_push (first_is k) t.reads (s, n), first_is-here k s n e))
          (λ (ne : k ≢ s). let read : reads_at (slice_set words s now) k ≡ reads_at words k = get_or-set_other words s k now unread ne in
          let count = ap (λ (x : Reads). x.loads) read in
          let old = r.loads k h in
          omega (arith, total_push (first_is k) t.reads (s, n), first_is-else k s n ne));
      last = λ k h some. by_eq k s
          (λ (e : k ≡ s). let read : (reads_at (slice_set words s now) k).last ≡ n = ap (λ (x : Reads). x.last) (get_or-set_at words s k now unread e within ∙ is) in
          subst (λ (x : ℕ × ℕ). 0 < readings x.0 x.1 (asked s n t)) (λ i. (sym e i, sym read i)) (reading_here s n t))
          (λ (ne : k ≢ s). let read : (reads_at (slice_set words s now) k).last ≡ (reads_at words k).last = ap (λ (x : Reads). x.last) (get_or-set_other words s k now unread ne) in
          subst (λ (x : ℕ). 0 < readings k x (asked s n t)) (sym read) (let was = r.last k h (subst (λ (x : ℕ). 0 < x) read some) in omega (arith, reading_more s n k (reads_at words k).last t)));
      end_loads = r.end_loads;
      last_end = λ some. let was = r.last_end some in omega (arith, end_reading_asked s n ends.last t);
    }

pub no_less : (p : Layout) (s n : ℕ) (v : View) (ended : Bool) (words : List Reads) (ends : Reads) → s < p.sessions → AreReads p v.talk ended words ends → Found p (load_answers s) v n → (reads_at words s).last ≤ n
no_less p s n v ended words ends lt r f = low (reads_at words s).last (λ h. answers_rise p s n (reads_at words s).last v lt f (r.last s lt h))
  where
    low : (k : ℕ) → (0 < k → k ≤ n) → k ≤ n
    low zero h = omega arith
    low (suc k) h = h (omega arith)

pub read_fits : (p : Layout) (s n : ℕ) (v : View) → s < p.sessions → Found p (load_answers s) v n → n < 2 ^ 32
read_fits p s n v lt f = subst (λ (k : ℕ). k < 2 ^ 32) f.3 (session_fits p f.0.words f.0.views s f.1 lt)

-- ---- an end, and a read of the word of ended contexts

reads_ended : (p : Layout) (t : Talk) (words : List Reads) (ends : Reads) → AreReads p t false words ends → AreReads p (ended_talk t) true words ends
unfolding spent readings end_readings
reads_ended p t words ends r = record { ended_is = refl; sessions_are = r.sessions_are; within = r.within; loads = r.loads; last = r.last; end_loads = r.end_loads; last_end = r.last_end }

end_here : (n : ℕ) (t : Talk) → 0 < end_readings n (counted_ends n t)
unfolding end_readings
end_here n t = omega (arith, times_here n n t.end_reads refl)

reads_counted : (p : Layout) (n : ℕ) (t : Talk) (ended : Bool) (words : List Reads) (ends now : Reads) → now ≡ record { loads = ends.loads + 1; last = n } → AreReads p t ended words ends → AreReads p (counted_ends n t) ended words now
unfolding spent readings
reads_counted p n t ended words ends now is r = record {
  ended_is = r.ended_is;
  sessions_are = r.sessions_are;
  within = r.within;
  loads = r.loads;
  last = r.last;
  end_loads = let count = ap (λ (x : Reads). x.loads) is in omega (arith, length-append t.end_reads (n ∷ []), r.end_loads);
  last_end = λ some. subst (λ (x : ℕ). 0 < end_readings x (counted_ends n t)) (sym (ap (λ (x : Reads). x.last) is)) (end_here n t);
}

pub ends_no_less : (p : Layout) (n : ℕ) (v : View) (ended : Bool) (words : List Reads) (ends : Reads) → AreReads p v.talk ended words ends → Found p load_ends v n → ends.last ≤ n
ends_no_less p n v ended words ends r f = low ends.last (λ h. ends_rise p n ends.last v f (r.last_end h))
  where
    low : (k : ℕ) → (0 < k → k ≤ n) → k ≤ n
    low zero h = omega arith
    low (suc k) h = h (omega arith)

pub ends_fit : (p : Layout) (n : ℕ) (v : View) → Found p load_ends v n → n < 2 ^ 32
ends_fit p n v f = subst (λ (k : ℕ). k < 2 ^ 32) f.3 (end_fits p f.0.words f.0.views f.1)

-- ---- the seat after one of these steps

pub tied_answered : (p : Layout) (s n word operand spare : ℕ) (v : View) (k : Book) → 0 < answer_share s v.talk → IsTied p v k → IsTied p (noted word operand n (spoke (answered s n v.talk) v)) (record k { entries = record k.entries { spare = spare } })
tied_answered p s n word operand spare v k left t = record { idle = t.idle; known_is = t.known_is; deeds = record { sights = t.deeds.sights; befores = t.deeds.befores; made = t.deeds.made; firsts = t.deeds.firsts; late = t.deeds.late; counts = t.deeds.counts; toggles = t.deeds.toggles; order = t.deeds.order; timed = t.deeds.timed }; reads = reads_answered p s n v.talk k.ended k.sessions k.ends left t.reads; all_loads = t.all_loads; cleared = t.cleared; alone = t.alone; gone = t.gone; loads = t.loads }

pub tied_asked : (p : Layout) (s n word operand : ℕ) (v : View) (k : Book) (now : Reads) → s < p.sessions → now ≡ record { loads = (reads_at k.sessions s).loads + 1; last = n } → IsTied p v k → IsTied p (noted word operand n (spoke (asked s n v.talk) v)) (record k { sessions = slice_set k.sessions s now })
tied_asked p s n word operand v k now lt is t = record { idle = t.idle; known_is = t.known_is; deeds = t.deeds; reads = reads_asked p s n v.talk k.ended k.sessions k.ends now lt is t.reads; all_loads = t.all_loads; cleared = t.cleared; alone = t.alone; gone = t.gone; loads = t.loads }

pub tied_ended : (p : Layout) (n word operand : ℕ) (v : View) (k : Book) → k.ended ≡ false → IsTied p v k → IsTied p (noted word operand n (spoke (ended_talk v.talk) v)) (record k { ended = true })
tied_ended p n word operand v k open_yet t = record { idle = t.idle; known_is = t.known_is; deeds = t.deeds; reads = reads_ended p v.talk k.sessions k.ends (subst (λ (b : Bool). AreReads p v.talk b k.sessions k.ends) open_yet t.reads); all_loads = t.all_loads; cleared = t.cleared; alone = t.alone; gone = t.gone; loads = t.loads }

pub tied_counted : (p : Layout) (n word operand : ℕ) (v : View) (k : Book) (now : Reads) → now ≡ record { loads = k.ends.loads + 1; last = n } → IsTied p v k → IsTied p (noted word operand n (spoke (counted_ends n v.talk) v)) (record k { ends = now })
tied_counted p n word operand v k now is t = record { idle = t.idle; known_is = t.known_is; deeds = t.deeds; reads = reads_counted p n v.talk k.ended k.sessions k.ends now is t.reads; all_loads = t.all_loads; cleared = t.cleared; alone = t.alone; gone = t.gone; loads = t.loads }
