-- What a token keeps of its share of the seats and of what disposals found, after each of its steps.
use Rattle.std.proofs.Common.{◌≡◌, ◌≢◌, ◌⊎◌, ℕ, zero, suc, ◌+◌, ◌-◌, ◌<◌, ◌≤◌, ◌^◌, max, List, [], ◌∷◌, ◌++◌, length, length-set, slice_set, Bool, true, false, not, if◌then◌else◌, ◌==◌, sym, refl, ap, ◌∙◌, subst, arith, inl, inr, ⊎_elim, get_or-set_other, append-nil}
use Rattle.std.specs.Prelude.{slice_index}
use Rattle.std.proofs.lemmas.Grind.{get_or-set_at}
use Rattle.std.proofs.Math.Nat.{max-zero, zero-max, suc-max-suc}
use Rattle.pd_board.proofs.ChainLemmas.{by_eq}
use Rattle.pd_board.specs.declared.answers.Dispose.TheVariants as disposes
use Rattle.pd_board.specs.declared.answers.Drawn.{Drawn}
use Rattle.pd_board.specs.declared.answers.Known.{Known}
use Rattle.pd_core.specs.declared.view.View.{View}
use Rattle.pd_core.specs.declared.view.Deeds.{Deeds}
use Rattle.pd_core.specs.Layout.{Layout, bindings}
use Rattle.pd_core.specs.Words.{disposed, sum_in}
use Rattle.pd_core.specs.Counts.{total, first_is, pair_is, only_if}
use Rattle.pd_core.specs.Kinds.{after, set_disposed}
use Rattle.pd_core.specs.Views.{over, of_all, disposals, count_kept, no_deeds, halved, joined}
use Rattle.pd_core.proofs.Sums.{total_push, first_is-here, first_is-else, pair_is-here, same_here, over_joined}
use Rattle.pd_core.proofs.Seats.{disposals_none}
use Rattle.pd_core.proofs.Bits.{disposed_fits}
use Rattle.pd_shared.specs.Tied.{none_taken, dispose_of}
use Rattle.pd_shared.specs.Held.{IsHeld, counted_by}
use Rattle.pd_shared.proofs.ActLemmas.{flag_not}
use Rattle.pd_shared.specs.Merged.{IsMerged}
use Rattle.pd_shared.specs.Took.{DrawSteps, drew, looked, both}

-- ---- a step that disposes of nothing

over_same : (f : Deeds → ℕ) (d e : Deeds) (ds : List Deeds) → f d ≡ f e → over f d ds ≡ over f e ds
unfolding over
over_same f d e ds h = omega (arith, h)

disposals_same : (b : ℕ) (d e : Deeds) → e.counts ≡ d.counts → disposals b e ≡ disposals b d
unfolding disposals
disposals_same b d e h = ap (total (first_is b)) h

kept_same : (b n : ℕ) (d e : Deeds) → e.counts ≡ d.counts → count_kept b n e ≡ count_kept b n d
unfolding count_kept
kept_same b n d e h = ap (total (pair_is b n)) h

pub held_same : (p : Layout) (v w : View) (seats : ℕ) (counts : List ℕ) → w.seat_share ≡ v.seat_share → w.taken ≡ v.taken → w.deeds.counts ≡ v.deeds.counts → IsHeld p v seats counts → IsHeld p w seats counts
held_same p v w seats counts share taken deeds h =
    let same : (f : Deeds → ℕ) → f w.deeds ≡ f v.deeds → of_all f w ≡ of_all f v = λ f e. over_same f w.deeds v.deeds w.taken e ∙ ap (λ (ds : List Deeds). over f v.deeds ds) taken in
    record {
      share = subst (λ (n : ℕ). seats ≤ n) (sym share) h.share;
      own_share = λ none. let was = h.own_share (ap none_taken (sym taken) ∙ none) in (share ∙ was.0, was.1);
      counts_are = h.counts_are;
      found = λ b lt some. subst (λ (n : ℕ). 0 < n) (sym (same (count_kept b (slice_index counts b)) (kept_same b (slice_index counts b) v.deeds w.deeds deeds))) (h.found b lt (subst (λ (n : ℕ). 0 < n) (same (disposals b) (disposals_same b v.deeds w.deeds deeds)) some));
      none_found = λ b lt none. h.none_found b lt (sym (same (disposals b) (disposals_same b v.deeds w.deeds deeds)) ∙ none);
    }

pub held_drawn : (p : Layout) (event b : ℕ) (v next : View) (seats : ℕ) (counts : List ℕ) (drawn : Drawn) (x : Known) → DrawSteps p event b v next drawn x → IsHeld p v seats counts → IsHeld p next seats counts
held_drawn p event b v next seats counts drawn x (drew w is took d later) h = subst (λ (y : View). IsHeld p y seats counts) (sym took.1) (held_same p v _ seats counts refl refl refl h)
held_drawn p event b v next seats counts drawn x (looked w new took dead d later) h = subst (λ (y : View). IsHeld p y seats counts) (sym took.1) (held_same p v _ seats counts refl refl refl h)
held_drawn p event b v next seats counts drawn x (both u w between new first on took d later) h =
    let mid : IsHeld p between seats counts = subst (λ (y : View). IsHeld p y seats counts) (sym first.1) (held_same p v _ seats counts refl refl refl h) in
    subst (λ (y : View). IsHeld p y seats counts) (sym took.1) (held_same p between _ seats counts refl refl refl mid)

-- ---- a disposal

disposals_more : (b c n : ℕ) (d e : Deeds) → e.counts ≡ d.counts ++ (c, n) ∷ [] → disposals b e ≡ disposals b d + first_is b (c, n)
unfolding disposals
disposals_more b c n d e h = ap (total (first_is b)) h ∙ total_push (first_is b) d.counts (c, n)

kept_more : (b m c n : ℕ) (d e : Deeds) → e.counts ≡ d.counts ++ (c, n) ∷ [] → count_kept b m e ≡ count_kept b m d + pair_is b m (c, n)
unfolding count_kept
kept_more b m c n d e h = ap (total (pair_is b m)) h ∙ total_push (pair_is b m) d.counts (c, n)

over_more : (f : Deeds → ℕ) (d e : Deeds) (ds : List Deeds) (n : ℕ) → f e ≡ f d + n → over f e ds ≡ over f d ds + n
unfolding over
over_more f d e ds n h = omega (arith, h)

-- the count of b is put down
pub held_more : (p : Layout) (b n : ℕ) (v w : View) (seats : ℕ) (counts : List ℕ) → b < bindings p → w.seat_share ≡ v.seat_share → w.taken ≡ v.taken → w.deeds.counts ≡ v.deeds.counts ++ (b, n) ∷ [] → IsHeld p v seats counts → IsHeld p w seats (slice_set counts b n)
held_more p b n v w seats counts lt share taken deeds h =
    let within : b < length counts = omega (arith, h.counts_are) in
    let more : (f : Deeds → ℕ) (m : ℕ) → f w.deeds ≡ f v.deeds + m → of_all f w ≡ of_all f v + m = λ f m e. over_more f v.deeds w.deeds w.taken m e ∙ ap (λ (ds : List Deeds). over f v.deeds ds + m) taken in
    record {
      share = subst (λ (k : ℕ). seats ≤ k) (sym share) h.share;
      own_share = λ none. let was = h.own_share (ap none_taken (sym taken) ∙ none) in (share ∙ was.0, was.1);
      counts_are = length-set counts b n ∙ h.counts_are;
      found = λ c l some. by_eq c b
          (λ (e : c ≡ b). let read : slice_index (slice_set counts b n) c ≡ n = get_or-set_at counts b c n 0 e within in
          let kept = more (count_kept c n) (pair_is c n (b, n)) (kept_more c n b n v.deeds w.deeds deeds) in
          subst (λ (m : ℕ). 0 < of_all (count_kept c m) w) (sym read) (omega (arith, kept, pair_is-here c n b n e, same_here n n refl)))
          (λ (ne : c ≢ b). let read : slice_index (slice_set counts b n) c ≡ slice_index counts c = get_or-set_other counts b c n 0 ne in
          let m : ℕ = slice_index counts c in
          let all = more (disposals c) (first_is c (b, n)) (disposals_more c b n v.deeds w.deeds deeds) in
          let kept = more (count_kept c m) (pair_is c m (b, n)) (kept_more c m b n v.deeds w.deeds deeds) in
          let was : 0 < of_all (disposals c) v = omega (arith, all, first_is-else c b n ne, some) in
          subst (λ (k : ℕ). 0 < of_all (count_kept c k) w) (sym read) (omega (arith, kept, h.found c l was)));
      none_found = λ c l none. by_eq c b
          (λ (e : c ≡ b). absurd (let all = more (disposals c) (first_is c (b, n)) (disposals_more c b n v.deeds w.deeds deeds) in omega (arith, all, first_is-here c b n e, none)))
          (λ (ne : c ≢ b). let all = more (disposals c) (first_is c (b, n)) (disposals_more c b n v.deeds w.deeds deeds) in
          get_or-set_other counts b c n 0 ne ∙ h.none_found c l (omega (arith, all, none)));
    }

pub held_disposed : (p : Layout) (b w : ℕ) (v : View) (seats : ℕ) (counts now : List ℕ) → b < bindings p → now ≡ counted_by b (dispose_of w) counts → IsHeld p v seats counts → IsHeld p (after p (set_disposed b) w v) seats now
held_disposed p b w v seats counts now lt is h = subst (IsHeld p next seats) (sym is) (by (disposed w == 1) refl)
  where
    next : View
    next = after p (set_disposed b) w v

    by : (t : Bool) → (disposed w == 1) ≡ t → IsHeld p next seats (counted_by b (dispose_of w) counts)
    by true e = subst (IsHeld p next seats) (sym (ap (λ (s : Bool). counted_by b (if s then disposes.Already else disposes.Disposed (sum_in w)) counts) e))
        (held_same p v next seats counts refl refl (ap (λ (s : Bool). v.deeds.counts ++ only_if s (b, sum_in w)) (flag_not (disposed w) (disposed_fits w) ∙ ap not e) ∙ append-nil v.deeds.counts) h)
    by false e = subst (IsHeld p next seats) (sym (ap (λ (s : Bool). counted_by b (if s then disposes.Already else disposes.Disposed (sum_in w)) counts) e))
        (held_more p b (sum_in w) v next seats counts lt refl refl (ap (λ (s : Bool). v.deeds.counts ++ only_if s (b, sum_in w)) (flag_not (disposed w) (disposed_fits w) ∙ ap not e)) h)

-- ---- the first token, and the two of a split

pub held_first : (p : Layout) (v : View) (seats : ℕ) (counts : List ℕ) → v.deeds ≡ no_deeds → v.taken ≡ [] → v.seat_share ≡ seats → seats ≤ 2 ^ 32 → length counts ≡ bindings p → ((b : ℕ) → slice_index counts b ≡ 0) → IsHeld p v seats counts
held_first p v seats counts deeds taken share few long none =
    let nothing : (b : ℕ) → of_all (disposals b) v ≡ 0 = λ b. (λ i. over (disposals b) (deeds i) (taken i)) ∙ disposals_none b in
    record {
      share = omega (arith, share);
      own_share = λ _. (share, few);
      counts_are = long;
      found = λ b lt some. absurd (omega (arith, nothing b, some));
      none_found = λ b lt _. none b;
    }

pub held_halved : (p : Layout) (v : View) (seats : ℕ) (counts : List ℕ) → 2 ≤ v.seat_share → IsHeld p v seats counts → IsHeld p (halved v) (seats - 1) counts
held_halved p v seats counts some h = record {
  share = omega (arith, h.share, some);
  own_share = λ none. let was = h.own_share none in (omega (arith, was.0), omega (arith, was.1));
  counts_are = h.counts_are;
  found = h.found;
  none_found = h.none_found;
}

-- ---- a seat that is taken in

none_behind : (xs : List Deeds) (d : Deeds) (ds : List Deeds) → none_taken (xs ++ d ∷ ds) ≡ false
none_behind [] d ds = refl
none_behind (x ∷ xs) d ds = refl

pub joined_taken : (v w : View) → none_taken (joined v w).taken ≡ false
joined_taken v w = none_behind v.taken w.deeds w.taken

pub greater_is : (m n : ℕ) → (max m n ≡ m) ⊎ (max m n ≡ n)
greater_is m zero = inl (max-zero m)
greater_is zero (suc n) = inr (zero-max (suc n))
greater_is (suc m) (suc n) = ⊎_elim (λ e. inl (suc-max-suc m n ∙ ap suc e)) (λ e. inr (suc-max-suc m n ∙ ap suc e)) (greater_is m n)

either_zero : (n : ℕ) → (n ≡ 0) ⊎ (0 < n)
either_zero zero = inl refl
either_zero (suc n) = inr (omega arith)

pub held_joined : (p : Layout) (v w : View) (mine theirs both_seats : ℕ) (xs ys now : List ℕ) → both_seats ≤ mine + theirs → IsMerged max 0 (length xs) xs ys now → IsHeld p v mine xs → IsHeld p w theirs ys → IsHeld p (joined v w) both_seats now
held_joined p v w mine theirs both_seats xs ys now few m h k =
    let sum : (f : Deeds → ℕ) → of_all f (joined v w) ≡ of_all f v + of_all f w = λ f. over_joined f v.deeds w.deeds v.taken w.taken in
    record {
      share = omega (arith, h.share, k.share, few);
      own_share = λ none. absurd (let q : false ≡ true = sym (joined_taken v w) ∙ none in cc);
      counts_are = m.lengths ∙ h.counts_are;
      found = λ b lt some.
          let read : slice_index now b ≡ max (slice_index xs b) (slice_index ys b) = m.below b (omega (arith, h.counts_are)) in
          let x : ℕ = slice_index xs b in
          let y : ℕ = slice_index ys b in
          subst (λ (n : ℕ). 0 < of_all (count_kept b n) (joined v w)) (sym read)
          (⊎_elim
          (λ (none : of_all (disposals b) v ≡ 0).
          let theirs_is : 0 < of_all (disposals b) w = omega (arith, sum (disposals b), some, none) in
          subst (λ (n : ℕ). 0 < of_all (count_kept b n) (joined v w)) (sym (ap (λ (n : ℕ). max n y) (h.none_found b lt none) ∙ zero-max y)) (omega (arith, sum (count_kept b y), k.found b lt theirs_is)))
          (λ (mine_is : 0 < of_all (disposals b) v). ⊎_elim
          (λ (none : of_all (disposals b) w ≡ 0). subst (λ (n : ℕ). 0 < of_all (count_kept b n) (joined v w)) (sym (ap (max x) (k.none_found b lt none) ∙ max-zero x)) (omega (arith, sum (count_kept b x), h.found b lt mine_is)))
          (λ (theirs_is : 0 < of_all (disposals b) w). ⊎_elim
          (λ (e : max x y ≡ x). subst (λ (n : ℕ). 0 < of_all (count_kept b n) (joined v w)) (sym e) (omega (arith, sum (count_kept b x), h.found b lt mine_is)))
          (λ (e : max x y ≡ y). subst (λ (n : ℕ). 0 < of_all (count_kept b n) (joined v w)) (sym e) (omega (arith, sum (count_kept b y), k.found b lt theirs_is)))
          (greater_is x y)) (either_zero (of_all (disposals b) w)))
          (either_zero (of_all (disposals b) v)));
      none_found = λ b lt none.
          let read : slice_index now b ≡ max (slice_index xs b) (slice_index ys b) = m.below b (omega (arith, h.counts_are)) in
          read ∙ (ap (λ (n : ℕ). max n (slice_index ys b)) (h.none_found b lt (omega (arith, sum (disposals b), none))) ∙ (zero-max (slice_index ys b) ∙ k.none_found b lt (omega (arith, sum (disposals b), none))));
    }
