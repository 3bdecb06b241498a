-- What a load of a node's words tells of its bindings.
use Rattle.std.proofs.Common.{◌≡◌, ◌≢◌, ◌⊎◌, ℕ, zero, suc, ◌+◌, ◌-◌, ◌*◌, ◌/◌, ◌%◌, ◌^◌, ◌<◌, ◌≤◌, List, [], ◌∷◌, ◌++◌, length, length-set, length-append, slice_set, Bool, true, false, if◌then◌else◌, ◌==◌, ◌&&◌, ◌||◌, not, ltb, sym, refl, ap, ◌∙◌, subst, arith, inl, inr, ⊎_elim, eq-eqb, ne_eqb, get_or, get_or-set_other, append-nil}
use Rattle.std.specs.Prelude.{slice_index, min, bit_and}
use Rattle.std.specs.Int.{bit_at, bit_not, w64}
use Rattle.std.proofs.lemmas.Nat.Bits.{bit_at_and, bit_at_not}
use Rattle.pd_board.specs.Bits.{IsLowestFrom}
use Rattle.std.proofs.lemmas.Grind.{get_or-set_at}
use Rattle.std.proofs.lemmas.Bool.Decides.{nat_tests}
use Rattle.std.specs.List.{list_any}
use Rattle.pd_plan.specs.declared.table.MatchTable.{MatchTable}
use Rattle.pd_shared.proofs.MatchingLemmas.{rows_past}
use Rattle.pd_board.proofs.ChainLemmas.{by_eq, by_lt}
use Rattle.pd_board.specs.declared.answers.Known.{Known}
use Rattle.pd_board.specs.declared.answers.Known.TheVariants as knowns
use Rattle.pd_board.specs.Answers.{known_after_load}
use Rattle.pd_board.specs.Standing.{in_row}
use Rattle.pd_core.specs.declared.view.View.{View}
use Rattle.pd_core.specs.Layout.{Layout, bindings, row, width, Matches, row_at, binding_word}
use Rattle.pd_core.specs.Words.{attached, disposed, bit_of, mark}
use Rattle.pd_core.specs.Counts.{times, same, total, only_if}
use Rattle.pd_core.specs.Views.{Known as Found_as, fresh, found_attached, found_disposed, known, gather, is_missing, is_found_attached}
use Rattle.pd_core.specs.Good.{Good}
use Rattle.pd_core.specs.Kinds.{Found, after, load_node, load_row}
use Rattle.pd_core.proofs.Sums.{times-append, times-none, times_here, times_grows, times_else, same_here, same_else}
use Rattle.pd_core.proofs.Bits.{bit_fits, disposed_fits}
use Rattle.pd_core.proofs.Attaches.{eqb_is}
use Rattle.pd_core.proofs.Waves.{known_attached, is_disposed, same_known}
use Rattle.pd_core.proofs.Places.{mark_is, summary_is, width_is}
use Rattle.pd_core.proofs.Draws.{zero_or_one}
use Rattle.pd_shared.specs.Book.{Book, known_at}
use Rattle.pd_shared.specs.Tied.{told, IsKnown, IsTied}
use Rattle.pd_shared.specs.Took.{IsRowKnown}
use Rattle.pd_shared.proofs.ActLemmas.{yes_or_no, not_flag, alone_disposed, told_attached}

-- ---- one binding after another

abbrev pub after_row : MatchTable → ℕ → ℕ → ℕ → Known → Known
after_row table n w b k = known_after_load (in_row table b n) (bit_of w (b % 64) == 1) k

-- those from low on and below high are as after the load, and all others as before
pub record IsDone (table : MatchTable) (n w low high : ℕ) (was now : List Known) : Type 0 where
  pub len : length now ≡ length was
  pub done : (b : ℕ) → low ≤ b → b < high → known_at now b ≡ after_row table n w b (known_at was b)
  pub below : (b : ℕ) → b < low → known_at now b ≡ known_at was b
  pub above : (b : ℕ) → high ≤ b → known_at now b ≡ known_at was b

pub done_start : (table : MatchTable) (n w low : ℕ) (ks : List Known) → IsDone table n w low low ks ks
done_start table n w low ks = record { len = refl; done = λ b h k. absurd (omega arith); below = λ b h. refl; above = λ b h. refl }

pub done_next : (table : MatchTable) (n w low high : ℕ) (was now : List Known) (x : Known) → low ≤ high → high < length now → IsDone table n w low high was now → x ≡ after_row table n w high (known_at now high) → IsDone table n w low (high + 1) was (slice_set now high x)
done_next table n w low high was now x from within d is = record {
  len = length-set now high x ∙ d.len;
  done = λ b h k. by_eq b high
      (λ (e : b ≡ high). get_or-set_at now high b x knowns.Fresh e within ∙ (is ∙ (ap (after_row table n w high) (d.above high (omega arith)) ∙ ap (λ (i : ℕ). after_row table n w i (known_at was i)) (sym e))))
      (λ (ne : b ≢ high). get_or-set_other now high b x knowns.Fresh ne ∙ d.done b h (less b high ne k));
  below = λ b h. get_or-set_other now high b x knowns.Fresh (λ e. omega arith) ∙ d.below b h;
  above = λ b h. get_or-set_other now high b x knowns.Fresh (λ e. omega arith) ∙ d.above b (omega arith);
}
  where
    less : (b high : ℕ) → b ≢ high → b < high + 1 → b < high
    less b high ne k = grind arith

past_end : (ks : List Known) (b : ℕ) → length ks ≤ b → known_at ks b ≡ knowns.Fresh
past_end [] b h = refl
past_end (k ∷ ks) zero h = absurd (omega arith)
past_end (k ∷ ks) (suc b) h = past_end ks b (omega arith)

fresh_stays : (m t : Bool) → known_after_load m t knowns.Fresh ≡ knowns.Fresh
fresh_stays true true = refl
fresh_stays true false = refl
fresh_stays false t = refl

pub done_row : (table : MatchTable) (n w r high : ℕ) (was now : List Known) → (high ≡ 64 * (r + 1)) ⊎ ((length was ≤ high) × (high ≤ 64 * (r + 1))) → IsDone table n w (64 * r) high was now → IsRowKnown table n r w was now
done_row table n w r high was now end d b = by_eq (b / 64) r
    (λ (e : b / 64 ≡ r). (by_lt b high (λ (h : b < high). d.done b (omega arith) h) (λ (h : high ≤ b). d.above b h ∙ past b e h)) ∙ sym (ap (λ (t : Bool). if t then after_row table n w b (known_at was b) else known_at was b) (eq-eqb (b / 64) r e)))
    (λ (ne : b / 64 ≢ r). other b ne ∙ sym (ap (λ (t : Bool). if t then after_row table n w b (known_at was b) else known_at was b) (ne_eqb (b / 64) r ne)))
  where
    past : (c : ℕ) → c / 64 ≡ r → high ≤ c → known_at was c ≡ after_row table n w c (known_at was c)
    past c e h = let gone : known_at was c ≡ knowns.Fresh = past_end was c (⊎_elim (λ (q : high ≡ 64 * (r + 1)). absurd (omega arith)) (λ (q : (length was ≤ high) × (high ≤ 64 * (r + 1))). omega (arith, q.0)) end) in
        gone ∙ sym (ap (after_row table n w c) gone ∙ fresh_stays (in_row table c n) (bit_of w (c % 64) == 1))

    other : (c : ℕ) → c / 64 ≢ r → known_at now c ≡ known_at was c
    other c ne = by_lt c (64 * r) (λ (h : c < 64 * r). d.below c h) (λ (h : 64 * r ≤ c). d.above c (⊎_elim (λ (q : high ≡ 64 * (r + 1)). far c ne h q) (λ (q : (length was ≤ high) × (high ≤ 64 * (r + 1))). let out : 64 * (r + 1) ≤ c = far c ne h refl in omega (arith, q.1, out)) end))
      where
        far : {m : ℕ} (k : ℕ) → k / 64 ≢ r → 64 * r ≤ k → m ≡ 64 * (r + 1) → m ≤ k
        far k nk low is = by_lt k (64 * (r + 1)) (λ (h : k < 64 * (r + 1)). absurd (nk (omega arith))) (λ (h : 64 * (r + 1) ≤ k). omega arith)

-- none of those from high on and below next is changed by the load
pub done_skip : (table : MatchTable) (n w low high next : ℕ) (was now : List Known) → high ≤ next → IsDone table n w low high was now → ((b : ℕ) → high ≤ b → b < next → after_row table n w b (known_at was b) ≡ known_at was b) → IsDone table n w low next was now
done_skip table n w low high next was now le d same = record {
  len = d.len;
  done = λ b from below. by_lt b high (λ (h : b < high). d.done b from h) (λ (h : high ≤ b). d.above b h ∙ sym (same b h below));
  below = d.below;
  above = λ b h. d.above b (omega arith);
}

-- ---- the bindings that match and have no bit

missing_bit : (m w i : ℕ) → w < 2 ^ 64 → i < 64 → bit_at (bit_and m (bit_not w64 w)) i ≡ min (bit_at m i) (1 - bit_at w i)
missing_bit m w i fits lt = bit_at_and m (bit_not w64 w) i ∙ ap (min (bit_at m i)) (bit_at_not w64 w i fits lt)

by_bits : {A : Type 0} (m w i : ℕ) → w < 2 ^ 64 → i < 64 → (bit_of m i ≡ 0 → A) → (bit_of w i ≡ 1 → A) → (bit_of (bit_and m (bit_not w64 w)) i ≡ 1 → bit_of m i ≡ 1 → bit_of w i ≡ 0 → A) → A
unfolding bit_of
by_bits m w i fits lt none there missing = ⊎_elim none
    (λ (matching : bit_at m i ≡ 1). ⊎_elim
    (λ (clear : bit_at w i ≡ 0). missing (missing_bit m w i fits lt ∙ (ap (λ (k : ℕ). min k (1 - bit_at w i)) matching ∙ ap (λ (k : ℕ). min 1 (1 - k)) clear)) matching clear)
    there (zero_or_one (bit_at w i) (bit_fits w i)))
    (zero_or_one (bit_at m i) (bit_fits m i))

stays_without : (k : Known) (matching has_it : Bool) → matching ≡ false → known_after_load matching has_it k ≡ k
stays_without k false t e = refl
stays_without k true t e = absurd (cc)

stays_with : (k : Known) (matching has_it : Bool) → has_it ≡ true → known_after_load matching has_it k ≡ k
stays_with k false t e = refl
stays_with k true true e = refl
stays_with k true false e = absurd (cc)

-- the word m says for the bindings of row word r which of them match the node
abbrev pub Tells : MatchTable → ℕ → ℕ → ℕ → Type 0
Tells table n r m = (b : ℕ) → b / 64 ≡ r → (bit_of m (b % 64) == 1) ≡ in_row table b n

abbrev pub missing_of : ℕ → ℕ → ℕ
missing_of m w = bit_and m (bit_not w64 w)

kept_there : (table : MatchTable) (n r m w b : ℕ) (k : Known) → w < 2 ^ 64 → Tells table n r m → b / 64 ≡ r → bit_of (missing_of m w) (b % 64) ≡ 0 → after_row table n w b k ≡ k
kept_there table n r m w b k fits tells here none = by_bits m w (b % 64) fits (omega arith)
    (λ (z : bit_of m (b % 64) ≡ 0). stays_without k (in_row table b n) (bit_of w (b % 64) == 1) (sym (tells b here) ∙ ne_eqb (bit_of m (b % 64)) 1 (λ e. omega arith)))
    (λ (o : bit_of w (b % 64) ≡ 1). stays_with k (in_row table b n) (bit_of w (b % 64) == 1) (eq-eqb (bit_of w (b % 64)) 1 o))
    (λ (one : bit_of (missing_of m w) (b % 64) ≡ 1) _ _. absurd (omega arith))

pub matched_there : (table : MatchTable) (n r m w b : ℕ) → w < 2 ^ 64 → Tells table n r m → b / 64 ≡ r → bit_of (missing_of m w) (b % 64) ≡ 1 → (in_row table b n ≡ true) × ((bit_of w (b % 64) == 1) ≡ false)
unfolding bit_of
matched_there table n r m w b fits tells here one = by_bits m w (b % 64) fits (omega arith)
    (λ (z : bit_at m (b % 64) ≡ 0). absurd (let is = missing_bit m w (b % 64) fits (omega arith) in omega arith))
    (λ (o : bit_at w (b % 64) ≡ 1). absurd (let is = missing_bit m w (b % 64) fits (omega arith) in omega arith))
    (λ _ (on : bit_at m (b % 64) ≡ 1) (clear : bit_at w (b % 64) ≡ 0). (sym (tells b here) ∙ eq-eqb (bit_at m (b % 64)) 1 on, ne_eqb (bit_at w (b % 64)) 1 (λ e. omega arith)))

-- a binding that matches a node is one of the table
pub row_below : (table : MatchTable) (b n : ℕ) → in_row table b n ≡ true → b < length table.rows
row_below table b n e = by_lt b (length table.rows) (λ (h : b < length table.rows). h)
    (λ (h : length table.rows ≤ b). absurd (let q : true ≡ false = sym e ∙ ap (list_any (λ m. m == n)) (rows_past table.rows b h) in cc))

-- and it is one of those of which something is known
pub found_within : (table : MatchTable) (rows : List (List ℕ)) (n r m w low place len : ℕ) → w < 2 ^ 64 → Tells table n r m → IsLowestFrom (missing_of m w) low place → table.rows ≡ rows → len ≡ length rows → 64 * r + place < len
unfolding bit_of
found_within table rows n r m w low place len fits tells lowest same_rows long =
    let below : place < 64 = lowest.within in
    let there = matched_there table n r m w (64 * r + place) fits tells (omega arith) (ap (bit_at (missing_of m w)) (let e : (64 * r + place) % 64 ≡ place = omega arith in e) ∙ lowest.set) in
    let inside = row_below table (64 * r + place) n there.0 in
    let same : length table.rows ≡ length rows = ap length same_rows in
    omega arith

pub gone_step : (table : MatchTable) (n r m w low place high : ℕ) (was now : List Known) (x : Known) → w < 2 ^ 64 → Tells table n r m → IsLowestFrom (missing_of m w) low place → 64 * r + place < length now → high ≡ 64 * r + place + 1
    → IsDone table n w (64 * r) (64 * r + low) was now → x ≡ known_after_load true false (known_at now (64 * r + place)) → IsDone table n w (64 * r) high was (slice_set now (64 * r + place) x)
unfolding bit_of
gone_step table n r m w low place high was now x fits tells lowest within is d changed =
    let from : low ≤ place = lowest.from in
    let below : place < 64 = lowest.within in
    let there = matched_there table n r m w (64 * r + place) fits tells (omega arith) (ap (bit_at (missing_of m w)) (let e : (64 * r + place) % 64 ≡ place = omega arith in e) ∙ lowest.set) in
    let skipped = done_skip table n w (64 * r) (64 * r + low) (64 * r + place) was now (omega arith) d
    (λ b h k. kept_there table n r m w b (known_at was b) fits tells (omega arith) (lowest.clear (b % 64) (omega arith) (omega arith))) in
    subst (λ (h : ℕ). IsDone table n w (64 * r) h was (slice_set now (64 * r + place) x)) (sym is)
    (done_next table n w (64 * r) (64 * r + place) was now x (omega arith) within skipped
    (changed ∙ sym (ap (λ (t : Bool). known_after_load t (bit_of w ((64 * r + place) % 64) == 1) (known_at now (64 * r + place))) there.0 ∙ ap (λ (t : Bool). known_after_load true t (known_at now (64 * r + place))) there.1)))

pub gone_end : (table : MatchTable) (n r m w low : ℕ) (was now : List Known) → w < 2 ^ 64 → Tells table n r m → low ≤ 64 → ((i : ℕ) → low ≤ i → bit_of (missing_of m w) i ≡ 0) → IsDone table n w (64 * r) (64 * r + low) was now → IsRowKnown table n r w was now
gone_end table n r m w low was now fits tells few none d =
    done_row table n w r (64 * (r + 1)) was now (inl refl)
    (done_skip table n w (64 * r) (64 * r + low) (64 * (r + 1)) was now (omega arith) d
    (λ b h k. kept_there table n r m w b (known_at was b) fits tells (omega arith) (none (b % 64) (omega arith))))

-- ---- which bindings match

row_times : (n : ℕ) (xs : List ℕ) → ltb 0 (times n xs) ≡ list_any (λ m. m == n) xs
unfolding times total
row_times n [] = refl
row_times n (x ∷ xs) = by_eq x n
    (λ (e : x ≡ n). some_more (same n x) (total (same n) xs) (same_here n x (sym e)) ∙ sym (ap (λ (t : Bool). t || list_any (λ m. m == n) xs) (eq-eqb x n e)))
    (λ (ne : x ≢ n). none_more (same n x) (total (same n) xs) (same_else n x (λ q. ne (sym q))) ∙ (row_times n xs ∙ sym (ap (λ (t : Bool). t || list_any (λ m. m == n) xs) (ne_eqb x n ne))))
  where
    some_more : (a b : ℕ) → a ≡ 1 → ltb 0 (a + b) ≡ true
    some_more a b e = grind (arith, nat_tests)

    none_more : (a b : ℕ) → a ≡ 0 → ltb 0 (a + b) ≡ ltb 0 b
    none_more a b e = ap (ltb 0) (omega arith)

row_place : (n : ℕ) (xs : List ℕ) → list_any (λ m. m == n) xs ≡ true → (k : ℕ) × (k < length xs) × (slice_index xs k ≡ n)
row_place n [] e = absurd (cc)
row_place n (x ∷ xs) e = by_eq x n
    (λ (is : x ≡ n). (zero, omega arith, is))
    (λ (ne : x ≢ n). let r = row_place n xs (sym (ap (λ (t : Bool). t || list_any (λ m. m == n) xs) (ne_eqb x n ne)) ∙ e) in (suc r.0, omega (arith, r.1), r.2))

pub place_row : (n k : ℕ) (xs : List ℕ) → k < length xs → slice_index xs k ≡ n → list_any (λ m. m == n) xs ≡ true
place_row n k [] h e = absurd (omega arith)
place_row n zero (x ∷ xs) h e = ap (λ (t : Bool). t || list_any (λ m. m == n) xs) (eq-eqb x n e)
place_row n (suc k) (x ∷ xs) h e = or_true (x == n) (list_any (λ m. m == n) xs) (place_row n k xs (omega arith) e)
  where
    or_true : (s t : Bool) → t ≡ true → (s || t) ≡ true
    or_true true t q = refl
    or_true false t q = q

module _ (p : Layout) (table : MatchTable) (same_rows : table.rows ≡ p.rows) where
  in_row_is : (b n : ℕ) → in_row table b n ≡ list_any (λ m. m == n) (row p b)
  in_row_is b n = ap (λ (rows : List (List ℕ)). list_any (λ m. m == n) (get_or rows b [])) same_rows

  pub matched : (b n : ℕ) → Matches p b n → in_row table b n ≡ true
  matched b n m = in_row_is b n ∙ place_row n m.0 (row p b) m.1.0 m.1.1

  pub matches_by : (b n : ℕ) → in_row table b n ≡ true → Matches p b n
  matches_by b n e = let r = row_place n (row p b) (sym (in_row_is b n) ∙ e) in (r.0, (r.1, r.2))

  times_by : (b n : ℕ) → ltb 0 (times n (row p b)) ≡ in_row table b n
  times_by b n = row_times n (row p b) ∙ sym (in_row_is b n)

-- ---- a load of a row word

row_case : (s m t : Bool) (f : Found_as) → (if s then known_after_load m t (told f) else told f) ≡ told (if s && (m && (not t && is_found_attached f)) then found_disposed else f)
row_case false m t f = refl
row_case true false t f = refl
row_case true true true f = refl
row_case true true false fresh = refl
row_case true true false found_attached = refl
row_case true true false found_disposed = refl

bit_not_zero : (n : ℕ) → n < 2 → (n == 0) ≡ not (n == 1)
bit_not_zero zero h = refl
bit_not_zero (suc zero) h = refl
bit_not_zero (suc (suc n)) h = absurd (omega arith)

gathers : (test : ℕ → Bool) (n c : ℕ) → c < n → test c ≡ true → 0 < times c (gather test n)
gathers test zero c h e = absurd (omega arith)
gathers test (suc n) c h e = by_eq c n
    (λ (is : c ≡ n). subst (λ (t : Bool). 0 < times c (gather test n ++ only_if t n)) (sym (sym (ap test is) ∙ e)) (times_here c n (gather test n) is))
    (λ (ne : c ≢ n). let was = gathers test n c (less c n ne h) e in omega (arith, times_grows c n (gather test n) (test n)))
  where
    less : (b high : ℕ) → b ≢ high → b < suc high → b < high
    less b high ne k = grind arith

gathered : (test : ℕ → Bool) (n c : ℕ) → test c ≡ false → times c (gather test n) ≡ 0
gathered test zero c e = times-none c
gathered test (suc n) c e = by_eq c n
    (λ (is : c ≡ n). ap (λ (t : Bool). times c (gather test n ++ only_if t n)) (sym (ap test is) ∙ e) ∙ (ap (times c) (append-nil (gather test n)) ∙ gathered test n c e))
    (λ (ne : c ≢ n). times_else c n (gather test n) (test n) ne ∙ gathered test n c e)

module _ (p : Layout) (n r w : ℕ) (v : View) where
  known_rowed : (b : ℕ) → b < bindings p → known (after p (load_row n r) w v) b ≡ (if is_missing p n r w v b then found_disposed else known v b)
  known_rowed b lt = ⊎_elim
      (λ (e : is_missing p n r w v b ≡ true). is_disposed (after p (load_row n r) w v) b (let some_more = gathers (is_missing p n r w v) (bindings p) b lt e in omega (arith, times-append b v.found_disposed (gather (is_missing p n r w v) (bindings p)))) ∙ sym (ap (λ (t : Bool). if t then found_disposed else known v b) e))
      (λ (e : is_missing p n r w v b ≡ false). same_known v (after p (load_row n r) w v) b (omega (arith, times-append b v.found_disposed (gather (is_missing p n r w v) (bindings p)), gathered (is_missing p n r w v) (bindings p) b e)) refl ∙ sym (ap (λ (t : Bool). if t then found_disposed else known v b) e))
      (yes_or_no (is_missing p n r w v b))

pub known_row : (p : Layout) (table : MatchTable) (n r w : ℕ) (v : View) (ks now : List Known) → table.rows ≡ p.rows → IsKnown p v ks → IsRowKnown table n r w ks now → length now ≡ length ks → IsKnown p (after p (load_row n r) w v) now
known_row p table n r w v ks now same_rows k row_known len = (
  len ∙ k.0,
  λ b lt.
      row_known b
      ∙ (ap (λ (x : Known). if b / 64 == r then known_after_load (in_row table b n) (bit_of w (b % 64) == 1) x else x) (k.1 b lt)
      ∙ (row_case (b / 64 == r) (in_row table b n) (bit_of w (b % 64) == 1) (known v b)
      ∙ ap told ((λ i. if (b / 64 == r) && (sym (times_by p table same_rows b n) i && (sym (bit_not_zero (bit_of w (b % 64)) (bit_fits w (b % 64))) i && is_found_attached (known v b))) then found_disposed else known v b)
      ∙ sym (known_rowed p n r w v b lt)))),
)

-- an attached binding of the row word that matches and has no bit is disposed
gone_unmarked : (p : Layout) (ws : List ℕ) (views : List View) (n b : ℕ) (g : Good p ws views) → b < bindings p → attached (binding_word p ws b) ≡ 1 → Matches p b n → mark p ws n b ≡ 0 → disposed (binding_word p ws b) ≡ 1
gone_unmarked p ws views n b g lt on m none = ⊎_elim
    (λ (open_yet : disposed (binding_word p ws b) ≡ 0). absurd (let there = g.sound.marked b n lt (on, open_yet) m in omega arith))
    (λ (gone : disposed (binding_word p ws b) ≡ 1). gone)
    (zero_or_one (disposed (binding_word p ws b)) (disposed_fits (binding_word p ws b)))

after_gone : (m t : Bool) → known_after_load m t knowns.Disposed ≡ knowns.Disposed
after_gone true true = refl
after_gone true false = refl
after_gone false t = refl

row_stays : (table : MatchTable) (n r w b : ℕ) (ks now : List Known) → IsRowKnown table n r w ks now → known_at ks b ≡ knowns.Disposed → known_at now b ≡ knowns.Disposed
row_stays table n r w b ks now k e = k b ∙ (ap (λ (x : Known). if b / 64 == r then known_after_load (in_row table b n) (bit_of w (b % 64) == 1) x else x) e ∙ either (b / 64 == r))
  where
    either : (s : Bool) → (if s then known_after_load (in_row table b n) (bit_of w (b % 64) == 1) knowns.Disposed else knowns.Disposed) ≡ knowns.Disposed
    either true = after_gone (in_row table b n) (bit_of w (b % 64) == 1)
    either false = refl

-- a binding that is known as disposed after it was so before, or was found missing
gone_before : (s m t : Bool) (k : Known) → (if s then known_after_load m t k else k) ≡ knowns.Disposed → (k ≡ knowns.Disposed) ⊎ ((s ≡ true) × (m ≡ true) × (t ≡ false) × (k ≡ knowns.Attached))
gone_before false m t k e = inl e
gone_before true true false knowns.Attached e = inr (refl, refl, refl, refl)
gone_before true true false knowns.Disposed e = inl e
gone_before true true false knowns.Fresh e = inl e
gone_before true true true k e = inl e
gone_before true false t k e = inl e

pub tied_row : (p : Layout) (table : MatchTable) (n r w : ℕ) (v : View) (k : Book) (now : List Known) → table.rows ≡ p.rows → IsTied p v k → Found p (load_row n r) v w → IsRowKnown table n r w k.known now → length now ≡ length k.known → IsTied p (after p (load_row n r) w v) (record k { known = now })
tied_row p table n r w v k now same_rows t f row_known len = record {
  idle = t.idle;
  known_is = known_row p table n r w v k.known now same_rows t.known_is row_known len;
  deeds = t.deeds;
  reads = t.reads;
  all_loads = t.all_loads;
  cleared = t.cleared;
  alone = λ a b e. ⊎_elim
      (λ (was : known_at k.known b ≡ knowns.Disposed). t.alone a b was)
      (λ (q : (b / 64 == r ≡ true) × (in_row table b n ≡ true) × ((bit_of w (b % 64) == 1) ≡ false) × (known_at k.known b ≡ knowns.Attached)). by_lt b (bindings p)
      (λ (lt : b < bindings p).
      let here : b / 64 ≡ r = eqb_is (b / 64) r q.0 in
      let on = (f.1.each f.2.0 v f.2.1).knows.attached_is b lt (known_attached v b (told_attached (known v b) (sym (t.known_is.1 b lt) ∙ q.3))).1 in
      let unmarked : mark p f.0.words n b ≡ 0 = mark_is p f.0.words n b ∙ (ap (λ (i : ℕ). bit_of (slice_index f.0.words (row_at p n i)) (b % 64)) here ∙ (ap (λ (x : ℕ). bit_of x (b % 64)) f.3 ∙ not_flag (bit_of w (b % 64)) (bit_fits w (b % 64)) q.2)) in
      alone_disposed p f.0.words f.0.views f.2.0 b v k.entries f.1 f.2.1 t.deeds a lt (gone_unmarked p f.0.words f.0.views n b f.1 lt on (matches_by p table same_rows b n q.1) unmarked))
      (λ (out : bindings p ≤ b). absurd (let none : knowns.Fresh ≡ knowns.Attached = sym (past_end k.known b (omega (arith, t.known_is.0))) ∙ q.3 in cc)))
      (gone_before (b / 64 == r) (in_row table b n) (bit_of w (b % 64) == 1) (known_at k.known b) (sym (row_known b) ∙ e));
  gone = λ b h. row_stays table n r w b k.known now row_known (t.gone b h);
  loads = t.loads;
}

pub row_matching : (p : Layout) (table : MatchTable) (n r w b : ℕ) (v : View) → table.rows ≡ p.rows → n < p.nodes → r < width p → Found p (load_row n r) v w → b / 64 ≡ r → (bit_of w (b % 64) == 1) ≡ true → in_row table b n ≡ true
row_matching p table n r w b v same_rows node within f here set =
    let marked : mark p f.0.words n b ≡ 1 = mark_is p f.0.words n b ∙ (ap (λ (i : ℕ). bit_of (slice_index f.0.words (row_at p n i)) (b % 64)) here ∙ (ap (λ (x : ℕ). bit_of x (b % 64)) f.3 ∙ eqb_is (bit_of w (b % 64)) 1 set)) in
    matched p table same_rows b n (f.1.sound.only b n (subst (λ (i : ℕ). i < width p) (sym here) within) node marked)

-- ---- a load of a summary

pub tied_node : (p : Layout) (n w : ℕ) (v : View) (k : Book) → IsTied p v k → IsTied p (after p (load_node n) w v) (record k { all_loads = k.all_loads + 1 })
tied_node p n w v k t = record { idle = t.idle; known_is = t.known_is; deeds = t.deeds; reads = t.reads; all_loads = omega (arith, length-append v.loads (n ∷ []), t.all_loads); cleared = t.cleared; alone = t.alone; gone = t.gone; loads = (t.loads.0, λ i. let was = t.loads.1 i in omega arith) }

-- a row word that the summary lacks has no binding that would be found missing
pub no_row : (p : Layout) (table : MatchTable) (n w b : ℕ) (v : View) (ks : List Known) → table.rows ≡ p.rows → Found p (load_node n) v w → IsKnown p v ks → (bit_of w (b / 64) == 1) ≡ false → known_after_load (in_row table b n) false (known_at ks b) ≡ known_at ks b
no_row p table n w b v ks same_rows f k none = cases (in_row table b n) (known_at ks b) (λ m on. by_lt b (bindings p)
    (λ (lt : b < bindings p).
    let attached_now = (f.1.each f.2.0 v f.2.1).knows.attached_is b lt (known_attached v b (told_attached (known v b) (sym (k.1 b lt) ∙ on))).1 in
    let there = f.1.sound.summed b n lt attached_now (matches_by p table same_rows b n m) in
    let bit : bit_of w (b / 64) ≡ 1 = ap (λ (x : ℕ). bit_of x (b / 64)) (sym f.3) ∙ (sym (summary_is f.0.words n (b / 64)) ∙ there) in
    let zero_bit = not_flag (bit_of w (b / 64)) (bit_fits w (b / 64)) none in omega arith)
    (λ (out : bindings p ≤ b). let fresh_one : knowns.Fresh ≡ knowns.Attached = sym (past_end ks b (omega (arith, k.0))) ∙ on in cc))
  where
    cases : (m : Bool) (x : Known) → (m ≡ true → x ≡ knowns.Attached → ⊥) → known_after_load m false x ≡ x
    cases false x h = refl
    cases true knowns.Fresh h = refl
    cases true knowns.Disposed h = refl
    cases true knowns.Attached h = absurd (h refl refl)

-- no binding stands behind the last row word
pub past_row : (p : Layout) (table : MatchTable) (n b : ℕ) (v : View) (ks : List Known) (t : Bool) → IsKnown p v ks → width p ≤ b / 64 → known_after_load (in_row table b n) t (known_at ks b) ≡ known_at ks b
past_row p table n b v ks t k far =
    let gone : known_at ks b ≡ knowns.Fresh = past_end ks b (omega (arith, k.0, width_is p)) in
    ap (known_after_load (in_row table b n) t) gone ∙ (fresh_stays (in_row table b n) t ∙ sym gone)
