-- What the last words and the lists of all seats say together, where the last seat has all shares of the seats.
use Rattle.std.proofs.Common.{◌≡◌, ◌≢◌, ◌⊎◌, ℕ, zero, suc, ◌+◌, ◌*◌, ◌<◌, ◌≤◌, ◌^◌, List, [], ◌∷◌, ◌++◌, length, Bool, true, false, if◌then◌else◌, ◌==◌, ◌&&◌, Some, None, sym, refl, ap, ◌∙◌, subst, arith, inl, inr, ⊎_elim, eq-eqb, ne_eqb}
use Rattle.std.specs.Prelude.{nat_lt, slice_index, slice_index_or, count_by as how_many}
use Rattle.std.specs.List.{All, filter_map, list_any}
use Rattle.std.specs.Option.{ForSome}
use Rattle.std.proofs.lemmas.List.Elements.{All-cons, All-nil}
use Rattle.std.proofs.lemmas.Bool.Decides.{nat_tests}
use mathlib.Core.Option.{some}
use lib.ListN.{get_elem?}
use Rattle.pd_board.proofs.ChainLemmas.{by_eq}
use Rattle.pd_board.specs.declared.answers.ActResult.{ActResult}
use Rattle.pd_board.specs.declared.answers.ActResult.TheVariants as acts
use Rattle.pd_board.specs.declared.answers.Attach.TheVariants as attaches
use Rattle.pd_board.specs.declared.answers.Known.TheVariants as knowns
use Rattle.pd_board.specs.declared.answers.Sight.{Sight}
use Rattle.pd_board.specs.declared.answers.State.TheVariants as states
use Rattle.pd_board.specs.declared.answers.BindingTally.{BindingTally}
use Rattle.pd_board.specs.Answers.{has_attach, has_attachment, has_disposal, is_attach, is_attachment, is_disposal, disposal, toggle_count, TogglesUpTo}
use Rattle.pd_board.specs.Kept.{numbers_of, disables_upto, enables_upto, IsMissed, FitsToggles, EachAfter}
use Rattle.pd_board.specs.Tally.{state_by, no_tally}
use Rattle.pd_core.specs.declared.view.View.{View}
use Rattle.pd_core.specs.declared.view.Deeds.{Deeds}
use Rattle.pd_core.specs.declared.view.Talk.{Talk}
use Rattle.pd_core.specs.Layout.{Layout, bindings, binding_word, session_word, end_word, front, width}
use Rattle.pd_core.proofs.Places.{front_is}
use Rattle.pd_core.specs.Words.{attached, disposed, off, sum_in}
use Rattle.pd_core.specs.Counts.{total, same, pair_is, once_below, one_if}
use Rattle.pd_core.specs.Talks.{numbers, ends_of, silent}
use Rattle.pd_core.specs.Views.{over, of_all, no_deeds, talk_of, drew_number, missed, misses, toggles_upto, toggles_from, toggles_at, makings, firsts, lates, disposals, count_kept}
use Rattle.pd_core.specs.Good.{Good, Answered, Ordered}
use Rattle.pd_core.specs.Runs.{IsLast}
use Rattle.pd_core.proofs.Sums.{total-at, total-append, same_here, same_else}
use Rattle.pd_core.proofs.Bits.{disposed_fits, attached_fits}
use Rattle.pd_core.proofs.Draws.{zero_or_one}
use Rattle.pd_core.proofs.Seats.{drawn_none, firsts_none, disposals_none, misses_none, upto_none, from_none}
use Rattle.pd_core.proofs.Whole.{whole_total}
use Rattle.atomic_table.proofs.Lists.{at_map}
use Rattle.pd_shared.specs.declared.token.Reads.{Reads}
use Rattle.pd_shared.specs.declared.token.Token.{Token}
use Rattle.pd_shared.specs.declared.sights.Sights.{Sights}
use Rattle.pd_board.specs.Journal.{Entries}
use Rattle.pd_shared.specs.Book.{book_of, known_at, reads_at}
use Rattle.pd_shared.specs.Tied.{AreDeeds, AreReads, IsTied}
use Rattle.pd_board.specs.Order.{IsInOrder, OnceBelow, is_first, disables_from, enables_from, HasCause}
use Rattle.pd_shared.specs.Held.{IsHeld}
use Rattle.pd_shared.specs.Left.{DidLeave}
use Rattle.pd_shared.specs.Sitting.{number_for}
use Rattle.pd_shared.specs.Closed.{tally_by, AreTallies, AreNumbers, OfEachSeat, IsOutcomeOfAll, all_sights, all_replies, IsClosed, CountsOnce, AnswersOnce, TogglesHaveCauses, ReadsWithin}
use Rattle.std.proofs.Math.Logic.{∥∥₁_elim}
use Rattle.std.specs.Coded.{coded_ℕ, coded_bool, le_prop}
use base.Stored.{Coded-set}
use Rattle.pd_shared.proofs.ActLemmas.{not_flag, yes_or_no, gone_there, attached_there}
use Rattle.pd_shared.proofs.NumberLemmas.{over_own, off_fits, toggles_in, toggles_are}
use Rattle.pd_shared.proofs.SettledLemmas.{disables_settled, enables_settled}
use Rattle.pd_shared.proofs.CauseLemmas.{cause_since, cause_of, disables_from_is, enables_from_is, each_left}
use Rattle.pd_shared.proofs.AllLemmas.{some_weight, total_same, count_total, any_none, any_some, filter_total, map_total, over_total, all_all, late_weight, firsts_is, lates_is, makings_is, disposals_is, first_splits, finals_in, disables_is, enables_is, number_weight, numbers_is, numbers_counted, places, over_splits, sights_fit}

-- ---- small facts

flag_true : (n : ℕ) → (n == 1) ≡ true → n ≡ 1
flag_true n e = by_eq n 1 (λ (q : n ≡ 1). q) (λ (ne : n ≢ 1). absurd (let q : true ≡ false = sym e ∙ ne_eqb n 1 ne in cc))

any_flag : {A : Type 0} (p : A → Bool) (xs : List A) (n : ℕ) → n < 2 → total (λ x. one_if (p x)) xs ≡ n → list_any p xs ≡ (n == 1)
any_flag p xs n h e = ⊎_elim
    (λ (none : n ≡ 0). any_none p xs (e ∙ none) ∙ sym (ne_eqb n 1 (λ q. omega arith)))
    (λ (one : n ≡ 1). any_some p xs (omega (arith, e)) ∙ sym (eq-eqb n 1 one))
    (zero_or_one n h)

state_same : (gone a b : Bool) → (gone ≡ false → a ≡ b) → state_by gone a ≡ state_by gone b
state_same true a b h = refl
state_same false a b h = ap (state_by false) (h refl)

below_test : (x n : ℕ) → once_below x n ≡ (if nat_lt x n then 1 else 0)
unfolding once_below
below_test x n = grind (arith, nat_tests)

below_one : (x n : ℕ) → once_below x n ≤ 1
unfolding once_below
below_one x n = grind (arith, nat_tests)

below_some : (x n : ℕ) → 0 < once_below x n → x < n
unfolding once_below
below_some x n = grind (arith, nat_tests)

first_attaches : (b : ℕ) (rs : List ActResult) → total (λ r. one_if (is_first b r)) rs ≤ total (λ r. one_if (is_attach b r)) rs
unfolding total
first_attaches b [] = omega arith
first_attaches b (r ∷ rs) = let here = one r in omega (arith, first_attaches b rs)
  where
    less : (s t : Bool) → one_if (s && t) ≤ one_if s
    less true true = omega arith
    less true false = omega arith
    less false t = omega arith

    one : (y : ActResult) → one_if (is_first b y) ≤ one_if (is_attach b y)
    one (acts.Attached c attaches.Attached) = less (c == b) true
    one (acts.Attached c attaches.Gone) = less (c == b) true
    one (acts.Attached c attaches.Already) = less (c == b) false
    one (acts.Disposed c a) = omega arith
    one (acts.Enabled c a) = omega arith
    one (acts.Disabled c a) = omega arith

either_zero : (n : ℕ) → (n ≡ 0) ⊎ (0 < n)
either_zero zero = inl refl
either_zero (suc n) = inr (omega arith)

misses_are : (b x : ℕ) (d : Deeds) → misses b x d ≡ total (missed b x) d.sights
unfolding misses
misses_are b x d = refl

kept_are : (b n : ℕ) (d : Deeds) → count_kept b n d ≡ total (pair_is b n) d.counts
unfolding count_kept
kept_are b n d = refl

-- ---- one binding

module _ (p : Layout) (ws : List ℕ) (views : List View) (id : ℕ) (v : View) (g : Good p ws views) (at : get_elem? views id ≡ some v) (share : v.seat_share ≡ 2 ^ 32) (own : Entries) (left : List Sights) (did : AreDeeds v.deeds own) (others : DidLeave left v.taken) (b : ℕ) (lt : b < bindings p) where
  abbrev w : ℕ
  w = binding_word p ws b

  abbrev rs : List ActResult
  rs = all_replies own left

  abbrev ss : List Sight
  ss = all_sights own left

  whole : (f : Deeds → ℕ) → over f no_deeds [] ≡ 0 → total (of_all f) views ≡ of_all f v
  whole f none = whole_total p ws views id v (of_all f) g at share none

  by_replies : (f : Deeds → ℕ) (h : ActResult → ℕ) → ((d : Deeds) (e : Entries) → AreDeeds d e → f d ≡ total h e.replies) → of_all f v ≡ total h rs
  by_replies f h each = over_total (λ e. e.replies) f h each v.deeds v.taken own left did others

  of_own : (f : Deeds → ℕ) → f v.deeds ≤ of_all f v
  of_own f = over_own f v.deeds v.taken

  of_other : (f : Deeds → ℕ) (k : ℕ) (d : Deeds) → get_elem? v.taken k ≡ some d → f d ≤ of_all f v
  unfolding over
  of_other f k d e = omega (arith, total-at f v.taken k d e)

  firsts_all : total (λ r. one_if (is_first b r)) rs ≡ attached w
  firsts_all = sym (by_replies (firsts b) (λ r. one_if (is_first b r)) (firsts_is b)) ∙ (sym (whole (firsts b) (firsts_none b)) ∙ g.counted.set_first b lt)

  disposals_all : total (λ r. one_if (is_disposal b r)) rs ≡ disposed w
  disposals_all = sym (by_replies (disposals b) (λ r. one_if (is_disposal b r)) (disposals_is b)) ∙ (sym (whole (disposals b) (disposals_none b)) ∙ g.counted.ended b lt)

  lates_all : of_all (lates b) v ≡ total (late_weight b) rs
  lates_all = by_replies (lates b) (late_weight b) (lates_is b)

  makings_all : of_all (makings b) v ≡ total (λ r. one_if (is_attach b r)) rs
  makings_all = by_replies (makings b) (λ r. one_if (is_attach b r)) (makings_is b)

  attachments_all : total (λ r. one_if (is_attachment b r)) rs + of_all (lates b) v ≡ attached w
  attachments_all = omega (arith, first_splits b rs, firsts_all, lates_all)

  disables_all : (x : ℕ) → total (of_all (toggles_upto true b x)) views ≡ how_many (disables_upto b x) rs
  disables_all x = whole (toggles_upto true b x) (upto_none true b x) ∙ (by_replies (toggles_upto true b x) (λ r. one_if (disables_upto b x r)) (disables_is b x) ∙ count_total (disables_upto b x) rs)

  enables_all : (x : ℕ) → total (of_all (toggles_upto false b x)) views ≡ how_many (enables_upto b x) rs
  enables_all x = whole (toggles_upto false b x) (upto_none false b x) ∙ (by_replies (toggles_upto false b x) (λ r. one_if (enables_upto b x r)) (enables_is b x) ∙ count_total (enables_upto b x) rs)

  drawn_all : (x : ℕ) → of_all (drew_number b x) v ≡ once_below x (g.limit b)
  drawn_all x = sym (whole (drew_number b x) (drawn_none b x)) ∙ g.counted.drawn b x lt

  missed_all : (x : ℕ) → total (of_all (misses b x)) views ≡ of_all (misses b x) v
  missed_all x = whole (misses b x) (misses_none b x)

  -- ---- its state and its count

  has_disposal_is : has_disposal b rs ≡ (disposed w == 1)
  has_disposal_is = any_flag (is_disposal b) rs (disposed w) (disposed_fits w) disposals_all

  late_one : 0 < of_all (lates b) v → (disposed w ≡ 1) × (g.limit b ≡ 0)
  late_one there = (g.each id v at).done.late_is b lt there

  has_attachment_is : (disposed w == 1) ≡ false → has_attachment b rs ≡ (attached w == 1)
  has_attachment_is e = any_flag (is_attachment b) rs (attached w) (attached_fits w)
      (⊎_elim (λ (none : of_all (lates b) v ≡ 0). omega (arith, attachments_all))
      (λ (there : 0 < of_all (lates b) v). absurd (let gone = (late_one there).0 in let q : true ≡ false = sym (eq-eqb (disposed w) 1 gone) ∙ e in cc))
      (either_zero (of_all (lates b) v)))

  state : state_by (disposed w == 1) (attached w == 1) ≡ state_by (has_disposal b rs) (has_attachment b rs)
  state = sym (ap (λ (s : Bool). state_by s (has_attachment b rs)) has_disposal_is ∙ state_same (disposed w == 1) (has_attachment b rs) (attached w == 1) has_attachment_is)

  count : (seats : ℕ) (counts : List ℕ) → IsHeld p v seats counts → (if disposed w == 1 then slice_index counts b else sum_in w) ≡ g.limit b
  count seats counts h = ⊎_elim
      (λ (gone : (disposed w == 1) ≡ true).
      let one = flag_true (disposed w) gone in
      let there : 0 < of_all (disposals b) v = omega (arith, whole (disposals b) (disposals_none b), g.counted.ended b lt, one) in
      ap (λ (s : Bool). if s then slice_index counts b else sum_in w) gone ∙ ((g.each id v at).done.count_is b (slice_index counts b) lt (h.found b lt there)).1)
      (λ (open_yet : (disposed w == 1) ≡ false).
      ap (λ (s : Bool). if s then slice_index counts b else sum_in w) open_yet ∙ sym (g.sound.until b lt (not_flag (disposed w) (disposed_fits w) open_yet)))
      (yes_or_no (disposed w == 1))

  -- ---- its numbers and its answers

  numbers_once : OnceBelow (g.limit b) (numbers_of b ss)
  numbers_once x = numbers_counted b x ss ∙ (sym (over_total (λ e. e.sights) (drew_number b x) (number_weight b x) (numbers_is b x) v.deeds v.taken own left did others) ∙ (drawn_all x ∙ below_test x (g.limit b)))

  is_attached : 0 < g.limit b → has_attachment b rs ≡ true
  is_attached there = any_some (is_attachment b) rs
      (⊎_elim (λ (none : of_all (lates b) v ≡ 0). ⊎_elim
      (λ (z : attached w ≡ 0). absurd (omega (arith, g.sound.none_yet b lt z, g.sound.within b lt)))
      (λ (one : 0 < attached w). omega (arith, attachments_all))
      (either_zero (attached w)))
      (λ (late : 0 < of_all (lates b) v). absurd (omega (arith, (late_one late).1)))
      (either_zero (of_all (lates b) v)))

  firsts_are : how_many (is_first b) rs ≡ (if has_attach b rs then 1 else 0)
  firsts_are = sym (count_total (is_first b) rs) ∙ (firsts_all ∙ ⊎_elim
      (λ (z : attached w ≡ 0).
      let none : of_all (makings b) v ≡ 0 = ⊎_elim (λ q. q) (λ (made : 0 < of_all (makings b) v). absurd (omega (arith, (g.each id v at).done.made_is b lt made))) (either_zero (of_all (makings b) v)) in
      z ∙ sym (ap (λ (s : Bool). if s then 1 else 0) (any_none (is_attach b) rs (sym makings_all ∙ none))))
      (λ (one : attached w ≡ 1). one ∙ sym (ap (λ (s : Bool). if s then 1 else 0) (any_some (is_attach b) rs (omega (arith, first_attaches b rs, firsts_all)))))
      (zero_or_one (attached w) (attached_fits w)))

  disposals_are : how_many (is_disposal b) rs ≤ 1
  disposals_are = omega (arith, count_total (is_disposal b) rs, disposals_all, disposed_fits w)

  -- each count that is kept
  abbrev KeepsLimit : Deeds → Type 0
  KeepsLimit d = (m : ℕ) → 0 < count_kept b m d → m ≡ g.limit b

  kept : (d : Deeds) → ((m : ℕ) → count_kept b m d ≤ of_all (count_kept b m) v) → KeepsLimit d
  kept d less m there = ((g.each id v at).done.count_is b m lt (let low = less m in omega arith)).1

  finals_one : (d : Deeds) (e : Entries) → AreDeeds d e → KeepsLimit d → All (λ r. ForSome (disposal b r) (λ m. m ≡ g.limit b)) e.replies
  finals_one d e a k = finals_in b (g.limit b) e.replies (λ m there. k m (subst (λ (n : ℕ). 0 < n) (sym (kept_are b m d ∙ ap (total (pair_is b m)) a.counts)) there))

  finals : All (λ r. ForSome (disposal b r) (λ m. m ≡ g.limit b)) rs
  finals = all_all (λ e. e.replies) KeepsLimit (λ r. ForSome (disposal b r) (λ m. m ≡ g.limit b)) finals_one own.replies left v.taken (finals_one v.deeds own did (kept v.deeds (λ m. of_own (count_kept b m)))) others (λ k d e. kept d (λ m. of_other (count_kept b m) k d e))

  -- ---- its toggles

  abbrev CountsLow : Deeds → Type 0
  CountsLow d = (c : ℕ) → 0 < toggles_at b c d → c ≤ g.limit b

  low : (d : Deeds) → ((c : ℕ) → toggles_at b c d ≤ of_all (toggles_at b c) v) → CountsLow d
  low d less c there = (g.each id v at).done.toggle_is b c lt (let under = less c in omega arith)

  counted_one : (d : Deeds) (e : Entries) → AreDeeds d e → CountsLow d → TogglesUpTo b (g.limit b) e.replies
  counted_one d e a k = toggles_in b (g.limit b) d.toggles e.replies a.toggles (λ c there. k c (subst (λ (n : ℕ). 0 < n) (sym (toggles_are b c d)) there))

  counted : TogglesUpTo b (g.limit b) rs
  counted = all_all (λ e. e.replies) CountsLow (λ r. ForSome (toggle_count b r) (λ c. c ≤ g.limit b)) counted_one own.replies left v.taken (counted_one v.deeds own did (low v.deeds (λ c. of_own (toggles_at b c)))) others (λ k d e. low d (λ c. of_other (toggles_at b c) k d e))

  -- while it isn't disposed, by its word
  pub off_by_word : disposed w ≡ 0 → (n : ℕ) → g.limit b ≤ n → IsMissed b n (off w == 1) rs
  off_by_word z n past = let sum = (g.switched b lt).on n past z in ⊎_elim
      (λ (on : off w ≡ 0). subst (λ (s : Bool). IsMissed b n s rs) (sym (ne_eqb (off w) 1 (λ q. omega arith))) (let q : how_many (disables_upto b n) rs ≡ how_many (enables_upto b n) rs + 0 = omega (arith, disables_all n, enables_all n) in q))
      (λ (one : off w ≡ 1). subst (λ (s : Bool). IsMissed b n s rs) (sym (eq-eqb (off w) 1 one)) (let q : how_many (disables_upto b n) rs ≡ how_many (enables_upto b n) rs + 1 = omega (arith, disables_all n, enables_all n) in q))
      (zero_or_one (off w) (off_fits w))

  -- and else as it was at the limit, since no toggle has a greater count
  settled : (s : Bool) → IsMissed b (g.limit b) s rs → (n : ℕ) → g.limit b ≤ n → IsMissed b n s rs
  settled s at_limit n past = disables_settled b (g.limit b) n rs past counted ∙ (at_limit ∙ ap (λ k. k + (if s then 1 else 0)) (sym (enables_settled b (g.limit b) n rs past counted)))

  at_limit : disposed w ≡ 1 → (s : Bool) × IsMissed b (g.limit b) s rs
  at_limit one = ⊎_elim
      (λ e. (false, (let q : how_many (disables_upto b (g.limit b)) rs ≡ how_many (enables_upto b (g.limit b)) rs + 0 = omega (arith, e, disables_all (g.limit b), enables_all (g.limit b)) in q)))
      (λ e. (true, (let q : how_many (disables_upto b (g.limit b)) rs ≡ how_many (enables_upto b (g.limit b)) rs + 1 = omega (arith, e, disables_all (g.limit b), enables_all (g.limit b)) in q)))
      ((g.switched b lt).gone (g.limit b) (omega arith) one)

  toggles : (is_off : Bool) × ((n : ℕ) → g.limit b ≤ n → IsMissed b n is_off rs)
  toggles = ⊎_elim
      (λ (z : disposed w ≡ 0). (off w == 1, off_by_word z))
      (λ (one : disposed w ≡ 1). let found = at_limit one in (found.0, settled found.0 found.1))
      (zero_or_one (disposed w) (disposed_fits w))

  -- a number that is a place, and one that is missed
  place_is : (x : ℕ) → 0 < of_all (places b x) v → IsMissed b x false rs
  place_is x there =
      let sum = over_splits b x v.deeds v.taken in
      let drawn = drawn_all x in
      let one = below_one x (g.limit b) in
      let below = (g.switched b lt).below x (below_some x (g.limit b) (omega arith)) in
      let q : how_many (disables_upto b x) rs ≡ how_many (enables_upto b x) rs + 0 = omega (arith, disables_all x, enables_all x, missed_all x) in q

  missed_is : (x : ℕ) → 0 < of_all (misses b x) v → IsMissed b x true rs
  missed_is x there =
      let sum = over_splits b x v.deeds v.taken in
      let drawn = drawn_all x in
      let one = below_one x (g.limit b) in
      let below = (g.switched b lt).below x (below_some x (g.limit b) (omega arith)) in
      let q : how_many (disables_upto b x) rs ≡ how_many (enables_upto b x) rs + 1 = omega (arith, disables_all x, enables_all x, missed_all x) in q

  abbrev SaysSo : Deeds → Type 0
  SaysSo d = (x : ℕ) → (0 < places b x d → IsMissed b x false rs) × (0 < misses b x d → IsMissed b x true rs)

  says : (d : Deeds) → ((f : Deeds → ℕ) → f d ≤ of_all f v) → SaysSo d
  says d less x = (λ there. place_is x (let under = less (places b x) in omega arith), λ there. missed_is x (let under = less (misses b x) in omega arith))

  fit_one : (d : Deeds) (e : Entries) → AreDeeds d e → SaysSo d → All (FitsToggles b rs) e.sights
  fit_one d e a k = subst (All (FitsToggles b rs)) (sym a.sights) (sights_fit b rs d.sights (λ x there. (k x).0 there) (λ x there. (k x).1 (subst (λ (n : ℕ). 0 < n) (sym (misses_are b x d)) there)))

  fits : All (FitsToggles b rs) ss
  fits = all_all (λ e. e.sights) SaysSo (FitsToggles b rs) fit_one own.sights left v.taken (fit_one v.deeds own did (says v.deeds of_own)) others (λ k d e. says d (λ f. of_other f k d e))

  -- ---- the causes of its toggles that found nothing to change

  disables_since : (x : ℕ) → 0 < total (of_all (toggles_from true b x)) views → list_any (disables_from b x) rs ≡ true
  disables_since x some_there = any_some (disables_from b x) rs (subst (λ (n : ℕ). 0 < n) (whole (toggles_from true b x) (from_none true b x) ∙ by_replies (toggles_from true b x) (λ r. one_if (disables_from b x r)) (disables_from_is b x)) some_there)

  enables_since : (x : ℕ) → 0 < total (of_all (toggles_from false b x)) views → list_any (enables_from b x) rs ≡ true
  enables_since x some_there = any_some (enables_from b x) rs (subst (λ (n : ℕ). 0 < n) (whole (toggles_from false b x) (from_none false b x) ∙ by_replies (toggles_from false b x) (λ r. one_if (enables_from b x r)) (enables_from_is b x)) some_there)

  abbrev there : Bool → ℕ → ℕ → ℕ
  there kind c x = total (of_all (toggles_from kind c x)) views

  cause_one : (d : Deeds) (e : Entries) → AreDeeds d e → Answered there d → EachAfter (HasCause b rs) e.replies
  cause_one d e a answered k u lt_k = record {
    disabled = λ is. disables_since 0 (cause_of there d e a answered b k u lt_k is);
    disabled_since = λ is n before. disables_since n (cause_since there d e a answered b k n u true lt_k is before);
    enabled_since = λ is n before. enables_since n (cause_since there d e a answered b k n u false lt_k is before);
  }

  pub causes_of_all : OfEachSeat (EachAfter (HasCause b rs)) own left
  causes_of_all = (
    cause_one v.deeds own did (g.answered id v at v.deeds (inl refl)),
    each_left (Answered there) (EachAfter (HasCause b rs)) cause_one left v.taken others (λ k d e. g.answered id v at d (inr (k, e))),
  )

  -- the same by the tally
  pub offs_of_all : (seats : ℕ) (counts : List ℕ) → IsHeld p v seats counts → disposed w ≡ 0 → (n : ℕ) → (tally_by w (slice_index counts b)).count ≤ n → IsMissed b n (off w == 1) rs
  offs_of_all seats counts h z n past = off_by_word z n (subst (λ (m : ℕ). m ≤ n) (count seats counts h) past)

  pub outcome_of_all : (seats : ℕ) (counts : List ℕ) → IsHeld p v seats counts → IsOutcomeOfAll b ss rs (tally_by w (slice_index counts b))
  outcome_of_all seats counts h =
      let is = count seats counts h in
      record {
        state_is = state;
        numbers = subst (λ (n : ℕ). OnceBelow n (numbers_of b ss)) (sym is) numbers_once;
        attached_is = λ there. is_attached (subst (λ (n : ℕ). 0 < n) is there);
        first = firsts_are;
        disposals = disposals_are;
        final = subst (λ (n : ℕ). All (λ r. ForSome (disposal b r) (λ m. m ≡ n)) rs) (sym is) finals;
        counted = subst (λ (n : ℕ). TogglesUpTo b n rs) (sym is) counted;
        toggles = (toggles.0, λ n past. toggles.1 n (subst (λ (m : ℕ). m ≤ n) is past));
        toggled = fits;
      }

-- ---- the answers of a session

pair_weight : (s x : ℕ) (q : ℕ × ℕ) → some_weight (λ y. one_if (y == x)) (number_for s q) ≡ pair_is s x q
unfolding pair_is
pair_weight s x q = by_eq q.0 s
    (λ (e : q.0 ≡ s). ap (λ (t : Bool). some_weight (λ y. one_if (y == x)) (if t then Some q.1 else None)) (eq-eqb q.0 s e) ∙ (test q.1 ∙ ((let one : same x q.1 ≡ 1 * same x q.1 = omega arith in one) ∙ ap (λ (n : ℕ). n * same x q.1) (sym (same_here s q.0 (sym e))))))
    (λ (ne : q.0 ≢ s). ap (λ (t : Bool). some_weight (λ y. one_if (y == x)) (if t then Some q.1 else None)) (ne_eqb q.0 s ne) ∙ ((let none : 0 ≡ 0 * same x q.1 = omega arith in none) ∙ ap (λ (n : ℕ). n * same x q.1) (sym (same_else s q.0 (λ e. ne (sym e))))))
  where
    test : (y : ℕ) → one_if (y == x) ≡ same x y
    test y = by_eq y x
        (λ (e : y ≡ x). ap one_if (eq-eqb y x e) ∙ sym (same_here x y (sym e)))
        (λ (ne : y ≢ x). ap one_if (ne_eqb y x ne) ∙ sym (same_else x y (λ e. ne (sym e))))

numbers_are : (s x : ℕ) (t : Talk) → how_many (λ y. y == x) (filter_map (number_for s) (t.numbers ++ t.handed)) ≡ numbers s x t
unfolding numbers
numbers_are s x t = sym (count_total (λ y. y == x) (filter_map (number_for s) (t.numbers ++ t.handed)))
    ∙ (filter_total (λ y. one_if (y == x)) (number_for s) (t.numbers ++ t.handed) ∙ (total_same _ (pair_is s x) (pair_weight s x) (t.numbers ++ t.handed) ∙ total-append (pair_is s x) t.numbers t.handed))

numbers_none : (s x : ℕ) → numbers s x silent ≡ 0
unfolding numbers total
numbers_none s x = refl

pub answers_once : (p : Layout) (ws : List ℕ) (views : List View) (id : ℕ) (v : View) → Good p ws views → get_elem? views id ≡ some v → v.seat_share ≡ 2 ^ 32 → (s : ℕ) → s < p.sessions → OnceBelow (session_word p ws s) (filter_map (number_for s) (v.talk.numbers ++ v.talk.handed))
answers_once p ws views id v g at share s lt x =
    numbers_are s x v.talk ∙ (sym (whole_total p ws views id v (λ u. numbers s x u.talk) g at share (numbers_none s x)) ∙ (sym (map_total (numbers s x) talk_of views) ∙ (g.spoken.numbered s x lt ∙ below_test x (session_word p ws s))))

-- ---- what was read

reads_fit : (p : Layout) (ws : List ℕ) (views : List View) (id : ℕ) (v : View) (ended : Bool) (sessions : List Reads) (ends : Reads) → Good p ws views → get_elem? views id ≡ some v → AreReads p v.talk ended sessions ends → (s : ℕ) → s < p.sessions → (reads_at sessions s).last ≤ session_word p ws s
reads_fit p ws views id v ended sessions ends g at r s lt = ⊎_elim
    (λ (none : (reads_at sessions s).last ≡ 0). omega arith)
    (λ (some_read : 0 < (reads_at sessions s).last). (g.spoken.heard id v.talk (at_map talk_of views id v at)).reads s (reads_at sessions s).last lt (r.last s lt some_read))
    (either_zero (reads_at sessions s).last)

ends_fit : (p : Layout) (ws : List ℕ) (views : List View) (id : ℕ) (v : View) (ended : Bool) (sessions : List Reads) (ends : Reads) → Good p ws views → get_elem? views id ≡ some v → v.seat_share ≡ 2 ^ 32 → AreReads p v.talk ended sessions ends → ends.last ≤ ends_of v.talk
ends_fit p ws views id v ended sessions ends g at share r =
    let all : ends_of v.talk ≡ end_word p ws = sym (whole_total p ws views id v (λ u. ends_of u.talk) g at share refl) ∙ (sym (map_total ends_of talk_of views) ∙ g.spoken.ends) in ⊎_elim
    (λ (none : ends.last ≡ 0). omega arith)
    (λ (some_read : 0 < ends.last). let low = (g.spoken.heard id v.talk (at_map talk_of views id v at)).end_reads ends.last (r.last_end some_read) in omega arith)
    (either_zero ends.last)

-- ---- each seat's toggles among its draws

all_timed : (left : List Sights) (ds : List Deeds) → DidLeave left ds → All (λ d. (steps : ℕ) × Ordered d steps) ds
all_timed [] [] k = All-nil (λ d. (steps : ℕ) × Ordered d steps)
all_timed [] (d ∷ ds) k = absurd k
all_timed (s ∷ more) [] k = absurd k
all_timed (s ∷ more) (d ∷ ds) k = All-cons (λ d. (steps : ℕ) × Ordered d steps) d ds k.0.timed (all_timed more ds k.1)

-- ---- the tally

state_of : (w n : ℕ) (t : BindingTally) → t ≡ tally_by w n → t.state ≡ state_by (disposed w == 1) (attached w == 1)
state_of w n t e = ap (λ (x : BindingTally). x.state) e

sum_of : (w n : ℕ) (t : BindingTally) → t ≡ tally_by w n → disposed w ≡ 0 → t.count ≡ sum_in w
sum_of w n t e z = ap (λ (x : BindingTally). x.count) e ∙ ap (λ (s : Bool). if s then n else sum_in w) (ne_eqb (disposed w) 1 (λ q. omega arith))

gone_state : (gone : ℕ) (a : Bool) → gone ≡ 1 → state_by (gone == 1) a ≡ states.Disposed
gone_state gone a e = ap (λ (t : Bool). state_by t a) (eq-eqb gone 1 e)

not_unattached : (gone : Bool) → state_by gone true ≡ states.Unattached → ⊥
not_unattached true e = cc
not_unattached false e = cc

some_state : (gone : Bool) (a : ℕ) → a ≡ 1 → state_by gone (a == 1) ≡ states.Unattached → ⊥
some_state gone a e none = not_unattached gone (sym (ap (state_by gone) (eq-eqb a 1 e)) ∙ none)

pub closed : (p : Layout) (last : Token) (ws : List ℕ) (tallies : List BindingTally) (counts : List ℕ) → IsLast p last.pass.view ws → IsTied p last.pass.view (book_of last) → IsHeld p last.pass.view last.seats last.counts.items
    → AreTallies ws (front p) last.counts.items (bindings p) tallies → AreNumbers ws (front p + bindings p) p.sessions counts → IsClosed p last tallies counts
closed p last ws tallies counts end tied held are answers =
    let all : 2 ^ 32 ≤ last.pass.view.seat_share → last.pass.view.seat_share ≡ 2 ^ 32 = (λ whole. omega (arith, total-at (λ (u : View). u.seat_share) end.0 end.2.0 last.pass.view end.2.1, end.1.counted.seats)) in
    let gone : (b : ℕ) → b < bindings p → known_at last.known.items b ≡ knowns.Disposed → (slice_index_or tallies b no_tally).state ≡ states.Disposed =
    (λ b lt e. state_of (binding_word p ws b) (slice_index last.counts.items b) (slice_index_or tallies b no_tally) (are.each b lt) ∙ gone_state (disposed (binding_word p ws b)) (attached (binding_word p ws b) == 1) (gone_there p ws end.0 end.2.0 b last.pass.view last.known.items end.1 end.2.1 lt tied.known_is e)) in
    let read : (s : ℕ) → s < p.sessions → (reads_at last.sessions.items s).last ≤ slice_index counts s =
    (λ s lt. subst (λ (n : ℕ). (reads_at last.sessions.items s).last ≤ n) (sym (answers.each s lt)) (reads_fit p ws end.0 end.2.0 last.pass.view last.ended last.sessions.items last.ends end.1 end.2.1 tied.reads s lt)) in
    record {
      bindings_are = are.length_is;
      sessions_are = answers.length_is;
      words = (
        ws,
        record {
          last_is = end;
          states = λ b lt. state_of (binding_word p ws b) (slice_index last.counts.items b) (slice_index_or tallies b no_tally) (are.each b lt);
          sums = λ b lt. sum_of (binding_word p ws b) (slice_index last.counts.items b) (slice_index_or tallies b no_tally) (are.each b lt);
          answers = answers.each;
          offs = λ whole left did b lt z n past. offs_of_all p ws end.0 end.2.0 last.pass.view end.1 end.2.1 (all whole) last.journal left tied.deeds did b lt last.seats last.counts.items held z n (subst (λ (t : BindingTally). t.count ≤ n) (are.each b lt) past);
        },
      );
      known_gone = gone;
      known_attached = λ b lt e none. some_state (disposed (binding_word p ws b) == 1) (attached (binding_word p ws b)) (attached_there p ws end.0 end.2.0 b last.pass.view last.known.items end.1 end.2.1 lt tied.known_is e)
          (sym (state_of (binding_word p ws b) (slice_index last.counts.items b) (slice_index_or tallies b no_tally) (are.each b lt)) ∙ none);
      own = record { gone = λ b lt e. gone b lt (tied.gone b e); read = read };
      others = λ left learned k d lt_k. let of_seat = learned k d lt_k in record { gone = λ b lt e. gone b lt (of_seat.gone b e); read = λ s lt. omega (arith, of_seat.answers s, read s lt) };
      ends = λ whole. ends_fit p ws end.0 end.2.0 last.pass.view last.ended last.sessions.items last.ends end.1 end.2.1 (all whole) tied.reads;
      outcomes = λ whole left did b lt. let share = all whole in subst (IsOutcomeOfAll b (all_sights last.journal left) (all_replies last.journal left)) (sym (are.each b lt))
          (outcome_of_all p ws end.0 end.2.0 last.pass.view end.1 end.2.1 share last.journal left tied.deeds did b lt last.seats last.counts.items held);
      others_ends = λ whole left learned k d lt_k. let low = ends_fit p ws end.0 end.2.0 last.pass.view last.ended last.sessions.items last.ends end.1 end.2.1 (all whole) tied.reads in omega (arith, (learned k d lt_k).ends, low);
      timed = λ left did. All-cons (λ d. (steps : ℕ) × Ordered d steps) last.pass.view.deeds last.pass.view.taken tied.deeds.timed (all_timed left last.pass.view.taken did);
      order = λ left did b. (tied.deeds.order b, each_left (λ d. Unit {0}) (EachAfter (IsInOrder b)) (λ d e a u. a.order b) left last.pass.view.taken did (λ k d e. tt));
      causes = λ whole left did b lt. causes_of_all p ws end.0 end.2.0 last.pass.view end.1 end.2.1 (all whole) last.journal left tied.deeds did b lt;
      numbers = λ whole s lt. let share = all whole in subst (λ (n : ℕ). OnceBelow n (filter_map (number_for s) (last.pass.view.talk.numbers ++ last.pass.view.talk.handed))) (sym (answers.each s lt)) (answers_once p ws end.0 end.2.0 last.pass.view end.1 end.2.1 share s lt);
    }

-- the same, by the lists and lengths that were read
pub closed_by : (p : Layout) (last : Token) (ws words words_2 founds : List ℕ) (nodes nodes_2 rows count sessions : ℕ) (made tallies : List BindingTally) (read counts : List ℕ)
    → IsLast p last.pass.view ws → IsTied p last.pass.view (book_of last) → IsHeld p last.pass.view last.seats last.counts.items → words ≡ ws → words_2 ≡ ws → founds ≡ last.counts.items
    → nodes ≡ p.nodes → nodes_2 ≡ p.nodes → rows ≡ width p → count ≡ bindings p → sessions ≡ p.sessions → tallies ≡ made → counts ≡ read
    → AreTallies words (nodes + nodes_2 * rows) founds (length founds) made → AreNumbers words_2 (nodes + nodes_2 * rows + count) sessions read → IsClosed p last tallies counts
closed_by p last ws words words_2 founds nodes nodes_2 rows count sessions made tallies read counts end tied held words_are words_2_are founds_are nodes_are nodes_2_are rows_are count_is sessions_are tallies_are counts_are of_bindings of_sessions =
    let first : nodes + nodes_2 * rows ≡ front p = (λ i. nodes_are i + nodes_2_are i * rows_are i) ∙ sym (front_is p) in
    let long : length founds ≡ bindings p = ap length founds_are ∙ held.counts_are in
    closed p last ws tallies counts end tied held
    (subst (λ (x : List ℕ × ℕ × List ℕ × ℕ × List BindingTally). AreTallies x.0 x.1 x.2 x.3 x.4) (λ i. (words_are i, first i, founds_are i, long i, sym tallies_are i)) of_bindings)
    (subst (λ (x : List ℕ × ℕ × ℕ × ℕ × List ℕ). AreNumbers x.0 (x.1 + x.2) x.3 x.4) (λ i. (words_2_are i, first i, count_is i, sessions_are i, sym counts_are i)) of_sessions)

-- ---- what is left of a tally that was closed from some last words

pub counts_once : (p : Layout) (last : Token) (tallies read : List BindingTally) (counts : List ℕ) → ∥ IsClosed p last tallies counts ∥₁ → read ≡ tallies → CountsOnce last read
counts_once p last tallies read counts kept is = subst (CountsOnce last) (sym is) (λ whole left did b lt x. ∥∥₁_elim kept (Coded-set coded_ℕ _ _) (λ (h : IsClosed p last tallies counts). (h.outcomes whole left did b (omega (arith, h.bindings_are))).numbers x))

pub answers_once_all : (p : Layout) (last : Token) (tallies : List BindingTally) (counts read : List ℕ) → ∥ IsClosed p last tallies counts ∥₁ → read ≡ counts → AnswersOnce last read
answers_once_all p last tallies counts read kept is = subst (AnswersOnce last) (sym is) (λ whole s lt x. ∥∥₁_elim kept (Coded-set coded_ℕ _ _) (λ (h : IsClosed p last tallies counts). h.numbers whole s (omega (arith, h.sessions_are)) x))

-- a cause is a fact, so it may come from what is only known to hold
cause_by : {X : Type 0} (b : ℕ) (replies before : List ActResult) (r : ActResult) → ∥ X ∥₁ → (X → HasCause b replies before r) → HasCause b replies before r
cause_by {X} b replies before r kept h = record {
  disabled = λ is. ∥∥₁_elim kept (Coded-set coded_bool _ _) (λ (x : X). (h x).disabled is);
  disabled_since = λ is n had. ∥∥₁_elim kept (Coded-set coded_bool _ _) (λ (x : X). (h x).disabled_since is n had);
  enabled_since = λ is n had. ∥∥₁_elim kept (Coded-set coded_bool _ _) (λ (x : X). (h x).enabled_since is n had);
}

pub toggles_have_causes : (p : Layout) (last : Token) (tallies read : List BindingTally) (counts : List ℕ) → ∥ IsClosed p last tallies counts ∥₁ → read ≡ tallies → TogglesHaveCauses last read
toggles_have_causes p last tallies read counts kept is = subst (TogglesHaveCauses last) (sym is) (λ whole left did b lt.
    let of : (h : IsClosed p last tallies counts) → OfEachSeat (EachAfter (HasCause b (all_replies last.journal left))) last.journal left = (λ h. h.causes whole left did b (omega (arith, h.bindings_are))) in (
      λ k d low. cause_by b (all_replies last.journal left) _ _ kept (λ h. (of h).0 k d low),
      λ i s there k d low. cause_by b (all_replies last.journal left) _ _ kept (λ h. (of h).1 i s there k d low),
    ))

pub reads_within : (p : Layout) (last : Token) (tallies : List BindingTally) (counts read : List ℕ) → ∥ IsClosed p last tallies counts ∥₁ → read ≡ counts → ReadsWithin last read
reads_within p last tallies counts read kept is = subst (ReadsWithin last) (sym is) (λ s lt. ∥∥₁_elim kept le_prop (λ (h : IsClosed p last tallies counts). h.own.read s (omega (arith, h.sessions_are))))
