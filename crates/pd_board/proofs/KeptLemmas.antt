-- What a board's lists say of a binding after one more entry.
use Rattle.std.proofs.Common.{◌≡◌, ◌≢◌, ℕ, zero, suc, ◌+◌, ◌<◌, ◌≤◌, ◌||◌, Bool, true, false, if◌then◌else◌, List, [], ◌∷◌, ◌++◌, length, length-append, take, slice_index_or, Some, None, sym, ◌∙◌, ap, refl, arith, subst, add-one, zero-add}
use Rattle.std.proofs.lemmas.Grind.{common_steps}
use Rattle.std.proofs.lemmas.List.Elements.{All-append, filter_map-append}
use Rattle.std.proofs.lemmas.List.Sums.{sum_by-append, fold-append}
use Rattle.std.proofs.lemmas.List.Folds.{list_any-append}
use Rattle.std.specs.List.{All, count_by, list_any}
use Rattle.std.specs.Option.{ForSome}
use Rattle.pd_board.specs.declared.answers.Drawn.{Drawn}
use Rattle.pd_board.specs.declared.answers.Drawn.TheVariants as drawns
use Rattle.pd_board.specs.declared.answers.ActResult.{ActResult}
use Rattle.pd_board.specs.declared.answers.Sight.{Sight}
use Rattle.pd_board.specs.declared.life.Life.{Life}
use Rattle.pd_board.specs.Answers.{number_of, number_in, NumbersBelow, has_attach, has_attachment, has_dispose, disposal, toggle_count, TogglesUpTo, is_attach, is_attachment, is_dispose, is_disposal}
use Rattle.pd_board.specs.Kept.{upto, numbers_of, place_of, missed_of, disables_upto, enables_upto, IsMissed, FitsToggles, Tells, EachAfter, IsAnswer, IsLater, off_by, last_off}
use Rattle.pd_board.proofs.ChainLemmas.{by_eq}

pub upto-more : (n : ℕ) → upto (n + 1) ≡ upto n ++ n ∷ []
upto-more n = rw add-one refl

-- what holds of each sight, and of each answer
abbrev Below : ℕ → ℕ → Sight → Type 0
Below b n x = ForSome (number_in b x) (λ p. p < n)

abbrev Final : ℕ → Life → ActResult → Type 0
Final b s r = ForSome (disposal b r) (λ n. (s.disposed ≡ true) × (n ≡ s.count))

abbrev Counted : ℕ → ℕ → ActResult → Type 0
Counted b n r = ForSome (toggle_count b r) (λ c. c ≤ n)

-- ---- one more sight

one_all : {X : Type 0} (P : X → Type 0) (x : X) → P x → All P (x ∷ [])
one_all P x h zero d below = h
one_all P x h (suc k) d below = absurd (omega arith)

all_more : {X : Type 0} (P : X → Type 0) (xs : List X) (x : X) → All P xs → P x → All P (xs ++ x ∷ [])
all_more P xs x all h = All-append P xs (x ∷ []) all (one_all P x h)

all_map : {X : Type 0} (P Q : X → Type 0) (xs : List X) → ((x : X) → P x → Q x) → All P xs → All Q xs
all_map P Q xs f all k d below = f _ (all k d below)

-- a number that is a place, or missed, is the number that the sight took of its binding
number_by_test : (b : ℕ) (x : Sight) (p : ℕ) → number_in b x ≡ Some p → x.binding ≡ b
number_by_test b x p e = by_eq x.binding b (λ (h : x.binding ≡ b). h) (λ (h : x.binding ≢ b). grind arith)

place_number : (d : Drawn) (p : ℕ) → place_of d ≡ Some p → number_of d ≡ Some p
place_number (drawns.On q) p e = e
place_number (drawns.Missed q) p e = cc
place_number drawns.Off p e = cc

missed_number : (d : Drawn) (p : ℕ) → missed_of d ≡ Some p → number_of d ≡ Some p
missed_number (drawns.On q) p e = cc
missed_number (drawns.Missed q) p e = e
missed_number drawns.Off p e = cc

number_at : (b : ℕ) (x : Sight) (p : ℕ) → x.binding ≡ b → number_of x.drawn ≡ Some p → number_in b x ≡ Some p
number_at b x p same e = grind arith

-- a sight that took no number of the binding changes nothing
numbers_none : (b : ℕ) (sights : List Sight) (x : Sight) → number_in b x ≡ None → numbers_of b (sights ++ x ∷ []) ≡ numbers_of b sights
numbers_none b sights x none = grind (arith, common_steps, filter_map-append)

numbers_some : (b : ℕ) (sights : List Sight) (x : Sight) (p : ℕ) → number_in b x ≡ Some p → numbers_of b (sights ++ x ∷ []) ≡ numbers_of b sights ++ p ∷ []
numbers_some b sights x p some = grind (arith, common_steps, filter_map-append)

pub seen_none : (b : ℕ) (s : Life) (sights : List Sight) (replies : List ActResult) (x : Sight)
    → number_in b x ≡ None → FitsToggles b replies x → Tells b s sights replies → Tells b s (sights ++ x ∷ []) replies
seen_none b s sights replies x none fits t = record {
  attached = t.attached;
  disposed = t.disposed;
  disposals = t.disposals;
  attachment = t.attachment;
  numbered = t.numbered;
  numbers = numbers_none b sights x none ∙ t.numbers;
  below = all_more (Below b s.count) sights x t.below (λ p e. absurd (cc (none, e)));
  unattached = t.unattached;
  final = t.final;
  counted = t.counted;
  off = t.off;
  toggled = all_more (FitsToggles b replies) sights x t.toggled fits;
  rising = t.rising;
  switched = t.switched;
  history = t.history;
}

-- a sight with the next number
pub seen_next : (b : ℕ) (s : Life) (sights : List Sight) (replies : List ActResult) (x : Sight)
    → number_in b x ≡ Some s.count → FitsToggles b replies x → s.attached ≡ true → s.disposed ≡ false
    → Tells b s sights replies → Tells b (record s { count = s.count + 1 }) (sights ++ x ∷ []) replies
seen_next b s sights replies x some fits on here t = record {
  attached = t.attached;
  disposed = t.disposed;
  disposals = t.disposals;
  attachment = t.attachment;
  numbered = λ _. t.attachment here ∙ on;
  numbers = numbers_some b sights x s.count some ∙ (ap (λ ns. ns ++ s.count ∷ []) t.numbers ∙ sym (upto-more s.count));
  below = all_more (Below b (s.count + 1)) sights x (all_map (Below b s.count) (Below b (s.count + 1)) sights (λ y h p e. let k = h p e in omega arith) t.below) (λ p e. let k : s.count ≡ p = cc (some, e) in omega arith);
  unattached = λ off. absurd (cc (on, off));
  final = all_map (Final b s) (Final b (record s { count = s.count + 1 })) replies (λ r h n e. let k = h n e in absurd (cc (k.0, here))) t.final;
  counted = all_map (Counted b s.count) (Counted b (s.count + 1)) replies (λ r h n e. let k = h n e in omega arith) t.counted;
  off = λ n above. t.off n (omega arith);
  toggled = all_more (FitsToggles b replies) sights x t.toggled fits;
  rising = t.rising;
  switched = t.switched;
  history = t.history;
}

-- ---- one more answer of an act

count_more : (p : ActResult → Bool) (replies : List ActResult) (r : ActResult) → count_by p (replies ++ r ∷ []) ≡ count_by p replies + (if p r then 1 else 0)
count_more p replies r = sum_by-append (λ x. if p x then 1 else 0) replies (r ∷ []) ∙ ap (λ n. count_by p replies + n) (zero-add (if p r then 1 else 0))

any_more : (p : ActResult → Bool) (replies : List ActResult) (r : ActResult) → list_any p (replies ++ r ∷ []) ≡ (list_any p replies || p r)
any_more p replies r = grind (arith, list_any-append)

missed_more : (b n : ℕ) (was is : Bool) (replies : List ActResult) (r : ActResult)
    → (if disables_upto b n r then 1 else 0) + (if was then 1 else 0) ≡ (if enables_upto b n r then 1 else 0) + (if is then 1 else 0)
    → IsMissed b n was replies → IsMissed b n is (replies ++ r ∷ [])
missed_more b n was is replies r step h =
    let d = count_more (disables_upto b n) replies r in
    let e = count_more (enables_upto b n) replies r in
    omega (arith, d, e, step, h)

-- a toggle with a greater count changes nothing for a number
missed_kept : (b n : ℕ) (m : Bool) (replies : List ActResult) (r : ActResult) → disables_upto b n r ≡ false → enables_upto b n r ≡ false → IsMissed b n m replies → IsMissed b n m (replies ++ r ∷ [])
missed_kept b n m replies r d e h = missed_more b n m m replies r (grind arith) h

-- what the answer says of the binding, in a life before and after it
pub record Replies (b : ℕ) (s s' : Life) (r : ActResult) : Type 0 where
  pub count : s'.count ≡ s.count
  pub attached : s'.attached ≡ (s.attached || is_attach b r)
  pub disposed : s'.disposed ≡ (s.disposed || is_dispose b r)
  pub disposals : s'.disposed ≡ (s.disposed || is_disposal b r)
  pub attachment : s.disposed ≡ false → (s.attached || is_attachment b r) ≡ (s.attached || is_attach b r)
  pub final : ForSome (disposal b r) (λ n. (s'.disposed ≡ true) × (n ≡ s.count))
  pub counted : ForSome (toggle_count b r) (λ n. n ≡ s.count)
  pub off : (n : ℕ) → s.count ≤ n → (if disables_upto b n r then 1 else 0) + (if s.off then 1 else 0) ≡ (if enables_upto b n r then 1 else 0) + (if s'.off then 1 else 0)
  pub disables : (n : ℕ) → n < s.count → disables_upto b n r ≡ false
  pub enables : (n : ℕ) → n < s.count → enables_upto b n r ≡ false
  pub switched : off_by b s.off r ≡ s'.off
  pub answers : (before : List ActResult) → has_attach b before ≡ s.attached → has_dispose b before ≡ s.disposed → last_off b before ≡ s.off → IsAnswer b before r

fits_more : (b count : ℕ) (replies : List ActResult) (r : ActResult) (x : Sight)
    → ((n : ℕ) → n < count → disables_upto b n r ≡ false) → ((n : ℕ) → n < count → enables_upto b n r ≡ false)
    → ForSome (number_in b x) (λ p. p < count) → FitsToggles b replies x → FitsToggles b (replies ++ r ∷ []) x
fits_more b count replies r x d e below fits = record {
  place = λ same p is. let low = below p (number_at b x p same (place_number x.drawn p is)) in missed_kept b p false replies r (d p low) (e p low) (fits.place same p is);
  missed = λ same p is. let low = below p (number_at b x p same (missed_number x.drawn p is)) in missed_kept b p true replies r (d p low) (e p low) (fits.missed same p is);
}

or_true : (a b : Bool) → a ≡ true → (a || b) ≡ true
or_true a b h = grind arith

or_false : (a b : Bool) → (a || b) ≡ false → a ≡ false
or_false a b h = grind arith

subst2 : {A B : Type 0} (P : A → B → Type 0) {a a' : A} {b b' : B} → a' ≡ a → b' ≡ b → P a b → P a' b'
subst2 P {a} {a'} {b} {b'} e f h = subst (λ x. P x b') (sym e) (subst (λ y. P a y) (sym f) h)

cut_end : {X : Type 0} (xs : List X) (x : X) (k : ℕ) → k ≡ length xs → take k (xs ++ x ∷ []) ≡ xs
cut_end xs x k e = grind (arith, common_steps)

at_end : {X : Type 0} (xs : List X) (x : X) (k : ℕ) (d : X) → k ≡ length xs → slice_index_or (xs ++ x ∷ []) k d ≡ x
at_end xs x k d e = grind (arith, common_steps)

cut_front : {X : Type 0} (xs : List X) (x : X) (k : ℕ) → k < length xs → take k (xs ++ x ∷ []) ≡ take k xs
cut_front xs x k low = grind (arith, common_steps)

at_front : {X : Type 0} (xs : List X) (x : X) (k : ℕ) (d : X) → k < length xs → slice_index_or (xs ++ x ∷ []) k d ≡ slice_index_or xs k d
at_front xs x k d low = grind (arith, common_steps)

after_more : {X : Type 0} (P : List X → X → Type 0) (xs : List X) (x : X) → EachAfter P xs → P xs x → EachAfter P (xs ++ x ∷ [])
after_more P xs x all h k d below = by_eq k (length xs)
    (λ (e : k ≡ length xs). subst2 P (cut_end xs x k e) (at_end xs x k d e) h)
    (λ (e : k ≢ length xs). let low : k < length xs = omega (arith, length-append xs (x ∷ [])) in subst2 P (cut_front xs x k low) (at_front xs x k d low) (all k d low))

pub told_more : (b : ℕ) (s s' : Life) (sights : List Sight) (replies : List ActResult) (r : ActResult)
    → Replies b s s' r → Tells b s sights replies → Tells b s' sights (replies ++ r ∷ [])
told_more b s s' sights replies r h t = record {
  attached = any_more (is_attach b) replies r ∙ (ap (λ a. a || is_attach b r) t.attached ∙ sym h.attached);
  disposed = any_more (is_dispose b) replies r ∙ (ap (λ a. a || is_dispose b r) t.disposed ∙ sym h.disposed);
  disposals = any_more (is_disposal b) replies r ∙ (ap (λ a. a || is_disposal b r) t.disposals ∙ sym h.disposals);
  attachment = λ here. let live = or_false s.disposed (is_dispose b r) (sym h.disposed ∙ here) in
      any_more (is_attachment b) replies r ∙ (ap (λ a. a || is_attachment b r) (t.attachment live) ∙ (h.attachment live ∙ sym h.attached));
  numbered = λ some. any_more (is_attachment b) replies r ∙ or_true (has_attachment b replies) (is_attachment b r) (t.numbered (let c = h.count in omega arith));
  numbers = t.numbers ∙ ap upto (sym h.count);
  below = subst (λ (n : ℕ). NumbersBelow b n sights) (sym h.count) t.below;
  unattached = λ off. h.count ∙ t.unattached (let e = h.attached in grind arith);
  final = all_more (Final b s') replies r
      (all_map (Final b s) (Final b s') replies (λ y g n e. let k = g n e in (h.disposed ∙ or_true s.disposed (is_dispose b r) k.0, k.1 ∙ sym h.count)) t.final)
      (λ n e. let k = h.final n e in (k.0, k.1 ∙ sym h.count));
  counted = all_more (Counted b s'.count) replies r
      (all_map (Counted b s.count) (Counted b s'.count) replies (λ y g n e. let k = g n e in let c = h.count in omega arith) t.counted)
      (λ n e. let k = h.counted n e in let c = h.count in omega arith);
  off = λ n above. missed_more b n s.off s'.off replies r (h.off n (let c = h.count in omega arith)) (t.off n (let c = h.count in omega arith));
  toggled = λ k d below. fits_more b s.count replies r _ h.disables h.enables (t.below k d below) (t.toggled k d below);
  rising = after_more (IsLater b) replies r t.rising (λ n e. subst (λ (m : ℕ). TogglesUpTo b m replies) (sym (h.counted n e)) t.counted);
  switched = fold-append (off_by b) false replies (r ∷ []) ∙ (ap (λ o. off_by b o r) t.switched ∙ h.switched);
  history = after_more (IsAnswer b) replies r t.history (h.answers replies t.attached t.disposed t.switched);
}
