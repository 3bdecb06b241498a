-- What all seats did, by the lists that they left.
use Rattle.std.proofs.Common.{◌≡◌, ◌≢◌, ℕ, zero, suc, ◌+◌, ◌*◌, ◌<◌, List, [], ◌∷◌, ◌++◌, map, Bool, true, false, not, if◌then◌else◌, cond, ◌==◌, ◌&&◌, ◌||◌, Option, Some, None, sym, refl, ap, ◌∙◌, arith, eq-eqb, ne_eqb}
use Rattle.std.specs.Prelude.{nat_lt, nat_le, count_by as how_many}
use Rattle.std.proofs.lemmas.Bool.Decides.{nat_tests}
use Rattle.std.specs.List.{All, filter_map, cons_option, list_any}
use Rattle.std.specs.Option.{ForSome}
use Rattle.std.specs.Bool.{beq}
use Rattle.std.proofs.lemmas.List.Recursion.{is_count_by}
use Rattle.std.proofs.lemmas.List.Elements.{All-append, All-cons, All-nil}
use mathlib.Core.Option.{some}
use lib.ListN.{get_elem?}
use Rattle.pd_board.proofs.ChainLemmas.{by_eq}
use Rattle.pd_board.specs.declared.answers.Attach.TheVariants as attaches
use Rattle.pd_board.specs.declared.answers.Dispose.TheVariants as disposes
use Rattle.pd_board.specs.declared.answers.ActResult.{ActResult}
use Rattle.pd_board.specs.declared.answers.ActResult.TheVariants as acts
use Rattle.pd_board.specs.declared.answers.Sight.{Sight}
use Rattle.pd_board.specs.Answers.{number_of, number_in, disposal, is_attach, is_attachment, is_disposal}
use Rattle.pd_board.specs.Kept.{numbers_of, disables_upto, enables_upto, place_of, missed_of, IsMissed, FitsToggles}
use Rattle.pd_core.specs.declared.view.Deeds.{Deeds}
use Rattle.pd_core.specs.declared.view.Drawn.{Drawn}
use Rattle.pd_core.specs.declared.view.Drawn.TheVariants.{On, Missed, Off}
use Rattle.pd_core.specs.declared.view.Sight.{Sight as Seen}
use Rattle.pd_core.specs.declared.view.Toggle.{Toggle}
use Rattle.pd_core.specs.Words.{disposed, off, sum_in}
use Rattle.pd_core.specs.Counts.{total, times, same, first_is, pair_is, once_below, one_if}
use Rattle.pd_core.specs.Views.{number_in as number_in_view, missed_in, gave, missed, at_number, over, drew_number, misses, turns, is_kind, toggle_upto, toggles_upto, makings, firsts, lates, disposals}
use Rattle.pd_core.proofs.Sums.{total-append, same_here, same_else, pair_is-here}
use Rattle.pd_core.proofs.Bits.{disposed_fits}
use Rattle.pd_shared.specs.declared.sights.Sights.{Sights}
use Rattle.pd_board.specs.Journal.{Entries}
use Rattle.pd_shared.specs.Tied.{sight_of, drawn_of, act_of, act_as, toggle_as, toggle_of, made_by, first_by, late_by, count_by, toggle_by, AreDeeds}
use Rattle.pd_shared.specs.Left.{DidLeave}
use Rattle.pd_shared.specs.Closed.{all_of}
use Rattle.pd_board.specs.Order.{is_first}
use Rattle.pd_shared.proofs.NumberLemmas.{off_fits}

-- ---- sums

abbrev pub some_weight : {A : Type 0} → (A → ℕ) → Option A → ℕ
some_weight w None = 0
some_weight w (Some x) = w x

module _ {A B : Type 0} (w : B → ℕ) (f : A → Option B) where
  cons_total : (o : Option B) (ys : List B) → total w (cons_option o ys) ≡ some_weight w o + total w ys
  unfolding total
  cons_total None ys = omega arith
  cons_total (Some y) ys = refl

  pub filter_total : (xs : List A) → total w (filter_map f xs) ≡ total (λ x. some_weight w (f x)) xs
  unfolding total
  filter_total [] = refl
  filter_total (x ∷ xs) = omega (arith, cons_total (f x) (filter_map f xs), filter_total xs)

counted_one : (t : Bool) (n : ℕ) → one_if t + n ≡ cond t (1 + n) n
counted_one true n = refl
counted_one false n = omega arith

first_some : (s t : Bool) (n : ℕ) → 0 < one_if s + n → (0 < n → t ≡ true) → (s || t) ≡ true
first_some true t n h k = refl
first_some false t n h k = k (omega arith)

module _ {A : Type 0} where
  pub total_same : (f g : A → ℕ) → ((x : A) → f x ≡ g x) → (xs : List A) → total f xs ≡ total g xs
  unfolding total
  total_same f g h [] = refl
  total_same f g h (x ∷ xs) = let here = h x in omega (arith, total_same f g h xs)

  pub total_sum : (f g k : A → ℕ) → ((x : A) → k x ≡ f x + g x) → (xs : List A) → total k xs ≡ total f xs + total g xs
  unfolding total
  total_sum f g k h [] = refl
  total_sum f g k h (x ∷ xs) = let here = h x in omega (arith, total_sum f g k h xs)

  pub count_total : (p : A → Bool) (xs : List A) → total (λ x. one_if (p x)) xs ≡ how_many p xs
  unfolding total
  count_total p xs = is_count_by (λ ys. total (λ x. one_if (p x)) ys) p refl (λ y ys. counted_one (p y) (total (λ x. one_if (p x)) ys)) xs

  -- a test of the list, by how many pass
  pub any_none : (p : A → Bool) (xs : List A) → total (λ x. one_if (p x)) xs ≡ 0 → list_any p xs ≡ false
  unfolding total
  any_none p [] e = refl
  any_none p (x ∷ xs) e = first_none (p x) (any_none p xs (omega arith)) (omega arith)
    where
      first_none : (s : Bool) → list_any p xs ≡ false → one_if s ≡ 0 → (s || list_any p xs) ≡ false
      first_none true r q = absurd (omega arith)
      first_none false r q = r

  pub any_some : (p : A → Bool) (xs : List A) → 0 < total (λ x. one_if (p x)) xs → list_any p xs ≡ true
  unfolding total
  any_some p [] h = absurd (omega arith)
  any_some p (x ∷ xs) h = first_some (p x) (list_any p xs) (total (λ y. one_if (p y)) xs) h (any_some p xs)

pub map_total : {A B : Type 0} (w : B → ℕ) (f : A → B) (xs : List A) → total w (map f xs) ≡ total (λ y. w (f y)) xs
unfolding total
map_total w f [] = refl
map_total w f (y ∷ ys) = omega (arith, map_total w f ys)

-- ---- over all seats

module _ {A : Type 0} (pick : Entries → List A) where
  pub all_total : (h : A → ℕ) (own : List A) (left : List Sights) → total h (all_of pick own left) ≡ total h own + total (λ s. total h (pick s.journal)) left
  unfolding total
  all_total h own [] = omega arith
  all_total h own (s ∷ ss) = omega (arith, all_total h (own ++ pick s.journal) ss, total-append h own (pick s.journal))

  module _ (f : Deeds → ℕ) (h : A → ℕ) (each : (d : Deeds) (e : Entries) → AreDeeds d e → f d ≡ total h (pick e)) where
    did_total : (left : List Sights) (ds : List Deeds) → DidLeave left ds → total f ds ≡ total (λ s. total h (pick s.journal)) left
    unfolding total
    did_total [] [] k = refl
    did_total [] (d ∷ ds) k = absurd k
    did_total (s ∷ ss) [] k = absurd k
    did_total (s ∷ ss) (d ∷ ds) k = let here = each d s.journal k.0 in omega (arith, did_total ss ds k.1)

    pub over_total : (d : Deeds) (ds : List Deeds) (e : Entries) (left : List Sights) → AreDeeds d e → DidLeave left ds → over f d ds ≡ total h (all_of pick (pick e) left)
    unfolding over
    over_total d ds e left own others = let here = each d e own in omega (arith, did_total left ds others, all_total h (pick e) left)

  -- what holds of the entries of each seat holds of all
  module _ (Q : Deeds → Type 0) (P : A → Type 0) (each : (d : Deeds) (e : Entries) → AreDeeds d e → Q d → All P (pick e)) where
    pub all_all : (own : List A) (left : List Sights) (ds : List Deeds) → All P own → DidLeave left ds → ((k : ℕ) (d : Deeds) → get_elem? ds k ≡ some d → Q d) → All P (all_of pick own left)
    all_all own [] [] mine k q = mine
    all_all own [] (d ∷ ds) mine k q = absurd k
    all_all own (s ∷ ss) [] mine k q = absurd k
    all_all own (s ∷ ss) (d ∷ ds) mine k q = all_all (own ++ pick s.journal) ss ds (All-append P own (pick s.journal) mine (each d s.journal k.0 (q 0 d refl))) k.1 (λ i x e. q (suc i) x e)

-- ---- the answers of one seat

same_test : (b c : ℕ) → same b c ≡ one_if (c == b)
same_test b c = by_eq c b
    (λ (e : c ≡ b). same_here b c (sym e) ∙ sym (ap one_if (eq-eqb c b e)))
    (λ (ne : c ≢ b). same_else b c (λ e. ne (sym e)) ∙ sym (ap one_if (ne_eqb c b ne)))

and_true : (s : Bool) → (s && true) ≡ s
and_true true = refl
and_true false = refl

and_false : (s : Bool) → (s && false) ≡ false
and_false true = refl
and_false false = refl

first_pair : (b c n : ℕ) → first_is b (c, n) ≡ one_if (c == b)
unfolding first_is
first_pair b c n = same_test b c

module _ (b : ℕ) where
  first_weight : (r : ActResult) → some_weight (same b) (first_by r) ≡ one_if (is_first b r)
  first_weight (acts.Attached c attaches.Attached) = same_test b c ∙ sym (ap one_if (and_true (c == b)))
  first_weight (acts.Attached c attaches.Gone) = same_test b c ∙ sym (ap one_if (and_true (c == b)))
  first_weight (acts.Attached c attaches.Already) = sym (ap one_if (and_false (c == b)))
  first_weight (acts.Disposed c a) = refl
  first_weight (acts.Enabled c a) = refl
  first_weight (acts.Disabled c a) = refl

  abbrev pub late_weight : ActResult → ℕ
  late_weight r = some_weight (same b) (late_by r)

  attachment_weight : (r : ActResult) → one_if (is_first b r) ≡ one_if (is_attachment b r) + late_weight r
  attachment_weight (acts.Attached c attaches.Attached) = omega arith
  attachment_weight (acts.Attached c attaches.Gone) = ap one_if (and_true (c == b)) ∙ (sym (same_test b c) ∙ (let none : one_if ((c == b) && false) ≡ 0 = ap one_if (and_false (c == b)) in omega arith))
  attachment_weight (acts.Attached c attaches.Already) = let none : one_if ((c == b) && false) ≡ 0 = ap one_if (and_false (c == b)) in omega arith
  attachment_weight (acts.Disposed c a) = refl
  attachment_weight (acts.Enabled c a) = refl
  attachment_weight (acts.Disabled c a) = refl

  made_weight : (r : ActResult) → some_weight (same b) (made_by r) ≡ one_if (is_attach b r)
  made_weight (acts.Attached c a) = same_test b c
  made_weight (acts.Disposed c a) = refl
  made_weight (acts.Enabled c a) = refl
  made_weight (acts.Disabled c a) = refl

  disposal_weight : (r : ActResult) → some_weight (first_is b) (count_by r) ≡ one_if (is_disposal b r)
  disposal_weight (acts.Disposed c (disposes.Disposed n)) = first_pair b c n
  disposal_weight (acts.Disposed c disposes.Already) = refl
  disposal_weight (acts.Attached c a) = refl
  disposal_weight (acts.Enabled c a) = refl
  disposal_weight (acts.Disabled c a) = refl

  pub firsts_is : (d : Deeds) (e : Entries) → AreDeeds d e → firsts b d ≡ total (λ r. one_if (is_first b r)) e.replies
  unfolding firsts times
  firsts_is d e a = ap (total (same b)) a.firsts ∙ (filter_total (same b) first_by e.replies ∙ total_same (λ r. some_weight (same b) (first_by r)) (λ r. one_if (is_first b r)) first_weight e.replies)

  pub lates_is : (d : Deeds) (e : Entries) → AreDeeds d e → lates b d ≡ total late_weight e.replies
  unfolding lates times
  lates_is d e a = ap (total (same b)) a.late ∙ filter_total (same b) late_by e.replies

  pub makings_is : (d : Deeds) (e : Entries) → AreDeeds d e → makings b d ≡ total (λ r. one_if (is_attach b r)) e.replies
  unfolding makings times
  makings_is d e a = ap (total (same b)) a.made ∙ (filter_total (same b) made_by e.replies ∙ total_same (λ r. some_weight (same b) (made_by r)) (λ r. one_if (is_attach b r)) made_weight e.replies)

  pub disposals_is : (d : Deeds) (e : Entries) → AreDeeds d e → disposals b d ≡ total (λ r. one_if (is_disposal b r)) e.replies
  unfolding disposals
  disposals_is d e a = ap (total (first_is b)) a.counts ∙ (filter_total (first_is b) count_by e.replies ∙ total_same (λ r. some_weight (first_is b) (count_by r)) (λ r. one_if (is_disposal b r)) disposal_weight e.replies)

  pub first_splits : (rs : List ActResult) → total (λ r. one_if (is_first b r)) rs ≡ total (λ r. one_if (is_attachment b r)) rs + total late_weight rs
  first_splits rs = total_sum (λ r. one_if (is_attachment b r)) late_weight (λ r. one_if (is_first b r)) attachment_weight rs

  -- each disposal found this count
  pub finals_in : (n : ℕ) (rs : List ActResult) → ((m : ℕ) → 0 < total (pair_is b m) (filter_map count_by rs) → m ≡ n) → All (λ r. ForSome (disposal b r) (λ m. m ≡ n)) rs
  unfolding total
  finals_in n [] h = All-nil (λ r. ForSome (disposal b r) (λ m. m ≡ n))
  finals_in n (acts.Disposed c (disposes.Disposed k) ∷ rs) h = All-cons (λ r. ForSome (disposal b r) (λ m. m ≡ n)) (acts.Disposed c (disposes.Disposed k)) rs
      (λ m q. by_eq c b
      (λ (e : c ≡ b). let is : k ≡ m = some_is k m (sym (ap (λ (t : Bool). if t then Some k else None) (eq-eqb c b e)) ∙ q) in
      h m (omega (arith, pair_is-here b m c k (sym e), same_here m k (sym is))))
      (λ (ne : c ≢ b). absurd (none_is m (sym (ap (λ (t : Bool). if t then Some k else None) (ne_eqb c b ne)) ∙ q))))
      (finals_in n rs (λ m lt. h m (omega arith)))
    where
      some_is : (x y : ℕ) → Some x ≡ Some y → x ≡ y
      some_is x y q = cc

      none_is : (y : ℕ) → None ≡ Some y → ⊥
      none_is y q = cc
  finals_in n (acts.Disposed c disposes.Already ∷ rs) h = All-cons (λ r. ForSome (disposal b r) (λ m. m ≡ n)) (acts.Disposed c disposes.Already) rs (λ m q. absurd (cc)) (finals_in n rs h)
  finals_in n (acts.Attached c a ∷ rs) h = All-cons (λ r. ForSome (disposal b r) (λ m. m ≡ n)) (acts.Attached c a) rs (λ m q. absurd (cc)) (finals_in n rs h)
  finals_in n (acts.Enabled c a ∷ rs) h = All-cons (λ r. ForSome (disposal b r) (λ m. m ≡ n)) (acts.Enabled c a) rs (λ m q. absurd (cc)) (finals_in n rs h)
  finals_in n (acts.Disabled c a ∷ rs) h = All-cons (λ r. ForSome (disposal b r) (λ m. m ≡ n)) (acts.Disabled c a) rs (λ m q. absurd (cc)) (finals_in n rs h)

-- ---- the toggles of one seat

pub weight_none : (s m : ℕ) → s * (0 * m) ≡ 0
weight_none s m = omega arith

zero_test : (n : ℕ) → n < 2 → (n == 0) ≡ not (n == 1)
zero_test zero h = refl
zero_test (suc zero) h = refl
zero_test (suc (suc n)) h = absurd (omega arith)

-- the weight of a toggle, by what the word that it found says
pub upto_by : (b c n x : ℕ) (t : Bool) → same b c * (one_if t * once_below n (suc x)) ≡ one_if (t && ((c == b) && nat_le n x))
unfolding once_below
upto_by b c n x true = by_eq c b
    (λ (e : c ≡ b). (λ i. same_here b c (sym e) i * (1 * cond (nat_lt n (suc x)) 1 0)) ∙ (test_same n x ∙ sym (ap (λ (s : Bool). one_if (s && nat_le n x)) (eq-eqb c b e))))
    (λ (ne : c ≢ b). (λ i. same_else b c (λ e. ne (sym e)) i * (1 * cond (nat_lt n (suc x)) 1 0)) ∙ ((let none : 0 * (1 * cond (nat_lt n (suc x)) 1 0) ≡ 0 = omega arith in none) ∙ sym (ap (λ (s : Bool). one_if (s && nat_le n x)) (ne_eqb c b ne))))
  where
    test_same : (m k : ℕ) → 1 * (1 * cond (nat_lt m (suc k)) 1 0) ≡ one_if (nat_le m k)
    test_same m k = grind (arith, nat_tests)
upto_by b c n x false = weight_none (same b c) (cond (nat_lt n (suc x)) 1 0)

module _ (b x : ℕ) where
  disabled_by : (gone same_way : Bool) (c n : ℕ) → disables_upto b x (acts.Disabled c (toggle_as gone same_way n)) ≡ ((not gone && not same_way) && ((c == b) && nat_le n x))
  disabled_by true same_way c n = refl
  disabled_by false true c n = refl
  disabled_by false false c n = refl

  enabled_by : (gone same_way : Bool) (c n : ℕ) → enables_upto b x (acts.Enabled c (toggle_as gone same_way n)) ≡ ((not gone && not same_way) && ((c == b) && nat_le n x))
  enabled_by true same_way c n = refl
  enabled_by false true c n = refl
  enabled_by false false c n = refl

  -- the word changed, as the answer says
  pub turned_off : (w : ℕ) → turns true w ≡ (not (disposed w == 1) && not (beq (off w == 1) true))
  turned_off w = λ i. zero_test (disposed w) (disposed_fits w) i && (zero_test (off w) (off_fits w) ∙ not_same (off w == 1)) i
    where
      not_same : (s : Bool) → not s ≡ not (beq s true)
      not_same true = refl
      not_same false = refl

  pub turned_on : (w : ℕ) → turns false w ≡ (not (disposed w == 1) && not (beq (off w == 1) false))
  turned_on w = λ i. zero_test (disposed w) (disposed_fits w) i && is_same (off w == 1) i
    where
      is_same : (s : Bool) → s ≡ not (beq s false)
      is_same true = refl
      is_same false = refl

  disable_weight : (t : Toggle) → toggle_upto true b x t ≡ one_if (disables_upto b x (act_of t))
  unfolding toggle_upto
  disable_weight t = by_kind t.disables t.binding t.found
    where
      by_kind : (d : Bool) (c w : ℕ) → same b c * (one_if (is_kind true d && turns d w) * once_below (sum_in w) (suc x)) ≡ one_if (disables_upto b x (act_as d c (toggle_of d w)))
      by_kind true c w = upto_by b c (sum_in w) x (turns true w) ∙ (ap (λ (s : Bool). one_if (s && ((c == b) && nat_le (sum_in w) x))) (turned_off w) ∙ sym (ap one_if (disabled_by (disposed w == 1) (beq (off w == 1) true) c (sum_in w))))
      by_kind false c w = weight_none (same b c) (once_below (sum_in w) (suc x))

  enable_weight : (t : Toggle) → toggle_upto false b x t ≡ one_if (enables_upto b x (act_of t))
  unfolding toggle_upto
  enable_weight t = by_kind t.disables t.binding t.found
    where
      by_kind : (d : Bool) (c w : ℕ) → same b c * (one_if (is_kind false d && turns d w) * once_below (sum_in w) (suc x)) ≡ one_if (enables_upto b x (act_as d c (toggle_of d w)))
      by_kind false c w = upto_by b c (sum_in w) x (turns false w) ∙ (ap (λ (s : Bool). one_if (s && ((c == b) && nat_le (sum_in w) x))) (turned_on w) ∙ sym (ap one_if (enabled_by (disposed w == 1) (beq (off w == 1) false) c (sum_in w))))
      by_kind true c w = weight_none (same b c) (once_below (sum_in w) (suc x))

  pub only_toggles : (h : ActResult → Bool) → ((c : ℕ) (a : _) → h (acts.Attached c a) ≡ false) → ((c : ℕ) (a : _) → h (acts.Disposed c a) ≡ false) → (r : ActResult) → some_weight (λ y. one_if (h y)) (toggle_by r) ≡ one_if (h r)
  only_toggles h made gone (acts.Attached c a) = sym (ap one_if (made c a))
  only_toggles h made gone (acts.Disposed c a) = sym (ap one_if (gone c a))
  only_toggles h made gone (acts.Enabled c a) = refl
  only_toggles h made gone (acts.Disabled c a) = refl

  pub disables_is : (d : Deeds) (e : Entries) → AreDeeds d e → toggles_upto true b x d ≡ total (λ r. one_if (disables_upto b x r)) e.replies
  unfolding toggles_upto
  disables_is d e a = total_same (toggle_upto true b x) (λ t. one_if (disables_upto b x (act_of t))) disable_weight d.toggles
      ∙ (sym (map_total (λ r. one_if (disables_upto b x r)) act_of d.toggles) ∙ (ap (total (λ r. one_if (disables_upto b x r))) a.toggles
      ∙ (filter_total (λ r. one_if (disables_upto b x r)) toggle_by e.replies ∙ total_same _ (λ r. one_if (disables_upto b x r)) (only_toggles (disables_upto b x) (λ c y. refl) (λ c y. refl)) e.replies)))

  pub enables_is : (d : Deeds) (e : Entries) → AreDeeds d e → toggles_upto false b x d ≡ total (λ r. one_if (enables_upto b x r)) e.replies
  unfolding toggles_upto
  enables_is d e a = total_same (toggle_upto false b x) (λ t. one_if (enables_upto b x (act_of t))) enable_weight d.toggles
      ∙ (sym (map_total (λ r. one_if (enables_upto b x r)) act_of d.toggles) ∙ (ap (total (λ r. one_if (enables_upto b x r))) a.toggles
      ∙ (filter_total (λ r. one_if (enables_upto b x r)) toggle_by e.replies ∙ total_same _ (λ r. one_if (enables_upto b x r)) (only_toggles (enables_upto b x) (λ c y. refl) (λ c y. refl)) e.replies)))

-- ---- the sights of one seat

-- a number is a place, or missed
abbrev pub place_in : Drawn → Option ℕ
place_in (On y) = Some y
place_in _ = None

module _ (b x : ℕ) where
  abbrev pub number_weight : Sight → ℕ
  number_weight s = some_weight (λ y. one_if (y == x)) (number_in b s)

  test_number : (y : ℕ) → same x y ≡ one_if (y == x)
  test_number y = same_test x y

  at_weight : (o : Drawn) → at_number x (number_in_view o) ≡ some_weight (λ y. one_if (y == x)) (number_of (drawn_of o))
  at_weight (On y) = test_number y
  at_weight (Missed y) = test_number y
  at_weight Off = refl

  number_weights : (s : Seen) → gave b x s ≡ number_weight (sight_of s)
  unfolding gave
  number_weights s = by_eq s.binding b
      (λ (e : s.binding ≡ b). (λ i. same_here b s.binding (sym e) i * at_number x (number_in_view s.drawn)) ∙ ((let one : 1 * at_number x (number_in_view s.drawn) ≡ at_number x (number_in_view s.drawn) = omega arith in one) ∙ (at_weight s.drawn ∙ sym (ap (λ (t : Bool). some_weight (λ y. one_if (y == x)) (if t then number_of (drawn_of s.drawn) else None)) (eq-eqb s.binding b e)))))
      (λ (ne : s.binding ≢ b). (λ i. same_else b s.binding (λ e. ne (sym e)) i * at_number x (number_in_view s.drawn)) ∙ ((let none : 0 * at_number x (number_in_view s.drawn) ≡ 0 = omega arith in none) ∙ sym (ap (λ (t : Bool). some_weight (λ y. one_if (y == x)) (if t then number_of (drawn_of s.drawn) else None)) (ne_eqb s.binding b ne))))

  pub numbers_is : (d : Deeds) (e : Entries) → AreDeeds d e → drew_number b x d ≡ total number_weight e.sights
  unfolding drew_number
  numbers_is d e a = total_same (gave b x) (λ s. number_weight (sight_of s)) number_weights d.sights ∙ (sym (map_total number_weight sight_of d.sights) ∙ ap (total number_weight) (sym a.sights))

  pub numbers_counted : (sights : List Sight) → how_many (λ y. y == x) (numbers_of b sights) ≡ total number_weight sights
  numbers_counted sights = sym (count_total (λ y. y == x) (numbers_of b sights)) ∙ filter_total (λ y. one_if (y == x)) (number_in b) sights

  abbrev pub placed : Seen → ℕ
  placed s = same b s.binding * at_number x (place_in s.drawn)

  abbrev pub places : Deeds → ℕ
  places d = total placed d.sights

  gave_splits : (s : Seen) → gave b x s ≡ placed s + missed b x s
  unfolding gave missed
  gave_splits s = by_kind (same b s.binding) s.drawn
    where
      by_kind : (m : ℕ) (o : Drawn) → m * at_number x (number_in_view o) ≡ m * at_number x (place_in o) + m * at_number x (missed_in o)
      by_kind m (On y) = omega arith
      by_kind m (Missed y) = omega arith
      by_kind m Off = omega arith

  pub drawn_splits : (d : Deeds) → drew_number b x d ≡ places d + misses b x d
  unfolding drew_number misses
  drawn_splits d = total_sum placed (missed b x) (gave b x) gave_splits d.sights

  pub over_splits : (d : Deeds) (ds : List Deeds) → over (drew_number b x) d ds ≡ over places d ds + over (misses b x) d ds
  unfolding over
  over_splits d ds = let here = drawn_splits d in omega (arith, total_sum places (misses b x) (drew_number b x) drawn_splits ds)

-- the numbers of one seat are places or missed, where each weight says so
module _ (b : ℕ) (all : List ActResult) where
  place_some : (m x : ℕ) (o : Drawn) → m ≡ 1 → place_of (drawn_of o) ≡ Some x → 0 < m * at_number x (place_in o)
  place_some m x (On y) one e = let is : x ≡ y = cc in omega (arith, same_here x y is, ap (λ n. n * same x y) one)
  place_some m x (Missed y) one e = absurd (cc)
  place_some m x Off one e = absurd (cc)

  missed_some : (m x : ℕ) (o : Drawn) → m ≡ 1 → missed_of (drawn_of o) ≡ Some x → 0 < m * at_number x (missed_in o)
  missed_some m x (Missed y) one e = let is : x ≡ y = cc in omega (arith, same_here x y is, ap (λ n. n * same x y) one)
  missed_some m x (On y) one e = absurd (cc)
  missed_some m x Off one e = absurd (cc)

  missed_is : (x : ℕ) (s : Seen) → s.binding ≡ b → missed_of (drawn_of s.drawn) ≡ Some x → 0 < missed b x s
  unfolding missed
  missed_is x s is e = missed_some (same b s.binding) x s.drawn (same_here b s.binding (sym is)) e

  pub sights_fit : (ss : List Seen) → ((x : ℕ) → 0 < total (placed b x) ss → IsMissed b x false all) → ((x : ℕ) → 0 < total (missed b x) ss → IsMissed b x true all) → All (FitsToggles b all) (map sight_of ss)
  unfolding total
  sights_fit [] h k = All-nil (FitsToggles b all)
  sights_fit (s ∷ ss) h k = All-cons (FitsToggles b all) (sight_of s) (map sight_of ss)
      (record {
        place = λ is x e. h x (let here = place_some (same b s.binding) x s.drawn (same_here b s.binding (sym is)) e in omega arith);
        missed = λ is x e. k x (let here = missed_is x s is e in omega arith);
      })
      (sights_fit ss (λ x lt. h x (omega arith)) (λ x lt. k x (omega arith)))
