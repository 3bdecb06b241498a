-- What answers a toggle that found nothing to change.
use Rattle.std.proofs.Common.{◌≡◌, ℕ, zero, suc, ◌+◌, ◌*◌, ◌<◌, ◌≤◌, List, [], ◌∷◌, ◌++◌, not, Bool, true, false, ◌&&◌, ◌==◌, sym, refl, ap, ◌∙◌, subst, arith}
use Rattle.std.proofs.lemmas.Bool.Decides.{nat_tests}
use mathlib.Core.Option.{some, some-ne-none, some-injective}
use lib.ListN.{get_elem?}
use Rattle.pd_core.specs.declared.view.View.{View}
use Rattle.pd_core.specs.declared.view.Deeds.{Deeds}
use Rattle.pd_core.specs.declared.view.Sight.{Sight}
use Rattle.pd_core.specs.declared.view.Drawn.{Drawn}
use Rattle.pd_core.specs.declared.view.Drawn.TheVariants.{On, Missed, Off}
use Rattle.pd_core.specs.declared.view.Toggle.{Toggle}
use Rattle.pd_core.specs.Layout.{Layout, bindings, binding_word}
use Rattle.pd_core.specs.Words.{disposed, off, sum_in}
use Rattle.pd_core.specs.Counts.{total, same, once_below, one_if}
use Rattle.pd_core.specs.Views.{over, of_all, gave, missed, number_in, missed_in, at_number, drew_number, misses, did_turn, is_kind, already, toggle_upto, toggle_from, toggles_upto, toggles_from}
use Rattle.pd_core.specs.Good.{Good}
use Rattle.pd_core.proofs.Sums.{same_here}
use Rattle.pd_core.proofs.Frame.{There}
use Rattle.pd_core.proofs.Parts.{toggle_counts}
use Rattle.pd_core.proofs.Attaches.{both, eqb_is}

module _ {A : Type 0} (f g h : A → ℕ) where
  total_within : ((a : A) → f a ≤ g a + h a) → (xs : List A) → total f xs ≤ total g xs + total h xs
  unfolding total
  total_within le [] = omega arith
  total_within le (x ∷ xs) = let here = le x in omega (arith, total_within le xs)

module _ {A : Type 0} (f g : A → ℕ) where
  total_under : ((a : A) → f a ≤ g a) → (xs : List A) → total f xs ≤ total g xs
  unfolding total
  total_under le [] = omega arith
  total_under le (x ∷ xs) = let here = le x in omega (arith, total_under le xs)

  total_strict : ((a : A) → f a ≤ g a) → (xs : List A) (i : ℕ) (v : A) → get_elem? xs i ≡ some v → f v + 1 ≤ g v → total f xs + 1 ≤ total g xs
  unfolding total
  total_strict le [] i v e h = absurd (some-ne-none v (sym e))
  total_strict le (x ∷ xs) zero v e h = let is : x ≡ v = some-injective x v e in let here : f x + 1 ≤ g x = subst (λ (y : A). f y + 1 ≤ g y) (sym is) h in omega (arith, total_under le xs)
  total_strict le (x ∷ xs) (suc i) v e h = let here = le x in omega (arith, total_strict le xs i v e h)

module _ (f g h : Deeds → ℕ) where
  all_within : ((d : Deeds) → f d ≤ g d + h d) → (views : List View) → total (of_all f) views ≤ total (of_all g) views + total (of_all h) views
  unfolding over
  all_within le views = total_within (of_all f) (of_all g) (of_all h) (λ v. let own = le v.deeds in omega (arith, total_within f g h le v.taken)) views

module _ (f g : Deeds → ℕ) where
  all_under : ((d : Deeds) → f d ≤ g d) → (views : List View) → total (of_all f) views ≤ total (of_all g) views
  unfolding over
  all_under le views = total_under (of_all f) (of_all g) (λ v. let own = le v.deeds in omega (arith, total_under f g le v.taken)) views

  all_strict : ((d : Deeds) → f d ≤ g d) → (views : List View) (id : ℕ) (v : View) → get_elem? views id ≡ some v → f v.deeds + 1 ≤ g v.deeds → total (of_all f) views + 1 ≤ total (of_all g) views
  unfolding over
  all_strict le views id v at h = total_strict (of_all f) (of_all g) (λ u. let own = le u.deeds in omega (arith, total_under f g le u.taken)) views id v at (omega (arith, total_under f g le v.taken))

-- a weight of toggles grows with its test
weigh : (s m n k : ℕ) (t : Bool) → m ≤ n + k → s * (one_if t * m) ≤ s * (one_if t * n) + s * (one_if t * k)
weigh zero m n k t h = omega arith
weigh (suc s) m n k true h = let rest = weigh s m n k true h in omega arith
weigh (suc s) m n k false h = let rest = weigh s m n k false h in omega arith

weigh_under : (s m n : ℕ) (t : Bool) → m ≤ n → s * (one_if t * m) ≤ s * (one_if t * n)
weigh_under zero m n t h = omega arith
weigh_under (suc s) m n true h = let rest = weigh_under s m n true h in omega arith
weigh_under (suc s) m n false h = let rest = weigh_under s m n false h in omega arith

tests_from : (s y p : ℕ) → once_below s (suc y) ≤ once_below s (suc p) + once_below (suc p) (suc s)
unfolding once_below
tests_from s y p = grind (arith, nat_tests)

tests_all : (s y : ℕ) → once_below s (suc y) ≤ once_below 0 (suc s)
unfolding once_below
tests_all s y = grind (arith, nat_tests)

tests_up : (s p y : ℕ) → p ≤ y → once_below s (suc p) ≤ once_below s (suc y)
unfolding once_below
tests_up s p y h = grind (arith, nat_tests)

test_in : (s y : ℕ) → s ≤ y → once_below s (suc y) ≡ 1
unfolding once_below
test_in s y h = grind (arith, nat_tests)

test_out : (s y : ℕ) → y < s → once_below s (suc y) ≡ 0
unfolding once_below
test_out s y h = grind (arith, nat_tests)

one_at_most : (x n : ℕ) → once_below x n ≤ 1
unfolding once_below
one_at_most x n = grind (arith, nat_tests)

module _ (kind : Bool) (b : ℕ) where
  -- those with counts of at most y are those of at most p and those of at least p + 1
  from_next : (p y : ℕ) (d : Deeds) → toggles_upto kind b y d ≤ toggles_upto kind b p d + toggles_from kind b (suc p) d
  unfolding toggles_upto toggles_from toggle_upto toggle_from
  from_next p y d = total_within (toggle_upto kind b y) (toggle_upto kind b p) (toggle_from kind b (suc p)) (λ t. weigh (same b t.binding) (once_below (sum_in t.found) (suc y)) (once_below (sum_in t.found) (suc p)) (once_below (suc p) (suc (sum_in t.found))) (is_kind kind t.disables && did_turn t) (tests_from (sum_in t.found) y p)) d.toggles

  from_first : (y : ℕ) (d : Deeds) → toggles_upto kind b y d ≤ toggles_from kind b 0 d
  unfolding toggles_upto toggles_from toggle_upto toggle_from
  from_first y d = total_under (toggle_upto kind b y) (toggle_from kind b 0) (λ t. weigh_under (same b t.binding) (once_below (sum_in t.found) (suc y)) (once_below 0 (suc (sum_in t.found))) (is_kind kind t.disables && did_turn t) (tests_all (sum_in t.found) y)) d.toggles

  upto_up : (p y : ℕ) → p ≤ y → (d : Deeds) → toggles_upto kind b p d ≤ toggles_upto kind b y d
  unfolding toggles_upto toggle_upto
  upto_up p y h d = total_under (toggle_upto kind b p) (toggle_upto kind b y) (λ t. weigh_under (same b t.binding) (once_below (sum_in t.found) (suc p)) (once_below (sum_in t.found) (suc y)) (is_kind kind t.disables && did_turn t) (tests_up (sum_in t.found) p y h)) d.toggles

  self_kind : (k : Bool) → is_kind k k ≡ true
  self_kind true = refl
  self_kind false = refl

  weight_is : (s : Toggle) (y n : ℕ) → b ≡ s.binding → did_turn s ≡ true → s.disables ≡ kind → once_below (sum_in s.found) (suc y) ≡ n → toggle_upto kind b y s ≡ n
  unfolding toggle_upto
  weight_is s y n is turned k e = (λ i. same_here b s.binding is i * (one_if (is_kind kind (k i) && turned i) * e i)) ∙ (ap (λ t. 1 * (one_if (t && true) * n)) (self_kind kind) ∙ omega arith)

  -- a toggle of one's own with the count c is not among those of at most p below c, and is among those of at most y
  strict : (d : Deeds) (i p y : ℕ) (s : Toggle) → get_elem? d.toggles i ≡ some s → b ≡ s.binding → did_turn s ≡ true → s.disables ≡ kind → p < sum_in s.found → sum_in s.found ≤ y → toggles_upto kind b p d + 1 ≤ toggles_upto kind b y d
  unfolding toggles_upto toggle_upto
  strict d i p y s at is turned k low high = total_strict (toggle_upto kind b p) (toggle_upto kind b y)
      (λ t. weigh_under (same b t.binding) (once_below (sum_in t.found) (suc p)) (once_below (sum_in t.found) (suc y)) (is_kind kind t.disables && did_turn t) (tests_up (sum_in t.found) p y (omega arith))) d.toggles i s at
      (omega (arith, weight_is s p 0 is turned k (test_out (sum_in s.found) p low), weight_is s y 1 is turned k (test_in (sum_in s.found) y high)))

  some_one : (d : Deeds) (i y : ℕ) (s : Toggle) → get_elem? d.toggles i ≡ some s → b ≡ s.binding → did_turn s ≡ true → s.disables ≡ kind → sum_in s.found ≤ y → 1 ≤ toggles_upto kind b y d
  unfolding toggles_upto toggle_upto total
  some_one d i y s at is turned k high = omega (arith, total_strict (λ _. 0) (toggle_upto kind b y) (λ t. omega arith) d.toggles i s at (omega (arith, weight_is s y 1 is turned k (test_in (sum_in s.found) y high))))

-- what was missed was drawn
missed_drawn : (b x : ℕ) (s : Sight) → missed b x s ≤ gave b x s
unfolding missed gave
missed_drawn b x s = by_kind (same b s.binding) s.drawn
  where
    by_kind : (n : ℕ) (o : Drawn) → n * at_number x (missed_in o) ≤ n * at_number x (number_in o)
    by_kind n (On y) = omega arith
    by_kind n (Missed y) = omega arith
    by_kind n Off = omega arith

misses_drawn : (b x : ℕ) (d : Deeds) → misses b x d ≤ drew_number b x d
unfolding misses drew_number
misses_drawn b x d = total_under (missed b x) (gave b x) (missed_drawn b x) d.sights

module _ (p : Layout) (ws : List ℕ) (views : List View) (id b : ℕ) (v : View) (g : Good p ws views) (at : get_elem? views id ≡ some v) (lt : b < bindings p) where
  abbrev upto : Bool → ℕ → ℕ
  upto kind y = total (of_all (toggles_upto kind b y)) views

  pub missed_once : (x : ℕ) → total (of_all (misses b x)) views ≤ 1
  missed_once x = omega (arith, all_under (misses b x) (drew_number b x) (misses_drawn b x) views, g.counted.drawn b x lt, one_at_most x (g.limit b))

  -- an enable that found the binding on, after a disable with the count c
  reply_on : (i : ℕ) (s : Toggle) → get_elem? v.deeds.toggles i ≡ some s → b ≡ s.binding → did_turn s ≡ true → s.disables ≡ true → disposed (binding_word p ws b) ≡ 0 → off (binding_word p ws b) ≡ 0 → (c : ℕ) → c ≡ sum_in s.found → 0 < There views false b c
  reply_on i s there is turned k still on zero e =
      let l : ℕ = g.limit b in
      let now = (g.switched b lt).on l (omega arith) still in
      let mine = all_strict (λ _. 0) (toggles_upto true b l) (λ d. omega arith) views id v at (omega (arith, some_one true b v.deeds i l s there is turned k (omega arith))) in
      let all = all_under (toggles_upto false b l) (toggles_from false b 0) (from_first false b l) views in
      omega arith
  reply_on i s there is turned k still on (suc q) e =
      let l : ℕ = g.limit b in
      let high : sum_in s.found ≤ l = (g.each id v at).done.toggle_is b (sum_in s.found) lt (toggle_counts v.deeds v.taken i s b there turned is) in
      let now = (g.switched b lt).on l (omega arith) still in
      let before = (g.switched b lt).below q (omega arith) in
      let mine = all_strict (toggles_upto true b q) (toggles_upto true b l) (upto_up true b q l (omega arith)) views id v at (strict true b v.deeds i q l s there is turned k (omega arith) high) in
      let all = all_within (toggles_upto false b l) (toggles_upto false b q) (toggles_from false b (suc q)) (from_next false b q l) views in
      omega arith

  -- a disable that found the binding off, after an enable with the count c
  reply_off : (i : ℕ) (s : Toggle) → get_elem? v.deeds.toggles i ≡ some s → b ≡ s.binding → did_turn s ≡ true → s.disables ≡ false → disposed (binding_word p ws b) ≡ 0 → off (binding_word p ws b) ≡ 1 → (c : ℕ) → c ≡ sum_in s.found → 0 < There views true b c
  reply_off i s there is turned k still gone zero e =
      let l : ℕ = g.limit b in
      let now = (g.switched b lt).on l (omega arith) still in
      let all = all_under (toggles_upto true b l) (toggles_from true b 0) (from_first true b l) views in
      omega arith
  reply_off i s there is turned k still gone (suc q) e =
      let l : ℕ = g.limit b in
      let high : sum_in s.found ≤ l = (g.each id v at).done.toggle_is b (sum_in s.found) lt (toggle_counts v.deeds v.taken i s b there turned is) in
      let now = (g.switched b lt).on l (omega arith) still in
      let before = (g.switched b lt).below q (omega arith) in
      let once = missed_once q in
      let mine = all_strict (toggles_upto false b q) (toggles_upto false b l) (upto_up false b q l (omega arith)) views id v at (strict false b v.deeds i q l s there is turned k (omega arith) high) in
      let all = all_within (toggles_upto true b l) (toggles_upto true b q) (toggles_from true b (suc q)) (from_next true b q l) views in
      omega arith

  -- a disable that found the binding off
  reply_any : disposed (binding_word p ws b) ≡ 0 → off (binding_word p ws b) ≡ 1 → 0 < There views true b 0
  reply_any still gone =
      let l : ℕ = g.limit b in
      let now = (g.switched b lt).on l (omega arith) still in
      let all = all_under (toggles_upto true b l) (toggles_from true b 0) (from_first true b l) views in
      omega arith

  pub any_reply : already true (binding_word p ws b) ≡ true → 0 < There views true b 0
  any_reply so = let t = both (disposed (binding_word p ws b) == 0) (off (binding_word p ws b) == 1) so in reply_any (eqb_is (disposed (binding_word p ws b)) 0 t.0) (eqb_is (off (binding_word p ws b)) 1 t.1)

  pub later_reply : (kind : Bool) → already kind (binding_word p ws b) ≡ true → (i : ℕ) (s : Toggle) → get_elem? v.deeds.toggles i ≡ some s → b ≡ s.binding → did_turn s ≡ true → s.disables ≡ not kind → 0 < There views kind b (sum_in s.found)
  later_reply true so i s there is turned k = let t = both (disposed (binding_word p ws b) == 0) (off (binding_word p ws b) == 1) so in reply_off i s there is turned k (eqb_is (disposed (binding_word p ws b)) 0 t.0) (eqb_is (off (binding_word p ws b)) 1 t.1) (sum_in s.found) refl
  later_reply false so i s there is turned k = let t = both (disposed (binding_word p ws b) == 0) (off (binding_word p ws b) == 0) so in reply_on i s there is turned k (eqb_is (disposed (binding_word p ws b)) 0 t.0) (eqb_is (off (binding_word p ws b)) 0 t.1) (sum_in s.found) refl

-- what stands before an old one is old
pub earlier : {A : Type 0} (xs : List A) (a s t : A) (i j : ℕ) → i < j → get_elem? xs j ≡ some t → get_elem? (xs ++ a ∷ []) i ≡ some s → get_elem? xs i ≡ some s
earlier [] a s t i j lt there e = absurd (some-ne-none t (sym there))
earlier (x ∷ xs) a s t i zero lt there e = absurd (omega arith)
earlier (x ∷ xs) a s t zero (suc j) lt there e = e
earlier (x ∷ xs) a s t (suc i) (suc j) lt there e = earlier xs a s t i j (omega arith) there e
