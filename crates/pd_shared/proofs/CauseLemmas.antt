-- The toggles of a seat that found nothing to change, in its view and among its answers.
use Rattle.std.proofs.Common.{◌≡◌, ℕ, zero, suc, ◌*◌, ◌<◌, List, [], ◌∷◌, map, length, Bool, true, false, not, ◌==◌, ◌&&◌, Option, Some, None, sym, refl, ap, ◌∙◌, subst, arith, eq-eqb}
use Rattle.std.specs.Prelude.{slice_index_or, take, nat_le}
use Rattle.std.specs.List.{All, Contains, filter_map, cons_option}
use Rattle.std.specs.Bool.{beq}
use Rattle.std.proofs.lemmas.List.Elements.{All-cons, All-nil}
use mathlib.Core.Option.{some}
use lib.ListN.{get_elem?}
use Rattle.pd_board.specs.declared.answers.Toggle.{Toggle as Answer}
use Rattle.pd_board.specs.declared.answers.Toggle.TheVariants as toggles
use Rattle.pd_board.specs.declared.answers.ActResult.{ActResult}
use Rattle.pd_board.specs.declared.answers.ActResult.TheVariants as acts
use Rattle.pd_core.specs.declared.view.Deeds.{Deeds}
use Rattle.pd_core.specs.declared.view.Toggle.{Toggle}
use Rattle.pd_core.specs.Words.{disposed, off, sum_in}
use Rattle.pd_core.specs.Counts.{total, same, once_below, one_if}
use Rattle.pd_core.specs.Views.{already, turns, is_kind, toggle_from, toggles_from}
use Rattle.pd_core.specs.Good.{Answered}
use Rattle.pd_core.proofs.Bits.{disposed_fits}
use Rattle.pd_board.specs.Journal.{Entries}
use Rattle.pd_shared.specs.declared.sights.Sights.{Sights}
use Rattle.pd_shared.specs.Tied.{act_of, act_as, toggle_as, toggle_of, toggle_by, AreDeeds}
use Rattle.pd_shared.specs.Left.{DidLeave}
use Rattle.pd_board.specs.Order.{disables_from, enables_from}
use Rattle.pd_shared.proofs.ActLemmas.{not_flag}
use Rattle.pd_shared.proofs.NumberLemmas.{off_fits, turned_word}
use Rattle.pd_shared.proofs.AllLemmas.{total_same, map_total, filter_total, upto_by, weight_none, turned_off, turned_on, only_toggles}

-- ---- places in a list of which some entries are kept

module _ {A B : Type 0} (f : A → Option B) where
  abbrev one_more : Option B → ℕ → ℕ
  one_more None n = n
  one_more (Some y) n = suc n

  -- how many of the first j entries are kept
  abbrev pub kept_before : List A → ℕ → ℕ
  kept_before [] j = 0
  kept_before (x ∷ xs) zero = 0
  kept_before (x ∷ xs) (suc j) = one_more (f x) (kept_before xs j)

  kept_here : (o : Option B) (ys : List B) (y : B) → o ≡ Some y → get_elem? (cons_option o ys) 0 ≡ some y
  kept_here o ys y e = ap (λ (p : Option B). get_elem? (cons_option p ys) 0) e

  kept_on : (o : Option B) (ys : List B) (n : ℕ) (y : B) → get_elem? ys n ≡ some y → get_elem? (cons_option o ys) (one_more o n) ≡ some y
  kept_on None ys n y h = h
  kept_on (Some z) ys n y h = h

  pub kept_at : (xs : List A) (j : ℕ) (d : A) (y : B) → j < length xs → f (slice_index_or xs j d) ≡ Some y → get_elem? (filter_map f xs) (kept_before xs j) ≡ some y
  kept_at [] j d y lt e = absurd (omega arith)
  kept_at (x ∷ xs) zero d y lt e = kept_here (f x) (filter_map f xs) y e
  kept_at (x ∷ xs) (suc j) d y lt e = kept_on (f x) (filter_map f xs) (kept_before xs j) y (kept_at xs j d y (omega arith) e)

  one_some : (o : Option B) (n : ℕ) (y : B) → o ≡ Some y → 0 < one_more o n
  one_some None n y e = absurd (cc)
  one_some (Some z) n y e = omega arith

  one_rises : (o : Option B) (m n : ℕ) → m < n → one_more o m < one_more o n
  one_rises None m n h = h
  one_rises (Some z) m n h = omega arith

  pub kept_rises : (xs : List A) (i j : ℕ) (d : A) (y : B) → i < j → i < length xs → f (slice_index_or xs i d) ≡ Some y → kept_before xs i < kept_before xs j
  kept_rises [] i j d y h lt e = absurd (omega arith)
  kept_rises (x ∷ xs) i zero d y h lt e = absurd (omega arith)
  kept_rises (x ∷ xs) zero (suc j) d y h lt e = one_some (f x) (kept_before xs j) y e
  kept_rises (x ∷ xs) (suc i) (suc j) d y h lt e = one_rises (f x) (kept_before xs i) (kept_before xs j) (kept_rises xs i j d y (omega arith) (omega arith) e)

mapped_at : {A B : Type 0} (g : A → B) (xs : List A) (n : ℕ) (y : B) → get_elem? (map g xs) n ≡ some y → (x : A) × (get_elem? xs n ≡ some x) × (g x ≡ y)
mapped_at g [] n y e = absurd (cc)
mapped_at g (x ∷ xs) zero y e = (x, refl, cc)
mapped_at g (x ∷ xs) (suc n) y e = mapped_at g xs n y e

-- an entry before the j-th
taken_at : {A : Type 0} (xs : List A) (j i : ℕ) (d : A) → i < length (take j xs) → (i < j) × (i < length xs) × (slice_index_or (take j xs) i d ≡ slice_index_or xs i d)
taken_at xs zero i d lt = absurd (omega arith)
taken_at [] (suc j) i d lt = absurd (omega arith)
taken_at (x ∷ xs) (suc j) zero d lt = (omega arith, omega arith, refl)
taken_at (x ∷ xs) (suc j) (suc i) d lt = let rest = taken_at xs j i d (omega arith) in (omega (arith, rest.0), omega (arith, rest.1), rest.2)

-- ---- a toggle and its answer

so_is : (gone same_way : Bool) (n : ℕ) → toggle_as gone same_way n ≡ toggles.Already → (gone ≡ false) × (same_way ≡ true)
so_is true s n e = absurd (cc)
so_is false true n e = (refl, refl)
so_is false false n e = absurd (cc)

so_word : (d : Bool) (w : ℕ) → toggle_of d w ≡ toggles.Already → already d w ≡ true
so_word d w e =
    let parts = so_is (disposed w == 1) (beq (off w == 1) d) (sum_in w) e in
    by_kind d (eq-eqb (disposed w) 0 (not_flag (disposed w) (disposed_fits w) parts.0)) parts.1
  where
    is_off : (s : Bool) → beq s true ≡ true → s ≡ true
    is_off true q = refl
    is_off false q = absurd (cc)

    is_on : (s : Bool) → beq s false ≡ true → s ≡ false
    is_on false q = refl
    is_on true q = absurd (cc)

    by_kind : (k : Bool) → (disposed w == 0) ≡ true → beq (off w == 1) k ≡ true → already k w ≡ true
    by_kind true z q = λ i. z i && is_off (off w == 1) q i
    by_kind false z q = λ i. z i && eq-eqb (off w) 0 (not_flag (off w) (off_fits w) (is_on (off w == 1) q)) i

same_act : (d kind : Bool) (c b : ℕ) (x y : Answer) → act_as d c x ≡ act_as kind b y → (c ≡ b) × (d ≡ kind) × (x ≡ y)
same_act true true c b x y e = (cc, refl, cc)
same_act false false c b x y e = (cc, refl, cc)
same_act true false c b x y e = absurd (cc)
same_act false true c b x y e = absurd (cc)

kind_kept : (kind : Bool) (b : ℕ) (x : Answer) → toggle_by (act_as kind b x) ≡ Some (act_as kind b x)
kind_kept true b x = refl
kind_kept false b x = refl

other_kind : (s t kind : Bool) → s ≡ not kind → t ≡ kind → s ≡ not t
other_kind s t kind e q = e ∙ ap not (sym q)

module _ (there : Bool → ℕ → ℕ → ℕ) (d : Deeds) (e : Entries) (a : AreDeeds d e) (answered : Answered there d) (b : ℕ) where
  located : (j : ℕ) (u : ActResult) (kind : Bool) (x : Answer) → j < length e.replies → slice_index_or e.replies j u ≡ act_as kind b x → (t : Toggle) × (get_elem? d.toggles (kept_before toggle_by e.replies j) ≡ some t) × (act_of t ≡ act_as kind b x)
  located j u kind x lt is = mapped_at act_of d.toggles (kept_before toggle_by e.replies j) (act_as kind b x)
      (ap (λ (rs : List ActResult). get_elem? rs (kept_before toggle_by e.replies j)) a.toggles ∙ kept_at toggle_by e.replies j u (act_as kind b x) lt (ap toggle_by is ∙ kind_kept kind b x))

  -- where this seat had switched it the other way
  pub cause_since : (j n : ℕ) (u : ActResult) (kind : Bool) → j < length e.replies → slice_index_or e.replies j u ≡ act_as kind b toggles.Already → Contains (take j e.replies) (act_as (not kind) b (toggles.At n)) → 0 < there kind b n
  cause_since j n u kind lt is before =
      let other : ActResult = act_as (not kind) b (toggles.At n) in
      let read = taken_at e.replies j before.0 other before.1 in
      let was : slice_index_or e.replies before.0 other ≡ other = sym read.2 ∙ before.2 in
      let s = located before.0 other (not kind) (toggles.At n) read.1 was in
      let t = located j u kind toggles.Already lt is in
      let of_s = same_act s.0.disables (not kind) s.0.binding b (toggle_of s.0.disables s.0.found) (toggles.At n) s.2 in
      let of_t = same_act t.0.disables kind t.0.binding b (toggle_of t.0.disables t.0.found) toggles.Already t.2 in
      let word = turned_word s.0 n of_s.2 in
      let found = answered.by_later (kept_before toggle_by e.replies before.0) (kept_before toggle_by e.replies j) s.0 t.0
      (kept_rises toggle_by e.replies before.0 j other other read.0 read.1 (ap toggle_by was ∙ kind_kept (not kind) b (toggles.At n))) s.1 t.1
      (of_s.0 ∙ sym of_t.0) word.0 (other_kind s.0.disables t.0.disables kind of_s.1 of_t.1) (so_word t.0.disables t.0.found of_t.2) in
      subst (λ (x : Bool × ℕ × ℕ). 0 < there x.0 x.1 x.2) (λ i. (of_t.1 i, of_t.0 i, sym word.1 i)) found

  -- a disable
  pub cause_of : (j : ℕ) (u : ActResult) → j < length e.replies → slice_index_or e.replies j u ≡ act_as true b toggles.Already → 0 < there true b 0
  cause_of j u lt is =
      let t = located j u true toggles.Already lt is in
      let of_t = same_act t.0.disables true t.0.binding b (toggle_of t.0.disables t.0.found) toggles.Already t.2 in
      subst (λ (c : ℕ). 0 < there true c 0) of_t.0 (answered.by_any (kept_before toggle_by e.replies j) t.0 t.1 of_t.1 (so_word t.0.disables t.0.found of_t.2))

-- ---- toggles with a count of at least x

module _ (b x : ℕ) where
  disabled_by : (gone same_way : Bool) (c n : ℕ) → disables_from b x (acts.Disabled c (toggle_as gone same_way n)) ≡ ((not gone && not same_way) && ((c == b) && nat_le x n))
  disabled_by true same_way c n = refl
  disabled_by false true c n = refl
  disabled_by false false c n = refl

  enabled_by : (gone same_way : Bool) (c n : ℕ) → enables_from b x (acts.Enabled c (toggle_as gone same_way n)) ≡ ((not gone && not same_way) && ((c == b) && nat_le x n))
  enabled_by true same_way c n = refl
  enabled_by false true c n = refl
  enabled_by false false c n = refl

  disable_weight : (t : Toggle) → toggle_from true b x t ≡ one_if (disables_from b x (act_of t))
  unfolding toggle_from
  disable_weight t = by_kind t.disables t.binding t.found
    where
      by_kind : (d : Bool) (c w : ℕ) → same b c * (one_if (is_kind true d && turns d w) * once_below x (suc (sum_in w))) ≡ one_if (disables_from b x (act_as d c (toggle_of d w)))
      by_kind true c w = upto_by b c x (sum_in w) (turns true w) ∙ (ap (λ (s : Bool). one_if (s && ((c == b) && nat_le x (sum_in w)))) (turned_off b x w) ∙ sym (ap one_if (disabled_by (disposed w == 1) (beq (off w == 1) true) c (sum_in w))))
      by_kind false c w = weight_none (same b c) (once_below x (suc (sum_in w)))

  enable_weight : (t : Toggle) → toggle_from false b x t ≡ one_if (enables_from b x (act_of t))
  unfolding toggle_from
  enable_weight t = by_kind t.disables t.binding t.found
    where
      by_kind : (d : Bool) (c w : ℕ) → same b c * (one_if (is_kind false d && turns d w) * once_below x (suc (sum_in w))) ≡ one_if (enables_from b x (act_as d c (toggle_of d w)))
      by_kind false c w = upto_by b c x (sum_in w) (turns false w) ∙ (ap (λ (s : Bool). one_if (s && ((c == b) && nat_le x (sum_in w)))) (turned_on b x w) ∙ sym (ap one_if (enabled_by (disposed w == 1) (beq (off w == 1) false) c (sum_in w))))
      by_kind true c w = weight_none (same b c) (once_below x (suc (sum_in w)))

  of_toggles : (kind : Bool) (h : ActResult → Bool) → ((t : Toggle) → toggle_from kind b x t ≡ one_if (h (act_of t))) → ((c : ℕ) (y : _) → h (acts.Attached c y) ≡ false) → ((c : ℕ) (y : _) → h (acts.Disposed c y) ≡ false)
      → (d : Deeds) (e : Entries) → AreDeeds d e → toggles_from kind b x d ≡ total (λ r. one_if (h r)) e.replies
  unfolding toggles_from
  of_toggles kind h weight made gone d e a = total_same (toggle_from kind b x) (λ t. one_if (h (act_of t))) weight d.toggles
      ∙ (sym (map_total (λ r. one_if (h r)) act_of d.toggles) ∙ (ap (total (λ r. one_if (h r))) a.toggles
      ∙ (filter_total (λ r. one_if (h r)) toggle_by e.replies ∙ total_same _ (λ r. one_if (h r)) (only_toggles b x h made gone) e.replies)))

  pub disables_from_is : (d : Deeds) (e : Entries) → AreDeeds d e → toggles_from true b x d ≡ total (λ r. one_if (disables_from b x r)) e.replies
  disables_from_is = of_toggles true (disables_from b x) disable_weight (λ c y. refl) (λ c y. refl)

  pub enables_from_is : (d : Deeds) (e : Entries) → AreDeeds d e → toggles_from false b x d ≡ total (λ r. one_if (enables_from b x r)) e.replies
  enables_from_is = of_toggles false (enables_from b x) enable_weight (λ c y. refl) (λ c y. refl)

-- ---- of each seat that left

pub each_left : (Q : Deeds → Type 0) (P : List ActResult → Type 0) → ((d : Deeds) (e : Entries) → AreDeeds d e → Q d → P e.replies) → (left : List Sights) (ds : List Deeds) → DidLeave left ds → ((k : ℕ) (d : Deeds) → get_elem? ds k ≡ some d → Q d) → All (λ s. P s.journal.replies) left
each_left Q P each [] ds k q = All-nil (λ s. P s.journal.replies)
each_left Q P each (s ∷ ss) [] k q = absurd k
each_left Q P each (s ∷ ss) (d ∷ ds) k q = All-cons (λ s. P s.journal.replies) s ss (each d s.journal k.0 (q 0 d refl)) (each_left Q P each ss ds k.1 (λ i x e. q (suc i) x e))
