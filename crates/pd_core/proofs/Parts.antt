-- What a change of one part of a view leaves of the rule's parts.
use Rattle.std.proofs.Common.{◌≡◌, ◌≢◌, ℕ, zero, suc, ◌+◌, ◌*◌, ◌<◌, ◌≤◌, List, [], ◌∷◌, ◌++◌, cond, Bool, true, false, Some, None, sym, refl, ap, ◌∙◌, subst, ⊎_elim, arith}
use Rattle.pd_core.specs.declared.view.Sight.{Sight}
use Rattle.pd_core.specs.declared.view.Deeds.{Deeds}
use Rattle.pd_core.specs.Layout.{Layout, binding_word}
use Rattle.pd_core.specs.Words.{attached, disposed, sum_in}
use Rattle.pd_core.specs.Counts.{total, same, times, first_is, pair_is, one_if, only_if}
use Rattle.pd_core.specs.Views.{number_in, at_number, gave, missed, missed_in, did_turn, toggle_upto, toggle_at, over, no_deeds, drew_number, misses, toggles_upto, toggles_from, toggle_from, toggles_at, makings, firsts, lates, disposals, count_kept, outcome, past_in, half_in}
use Rattle.pd_core.specs.declared.view.Toggle.{Toggle}
use Rattle.pd_core.specs.Good.{Underway, Knows, Done, Ordered}
use mathlib.Core.Option.{some, some-ne-none}
use lib.ListN.{get_elem?}
use Rattle.atomic_table.proofs.Lists.{at_snoc}
use Rattle.pd_core.proofs.Sums.{total_push, total-at, total_if, times_if, same_here, same_else, times_some, over_own, over_same}

-- the weights of deeds with the same lists
module _ (d e : Deeds) (ds : List Deeds) where
  pub drawn_same : e.sights ≡ d.sights → (b x : ℕ) → over (drew_number b x) e ds ≡ over (drew_number b x) d ds
  unfolding drew_number
  drawn_same h b x = over_same (drew_number b x) d e ds (ap (total (gave b x)) h)

  pub misses_same : e.sights ≡ d.sights → (b x : ℕ) → over (misses b x) e ds ≡ over (misses b x) d ds
  unfolding misses
  misses_same h b x = over_same (misses b x) d e ds (ap (total (missed b x)) h)

  pub upto_same : e.toggles ≡ d.toggles → (kind : Bool) (b x : ℕ) → over (toggles_upto kind b x) e ds ≡ over (toggles_upto kind b x) d ds
  unfolding toggles_upto
  upto_same h kind b x = over_same (toggles_upto kind b x) d e ds (ap (total (toggle_upto kind b x)) h)

  pub toggles_same : e.toggles ≡ d.toggles → (b n : ℕ) → over (toggles_at b n) e ds ≡ over (toggles_at b n) d ds
  unfolding toggles_at
  toggles_same h b n = over_same (toggles_at b n) d e ds (ap (total (toggle_at b n)) h)

  pub misses_more : (s : Sight) → e.sights ≡ d.sights ++ s ∷ [] → (b x : ℕ) → over (misses b x) e ds ≡ over (misses b x) d ds + missed b x s
  unfolding misses
  misses_more s h b x = let pushed = total_push (missed b x) d.sights s in let now : misses b x e ≡ misses b x d + missed b x s = ap (total (missed b x)) h ∙ pushed in omega (arith, over_own (misses b x) d e ds)

  pub upto_more : (t : Toggle) → e.toggles ≡ d.toggles ++ t ∷ [] → (kind : Bool) (b x : ℕ) → over (toggles_upto kind b x) e ds ≡ over (toggles_upto kind b x) d ds + toggle_upto kind b x t
  unfolding toggles_upto
  upto_more t h kind b x = let pushed = total_push (toggle_upto kind b x) d.toggles t in let now : toggles_upto kind b x e ≡ toggles_upto kind b x d + toggle_upto kind b x t = ap (total (toggle_upto kind b x)) h ∙ pushed in omega (arith, over_own (toggles_upto kind b x) d e ds)

  pub from_more : (t : Toggle) → e.toggles ≡ d.toggles ++ t ∷ [] → (kind : Bool) (b x : ℕ) → over (toggles_from kind b x) e ds ≡ over (toggles_from kind b x) d ds + toggle_from kind b x t
  unfolding toggles_from
  from_more t h kind b x = let pushed = total_push (toggle_from kind b x) d.toggles t in let now : toggles_from kind b x e ≡ toggles_from kind b x d + toggle_from kind b x t = ap (total (toggle_from kind b x)) h ∙ pushed in omega (arith, over_own (toggles_from kind b x) d e ds)

  pub toggles_more : (t : Toggle) → e.toggles ≡ d.toggles ++ t ∷ [] → (b n : ℕ) → over (toggles_at b n) e ds ≡ over (toggles_at b n) d ds + toggle_at b n t
  unfolding toggles_at
  toggles_more t h b n = let pushed = total_push (toggle_at b n) d.toggles t in let now : toggles_at b n e ≡ toggles_at b n d + toggle_at b n t = ap (total (toggle_at b n)) h ∙ pushed in omega (arith, over_own (toggles_at b n) d e ds)

  pub makings_same : e.made ≡ d.made → (b : ℕ) → over (makings b) e ds ≡ over (makings b) d ds
  unfolding makings
  makings_same h b = over_same (makings b) d e ds (ap (times b) h)

  pub firsts_same : e.firsts ≡ d.firsts → (b : ℕ) → over (firsts b) e ds ≡ over (firsts b) d ds
  unfolding firsts
  firsts_same h b = over_same (firsts b) d e ds (ap (times b) h)

  pub lates_same : e.late ≡ d.late → (b : ℕ) → over (lates b) e ds ≡ over (lates b) d ds
  unfolding lates
  lates_same h b = over_same (lates b) d e ds (ap (times b) h)

  pub disposals_same : e.counts ≡ d.counts → (b : ℕ) → over (disposals b) e ds ≡ over (disposals b) d ds
  unfolding disposals
  disposals_same h b = over_same (disposals b) d e ds (ap (total (first_is b)) h)

  pub kept_same : e.counts ≡ d.counts → (b n : ℕ) → over (count_kept b n) e ds ≡ over (count_kept b n) d ds
  unfolding count_kept
  kept_same h b n = over_same (count_kept b n) d e ds (ap (total (pair_is b n)) h)

  -- with one more sight
  pub drawn_more : (s : Sight) → e.sights ≡ d.sights ++ s ∷ [] → (b x : ℕ) → over (drew_number b x) e ds ≡ over (drew_number b x) d ds + gave b x s
  unfolding drew_number
  drawn_more s h b x = let pushed = total_push (gave b x) d.sights s in let now : drew_number b x e ≡ drew_number b x d + gave b x s = ap (total (gave b x)) h ∙ pushed in omega (arith, over_own (drew_number b x) d e ds)

  -- with one more binding, where the test passes
  pub makings_more : (b : ℕ) (t : Bool) → e.made ≡ d.made ++ only_if t b → (c : ℕ) → over (makings c) e ds ≡ over (makings c) d ds + cond t (same c b) 0
  unfolding makings
  makings_more b t h c = let now : makings c e ≡ makings c d + cond t (same c b) 0 = ap (times c) h ∙ times_if c b d.made t in omega (arith, over_own (makings c) d e ds)

  pub firsts_more : (b : ℕ) (t : Bool) → e.firsts ≡ d.firsts ++ only_if t b → (c : ℕ) → over (firsts c) e ds ≡ over (firsts c) d ds + cond t (same c b) 0
  unfolding firsts
  firsts_more b t h c = let now : firsts c e ≡ firsts c d + cond t (same c b) 0 = ap (times c) h ∙ times_if c b d.firsts t in omega (arith, over_own (firsts c) d e ds)

  pub lates_more : (b : ℕ) (t : Bool) → e.late ≡ d.late ++ only_if t b → (c : ℕ) → over (lates c) e ds ≡ over (lates c) d ds + cond t (same c b) 0
  unfolding lates
  lates_more b t h c = let now : lates c e ≡ lates c d + cond t (same c b) 0 = ap (times c) h ∙ times_if c b d.late t in omega (arith, over_own (lates c) d e ds)

  -- with one more count, where the test passes
  pub disposals_more : (b n : ℕ) (t : Bool) → e.counts ≡ d.counts ++ only_if t (b, n) → (c : ℕ) → over (disposals c) e ds ≡ over (disposals c) d ds + cond t (first_is c (b, n)) 0
  unfolding disposals
  disposals_more b n t h c = let now : disposals c e ≡ disposals c d + cond t (first_is c (b, n)) 0 = ap (total (first_is c)) h ∙ total_if (first_is c) d.counts t (b, n) in omega (arith, over_own (disposals c) d e ds)

  pub kept_more : (b n : ℕ) (t : Bool) → e.counts ≡ d.counts ++ only_if t (b, n) → (c m : ℕ) → over (count_kept c m) e ds ≡ over (count_kept c m) d ds + cond t (pair_is c m (b, n)) 0
  unfolding count_kept
  kept_more b n t h c m = let now : count_kept c m e ≡ count_kept c m d + cond t (pair_is c m (b, n)) 0 = ap (total (pair_is c m)) h ∙ total_if (pair_is c m) d.counts t (b, n) in omega (arith, over_own (count_kept c m) d e ds)

  pub done_same : (p : Layout) (ws : List ℕ) (l : ℕ → ℕ) → e.made ≡ d.made → e.late ≡ d.late → e.counts ≡ d.counts → e.toggles ≡ d.toggles → Done p ws l d ds → Done p ws l e ds
  done_same p ws l m t c u f = record {
    made_is = λ b h k. f.made_is b h (omega (arith, makings_same m b));
    late_is = λ b h k. f.late_is b h (omega (arith, lates_same t b));
    count_is = λ b n h k. f.count_is b n h (omega (arith, kept_same c b n));
    toggle_is = λ b n h k. f.toggle_is b n h (omega (arith, toggles_same u b n));
  }

pub gave_number : (b x n : ℕ) (s : Sight) → b ≡ s.binding → number_in s.drawn ≡ Some n → gave b x s ≡ same x n
unfolding gave
gave_number b x n s e h = (λ i. same_here b s.binding e i * at_number x (h i)) ∙ omega arith

pub gave_none : (b x : ℕ) (s : Sight) → number_in s.drawn ≡ None → gave b x s ≡ 0
unfolding gave
gave_none b x s h = ap (λ o. same b s.binding * at_number x o) h ∙ omega arith

pub gave_else : (b x : ℕ) (s : Sight) → b ≢ s.binding → gave b x s ≡ 0
unfolding gave
gave_else b x s ne = ap (λ k. k * at_number x (number_in s.drawn)) (same_else b s.binding ne) ∙ omega arith

pub number_on : (is_off : Bool) (n : ℕ) → number_in (outcome true is_off n) ≡ Some n
number_on true n = refl
number_on false n = refl

-- one more found
module _ (p : Layout) (ws : List ℕ) (b : ℕ) (on gone : List ℕ) where
  pub knows_gone : (t : Bool) → (t ≡ true → disposed (binding_word p ws b) ≡ 1) → Knows p ws on gone → Knows p ws on (gone ++ only_if t b)
  knows_gone t dead f = record {
    attached_is = f.attached_is;
    disposed_is = λ c h k. ⊎_elim (λ was. f.disposed_is c h was) (λ (e : (t ≡ true) × (c ≡ b)). ap (λ x. disposed (binding_word p ws x)) e.1 ∙ dead e.0) (times_some c b gone t k);
  }

  pub knows_on : (t : Bool) → (t ≡ true → attached (binding_word p ws b) ≡ 1) → Knows p ws on gone → Knows p ws (on ++ only_if t b) gone
  knows_on t alive f = record {
    attached_is = λ c h k. ⊎_elim (λ was. f.attached_is c h was) (λ (e : (t ≡ true) × (c ≡ b)). ap (λ x. attached (binding_word p ws x)) e.1 ∙ alive e.0) (times_some c b on t k);
    disposed_is = f.disposed_is;
  }

-- no attachment is under way
pub none_underway : (p : Layout) (ws : List ℕ) → Underway p ws None
unfolding past_in half_in
none_underway p ws = record { past = λ b k lt h. absurd (omega arith); half_done = λ b n lt h. let e : false ≡ true = h.0 in absurd (cc) }

-- more or less, where both may be
pub either_part : {Q : Type 0} (m n k : ℕ) → 0 < k → k ≡ m + n → (0 < m → Q) → (0 < n → Q) → Q
either_part zero n k h e left right = right (omega arith)
either_part (suc m) n k h e left right = left (omega arith)

pub missed_none : (b x : ℕ) (s : Sight) → missed_in s.drawn ≡ None → missed b x s ≡ 0
unfolding missed
missed_none b x s h = ap (λ o. same b s.binding * at_number x o) h ∙ omega arith

pub missed_else : (b x : ℕ) (s : Sight) → b ≢ s.binding → missed b x s ≡ 0
unfolding missed
missed_else b x s ne = ap (λ k. k * at_number x (missed_in s.drawn)) (same_else b s.binding ne) ∙ omega arith

pub missed_number : (b x n : ℕ) (s : Sight) → b ≡ s.binding → missed_in s.drawn ≡ Some n → missed b x s ≡ same x n
unfolding missed
missed_number b x n s e h = (λ i. same_here b s.binding e i * at_number x (h i)) ∙ omega arith

-- the order of own steps, later and with one more
pub ordered_later : (d : Deeds) (m n : ℕ) → m ≤ n → Ordered d m → Ordered d n
ordered_later d m n le f = record { order = f.order; toggled = λ i t e. let h = f.toggled i t e in omega arith; seen = λ j s e. let h = f.seen j s e in omega arith; toggles_rise = f.toggles_rise; sights_rise = f.sights_rise }

pub ordered_none : (m : ℕ) → Ordered no_deeds m
ordered_none m = record { order = λ i j t s n e _ _ _ _. absurd (some-ne-none t (sym e)); toggled = λ i t e. absurd (some-ne-none t (sym e)); seen = λ j s e. absurd (some-ne-none s (sym e)); toggles_rise = λ i j s t lt e _. absurd (some-ne-none s (sym e)); sights_rise = λ i j s t lt e _. absurd (some-ne-none s (sym e)) }

pub ordered_same : (d e : Deeds) (m : ℕ) → e.sights ≡ d.sights → e.toggles ≡ d.toggles → Ordered d m → Ordered e m
ordered_same d e m h k f = record {
  order = λ i j t s n at turned there. f.order i j t s n (ap (λ xs. get_elem? xs i) (sym k) ∙ at) turned (ap (λ xs. get_elem? xs j) (sym h) ∙ there);
  toggled = λ i t at. f.toggled i t (ap (λ xs. get_elem? xs i) (sym k) ∙ at);
  seen = λ j s at. f.seen j s (ap (λ xs. get_elem? xs j) (sym h) ∙ at);
  toggles_rise = λ i j s t lt at there. f.toggles_rise i j s t lt (ap (λ xs. get_elem? xs i) (sym k) ∙ at) (ap (λ xs. get_elem? xs j) (sym k) ∙ there);
  sights_rise = λ i j s t lt at there. f.sights_rise i j s t lt (ap (λ xs. get_elem? xs i) (sym h) ∙ at) (ap (λ xs. get_elem? xs j) (sym h) ∙ there);
}

-- what stands before an element of a list stands there without one more at the end
before_snoc : {A : Type 0} (xs : List A) (x s t : A) (i j : ℕ) → i < j → get_elem? xs j ≡ some t → get_elem? (xs ++ x ∷ []) i ≡ some s → get_elem? xs i ≡ some s
before_snoc [] x s t i j lt there at = absurd (some-ne-none t (sym there))
before_snoc (y ∷ ys) x s t zero j lt there at = at
before_snoc (y ∷ ys) x s t (suc i) zero lt there at = absurd (omega arith)
before_snoc (y ∷ ys) x s t (suc i) (suc j) lt there at = before_snoc ys x s t i j (omega arith) there at

-- one more at the end of a list whose steps rise, and are at most that one's
rise_more : {A : Type 0} (step : A → ℕ) (xs : List A) (x : A) (m : ℕ) → step x ≡ m → ((i : ℕ) (s : A) → get_elem? xs i ≡ some s → step s ≤ m)
    → ((i j : ℕ) (s t : A) → i < j → get_elem? xs i ≡ some s → get_elem? xs j ≡ some t → step s ≤ step t)
    → (i j : ℕ) (s t : A) → i < j → get_elem? (xs ++ x ∷ []) i ≡ some s → get_elem? (xs ++ x ∷ []) j ≡ some t → step s ≤ step t
rise_more step xs x m now low rise i j s t lt at there = ⊎_elim
    (λ was. rise i j s t lt (before_snoc xs x s t i j lt was at) was)
    (λ (new : x ≡ t). let late : step t ≡ m = ap step (sym new) ∙ now in ⊎_elim
    (λ old. let early = low i s old in omega (arith, early, late))
    (λ (same : x ≡ s). let even : step s ≡ m = ap step (sym same) ∙ now in omega (arith, even, late))
    (at_snoc xs x s i at))
    (at_snoc xs x t j there)

-- a new sight, which is of now: what toggles of its binding have come to is at most its number
pub ordered_seen : (d e : Deeds) (m : ℕ) (s : Sight) → e.sights ≡ d.sights ++ s ∷ [] → e.toggles ≡ d.toggles → s.step ≡ m
    → ((i : ℕ) (t : Toggle) (n : ℕ) → get_elem? d.toggles i ≡ some t → did_turn t ≡ true → s.binding ≡ t.binding → number_in s.drawn ≡ Some n → sum_in t.found ≤ n) → Ordered d m → Ordered e m
ordered_seen d e m s h k now low f = record {
  order = λ i j t u n at turned there same_binding is. let old = ap (λ xs. get_elem? xs i) (sym k) ∙ at in ⊎_elim
      (λ was. f.order i j t u n old turned was same_binding is)
      (λ (new : s ≡ u). let late : u.step ≡ m = ap (λ (y : Sight). y.step) (sym new) ∙ now in ((λ less. absurd (let early = f.toggled i t old in omega arith)), (λ less. low i t n old turned (ap (λ (y : Sight). y.binding) new ∙ same_binding) (ap (λ (y : Sight). number_in y.drawn) new ∙ is))))
      (at_snoc d.sights s u j (ap (λ xs. get_elem? xs j) (sym h) ∙ there));
  toggled = λ i t at. f.toggled i t (ap (λ xs. get_elem? xs i) (sym k) ∙ at);
  seen = λ j u at. ⊎_elim (λ was. f.seen j u was) (λ (new : s ≡ u). let late : u.step ≡ m = ap (λ (y : Sight). y.step) (sym new) ∙ now in omega arith) (at_snoc d.sights s u j (ap (λ xs. get_elem? xs j) (sym h) ∙ at));
  toggles_rise = λ i j t u lt at there. f.toggles_rise i j t u lt (ap (λ xs. get_elem? xs i) (sym k) ∙ at) (ap (λ xs. get_elem? xs j) (sym k) ∙ there);
  sights_rise = λ i j t u lt at there. rise_more (λ (y : Sight). y.step) d.sights s m now f.seen f.sights_rise i j t u lt (ap (λ xs. get_elem? xs i) (sym h) ∙ at) (ap (λ xs. get_elem? xs j) (sym h) ∙ there);
}

-- a new toggle, which is of now: the numbers drawn of its binding are below its count
pub ordered_toggled : (d e : Deeds) (m : ℕ) (t : Toggle) → e.sights ≡ d.sights → e.toggles ≡ d.toggles ++ t ∷ [] → t.step ≡ m
    → ((j : ℕ) (s : Sight) (n : ℕ) → get_elem? d.sights j ≡ some s → did_turn t ≡ true → s.binding ≡ t.binding → number_in s.drawn ≡ Some n → n < sum_in t.found) → Ordered d m → Ordered e m
ordered_toggled d e m t h k now low f = record {
  order = λ i j u s n at turned there same_binding is. let old = ap (λ xs. get_elem? xs j) (sym h) ∙ there in ⊎_elim
      (λ was. f.order i j u s n was turned old same_binding is)
      (λ (new : t ≡ u). let late : u.step ≡ m = ap (λ (y : Toggle). y.step) (sym new) ∙ now in
      ((λ less. subst (λ (y : Toggle). n < sum_in y.found) new (low j s n old (ap did_turn new ∙ turned) (same_binding ∙ ap (λ (y : Toggle). y.binding) (sym new)) is)), (λ less. absurd (let early = f.seen j s old in omega arith))))
      (at_snoc d.toggles t u i (ap (λ xs. get_elem? xs i) (sym k) ∙ at));
  toggled = λ i u at. ⊎_elim (λ was. f.toggled i u was) (λ (new : t ≡ u). let late : u.step ≡ m = ap (λ (y : Toggle). y.step) (sym new) ∙ now in omega arith) (at_snoc d.toggles t u i (ap (λ xs. get_elem? xs i) (sym k) ∙ at));
  seen = λ j s at. f.seen j s (ap (λ xs. get_elem? xs j) (sym h) ∙ at);
  toggles_rise = λ i j s u lt at there. rise_more (λ (y : Toggle). y.step) d.toggles t m now f.toggled f.toggles_rise i j s u lt (ap (λ xs. get_elem? xs i) (sym k) ∙ at) (ap (λ xs. get_elem? xs j) (sym k) ∙ there);
  sights_rise = λ i j s u lt at there. f.sights_rise i j s u lt (ap (λ xs. get_elem? xs i) (sym h) ∙ at) (ap (λ xs. get_elem? xs j) (sym h) ∙ there);
}

-- a toggle that turned counts
pub toggle_counts : (d : Deeds) (ds : List Deeds) (i : ℕ) (t : Toggle) (b : ℕ) → get_elem? d.toggles i ≡ some t → did_turn t ≡ true → b ≡ t.binding → 0 < over (toggles_at b (sum_in t.found)) d ds
unfolding over toggles_at toggle_at
toggle_counts d ds i t b at turned is =
    let n : ℕ = sum_in t.found in
    let weight : toggle_at b n t ≡ 1 = (λ k. same_here b t.binding is k * (one_if (turned k) * same_here n n refl k)) in
    let low = total-at (toggle_at b n) d.toggles i t at in
    omega (arith, weight)
