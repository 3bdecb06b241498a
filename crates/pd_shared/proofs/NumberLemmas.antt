-- What the sights and the toggles of a seat say of a binding's numbers.
use Rattle.std.proofs.Common.{◌≡◌, ◌≢◌, ℕ, ◌*◌, ◌<◌, ◌≤◌, List, [], ◌∷◌, map, Bool, true, false, if◌then◌else◌, ◌==◌, ◌&&◌, Some, None, sym, refl, ap, ◌∙◌, subst, arith, eq-eqb, ne_eqb}
use Rattle.std.proofs.lemmas.List.Elements.{All-cons, All-nil}
use Rattle.std.specs.List.{filter_map}
use Rattle.std.specs.Option.{ForSome}
use Rattle.std.specs.Bool.{beq}
use mathlib.Core.Option.{some}
use lib.ListN.{get_elem?}
use Rattle.pd_board.proofs.ChainLemmas.{by_eq}
use Rattle.pd_board.specs.declared.answers.Toggle.{Toggle as Answer}
use Rattle.pd_board.specs.declared.answers.Toggle.TheVariants as toggles
use Rattle.pd_board.specs.declared.answers.ActResult.{ActResult}
use Rattle.pd_board.specs.declared.answers.ActResult.TheVariants as acts
use Rattle.pd_board.specs.Answers.{number_of, number_in, NumbersBelow, toggle_count, TogglesUpTo}
use Rattle.pd_core.specs.declared.view.View.{View}
use Rattle.pd_core.specs.declared.view.Deeds.{Deeds}
use Rattle.pd_core.specs.declared.view.Drawn.{Drawn}
use Rattle.pd_core.specs.declared.view.Drawn.TheVariants.{On, Missed, Off}
use Rattle.pd_core.specs.declared.view.Sight.{Sight}
use Rattle.pd_core.specs.declared.view.Toggle.{Toggle}
use Rattle.pd_core.specs.Layout.{Layout, bindings, binding_word}
use Rattle.pd_core.specs.Words.{disposed, off, sum_in}
use Rattle.pd_core.specs.Counts.{total, same, one_if}
use Rattle.pd_core.specs.Views.{number_in as number_in_view, gave, at_number, over, of_all, drew_number, toggle_at, toggles_at, did_turn, turns}
use Rattle.pd_core.specs.Good.{Good}
use Rattle.pd_core.proofs.Sums.{total-at, once_below_some, same_here}
use Rattle.std.proofs.lemmas.Nat.Bits.{bit_at-lt}
use Rattle.pd_core.proofs.Bits.{disposed_fits}
use Rattle.pd_board.specs.Journal.{Entries}
use Rattle.pd_shared.specs.Tied.{drawn_of, sight_of, act_of, act_as, toggle_as, toggle_of, toggle_by, AreDeeds}
use Rattle.pd_shared.proofs.ActLemmas.{not_flag}

pub over_own : (f : Deeds → ℕ) (d : Deeds) (ds : List Deeds) → f d ≤ over f d ds
unfolding over
over_own f d ds = omega arith

-- ---- numbers

gave_here : (b x k : ℕ) (d : Drawn) → same b k ≡ 1 → number_of (drawn_of d) ≡ Some x → 0 < same b k * at_number x (number_in_view d)
gave_here b x k (On y) one e = let is : x ≡ y = cc in omega (arith, same_here x y is, ap (λ n. n * same x y) one)
gave_here b x k (Missed y) one e = let is : x ≡ y = cc in omega (arith, same_here x y is, ap (λ n. n * same x y) one)
gave_here b x k Off one e = absurd (cc)

gave_number : (b x : ℕ) (s : Sight) → number_in b (sight_of s) ≡ Some x → 0 < gave b x s
unfolding gave
gave_number b x s e = by_eq s.binding b
    (λ (is : s.binding ≡ b). gave_here b x s.binding s.drawn (same_here b s.binding (sym is)) (sym (ap (λ (t : Bool). if t then number_of (drawn_of s.drawn) else None) (eq-eqb s.binding b is)) ∙ e))
    (λ (ne : s.binding ≢ b). absurd (none_is x (sym (ap (λ (t : Bool). if t then number_of (drawn_of s.drawn) else None) (ne_eqb s.binding b ne)) ∙ e)))
  where
    none_is : (y : ℕ) → None ≡ Some y → ⊥
    none_is y q = cc

numbers_in : (b n : ℕ) (ss : List Sight) → ((x : ℕ) → 0 < total (gave b x) ss → x < n) → NumbersBelow b n (map sight_of ss)
unfolding total
numbers_in b n [] h = All-nil (λ s. ForSome (number_in b s) (λ p. p < n))
numbers_in b n (s ∷ ss) h = All-cons (λ t. ForSome (number_in b t) (λ p. p < n)) (sight_of s) (map sight_of ss)
    (λ x e. let there = gave_number b x s e in h x (omega arith))
    (numbers_in b n ss (λ x lt. h x (omega arith)))

pub drew_is : (b x : ℕ) (d : Deeds) → drew_number b x d ≡ total (gave b x) d.sights
unfolding drew_number
drew_is b x d = refl

pub drew_below : (p : Layout) (ws : List ℕ) (views : List View) (id b x : ℕ) (v : View) (g : Good p ws views) → get_elem? views id ≡ some v → b < bindings p → 0 < drew_number b x v.deeds → x < g.limit b
drew_below p ws views id b x v g at lt there = once_below_some x (g.limit b) (omega (arith, over_own (drew_number b x) v.deeds v.taken, total-at (of_all (drew_number b x)) views id v at, g.counted.drawn b x lt))

-- the numbers of a seat lie below the limit
pub numbers_low : (p : Layout) (ws : List ℕ) (views : List View) (id b n : ℕ) (v : View) (e : Entries) (g : Good p ws views) → get_elem? views id ≡ some v → AreDeeds v.deeds e → b < bindings p → g.limit b ≤ n → NumbersBelow b n e.sights
numbers_low p ws views id b n v e g at d lt low = subst (NumbersBelow b n) (sym d.sights)
    (numbers_in b n v.deeds.sights (λ x there. let under = drew_below p ws views id b x v g at lt (omega (arith, drew_is b x v.deeds)) in omega arith))

-- a word that isn't disposed has the limit as its sum
pub limit_is : (p : Layout) (ws : List ℕ) (views : List View) (b w : ℕ) (g : Good p ws views) → b < bindings p → binding_word p ws b ≡ w → disposed w ≡ 0 → g.limit b ≡ sum_in w
limit_is p ws views b w g lt is open_yet = g.sound.until b lt (ap disposed is ∙ open_yet) ∙ ap sum_in is

-- ---- toggles

pub turned_is : (same_way gone : Bool) (n c : ℕ) → toggle_as gone same_way n ≡ toggles.At c → (gone ≡ false) × (same_way ≡ false) × (n ≡ c)
turned_is same_way true n c e = absurd (cc)
turned_is true false n c e = absurd (cc)
turned_is false false n c e = (refl, refl, cc)

pub off_fits : (w : ℕ) → off w < 2
unfolding off
off_fits w = bit_at-lt w 2

pub turned_word : (t : Toggle) (c : ℕ) → toggle_of t.disables t.found ≡ toggles.At c → (did_turn t ≡ true) × (c ≡ sum_in t.found)
turned_word t c e =
    let parts = turned_is (beq (off t.found == 1) t.disables) (disposed t.found == 1) (sum_in t.found) c e in
    (did_by t.disables t.found (not_flag (disposed t.found) (disposed_fits t.found) parts.0) parts.1, sym parts.2)
  where
    not_same : (s : Bool) → beq s true ≡ false → s ≡ false
    not_same true z = absurd (cc)
    not_same false z = refl

    same_off : (s : Bool) → beq s false ≡ false → s ≡ true
    same_off true z = refl
    same_off false z = absurd (cc)

    off_now : (u : ℕ) → beq (off u == 1) true ≡ false → (off u == 0) ≡ true
    off_now u q = eq-eqb (off u) 0 (not_flag (off u) (off_fits u) (not_same (off u == 1) q))

    did_by : (d : Bool) (w : ℕ) → disposed w ≡ 0 → beq (off w == 1) d ≡ false → turns d w ≡ true
    did_by true w gone e = λ i. eq-eqb (disposed w) 0 gone i && off_now w e i
    did_by false w gone e = λ i. eq-eqb (disposed w) 0 gone i && same_off (off w == 1) e i

turned_at : (b c : ℕ) (t : Toggle) → b ≡ t.binding → did_turn t ≡ true → c ≡ sum_in t.found → 0 < toggle_at b c t
unfolding toggle_at
turned_at b c t is did sum =
    let one : same b t.binding * (one_if (did_turn t) * same c (sum_in t.found)) ≡ 1 * (1 * 1) = (λ i. same_here b t.binding is i * (one_if (did i) * same_here c (sum_in t.found) sum i)) in
    omega arith

act_binding : (b c : ℕ) (t : Toggle) → toggle_count b (act_of t) ≡ Some c → (b ≡ t.binding) × (toggle_of t.disables t.found ≡ toggles.At c)
act_binding b c t = by_kind t.disables t.binding (toggle_of t.disables t.found)
  where
    by_kind : (d : Bool) (k : ℕ) (x : Answer) → toggle_count b (act_as d k x) ≡ Some c → (b ≡ k) × (x ≡ toggles.At c)
    by_kind true k (toggles.At n) e = by_eq k b (λ (is : k ≡ b). (sym is, ap toggles.At (grind arith))) (λ (ne : k ≢ b). absurd (grind arith))
    by_kind false k (toggles.At n) e = by_eq k b (λ (is : k ≡ b). (sym is, ap toggles.At (grind arith))) (λ (ne : k ≢ b). absurd (grind arith))
    by_kind true k toggles.Already e = absurd (cc)
    by_kind false k toggles.Already e = absurd (cc)
    by_kind true k toggles.Gone e = absurd (cc)
    by_kind false k toggles.Gone e = absurd (cc)

head_counts : (b c : ℕ) (t : Toggle) (ts : List Toggle) → toggle_count b (act_of t) ≡ Some c → 0 < total (toggle_at b c) (t ∷ ts)
unfolding total
head_counts b c t ts q =
    let parts = act_binding b c t q in
    let word = turned_word t c parts.1 in
    omega (arith, turned_at b c t parts.0 word.0 word.1)

tail_counts : (b c : ℕ) (t : Toggle) (ts : List Toggle) → 0 < total (toggle_at b c) ts → 0 < total (toggle_at b c) (t ∷ ts)
unfolding total
tail_counts b c t ts q = omega arith

pub toggles_are : (b c : ℕ) (d : Deeds) → toggles_at b c d ≡ total (toggle_at b c) d.toggles
unfolding toggles_at
toggles_are b c d = refl

pub toggles_in : (b n : ℕ) (ts : List Toggle) (rs : List ActResult) → map act_of ts ≡ filter_map toggle_by rs → ((c : ℕ) → 0 < total (toggle_at b c) ts → c ≤ n) → TogglesUpTo b n rs
toggles_in b n ts [] e h = All-nil (λ r. ForSome (toggle_count b r) (λ c. c ≤ n))
toggles_in b n ts (acts.Attached k a ∷ rs) e h = All-cons (λ r. ForSome (toggle_count b r) (λ c. c ≤ n)) (acts.Attached k a) rs (λ c q. absurd (cc)) (toggles_in b n ts rs e h)
toggles_in b n ts (acts.Disposed k a ∷ rs) e h = All-cons (λ r. ForSome (toggle_count b r) (λ c. c ≤ n)) (acts.Disposed k a) rs (λ c q. absurd (cc)) (toggles_in b n ts rs e h)
toggles_in b n [] (acts.Enabled k a ∷ rs) e h = absurd (cc)
toggles_in b n [] (acts.Disabled k a ∷ rs) e h = absurd (cc)
toggles_in b n (t ∷ ts) (acts.Enabled k a ∷ rs) e h =
    let first : act_of t ≡ acts.Enabled k a = cc in
    let rest : map act_of ts ≡ filter_map toggle_by rs = cc in
    All-cons (λ r. ForSome (toggle_count b r) (λ c. c ≤ n)) (acts.Enabled k a) rs
    (λ c q. h c (head_counts b c t ts (ap (toggle_count b) first ∙ q)))
    (toggles_in b n ts rs rest (λ c lt. h c (tail_counts b c t ts lt)))
toggles_in b n (t ∷ ts) (acts.Disabled k a ∷ rs) e h =
    let first : act_of t ≡ acts.Disabled k a = cc in
    let rest : map act_of ts ≡ filter_map toggle_by rs = cc in
    All-cons (λ r. ForSome (toggle_count b r) (λ c. c ≤ n)) (acts.Disabled k a) rs
    (λ c q. h c (head_counts b c t ts (ap (toggle_count b) first ∙ q)))
    (toggles_in b n ts rs rest (λ c lt. h c (tail_counts b c t ts lt)))

-- each toggle of a seat counted at most the limit
pub toggles_low : (p : Layout) (ws : List ℕ) (views : List View) (id b n : ℕ) (v : View) (e : Entries) (g : Good p ws views) → get_elem? views id ≡ some v → AreDeeds v.deeds e → b < bindings p → g.limit b ≤ n → TogglesUpTo b n e.replies
toggles_low p ws views id b n v e g at d lt low = toggles_in b n v.deeds.toggles e.replies d.toggles
    (λ c there. let under = (g.each id v at).done.toggle_is b c lt (omega (arith, over_own (toggles_at b c) v.deeds v.taken, toggles_are b c v.deeds)) in omega arith)
