-- What an act leaves, and what its answer says.
use Rattle.std.proofs.Common.{◌≡◌, ◌≢◌, ◌⊎◌, ℕ, zero, suc, ◌-◌, ◌<◌, ◌^◌, List, [], ◌∷◌, ◌++◌, map, length, length-append, length-set, slice_set, Bool, true, false, not, if◌then◌else◌, ◌==◌, ◌&&◌, ◌||◌, eqb, None, Option, sym, refl, ap, ◌∙◌, subst, arith, inl, inr, ⊎_elim, eq-eqb, ne_eqb, get_or, get_or-set_other, append-nil}
use Rattle.std.specs.Prelude.{slice_index_or, take}
use Rattle.std.proofs.lemmas.Grind.{common_steps, get_or-set_at}
use Rattle.std.proofs.lemmas.List.Elements.{filter_map-append}
use Rattle.std.proofs.lemmas.List.Folds.{list_any-append}
use Rattle.std.specs.List.{filter_map, list_any}
use mathlib.Core.Option.{some}
use lib.ListN.{get_elem?}
use Rattle.pd_board.proofs.ChainLemmas.{by_eq}
use Rattle.pd_board.specs.declared.answers.Known.{Known}
use Rattle.pd_board.specs.declared.answers.Known.TheVariants as knowns
use Rattle.pd_board.specs.declared.answers.Attach.{Attach}
use Rattle.pd_board.specs.declared.answers.Attach.TheVariants as attaches
use Rattle.pd_board.specs.declared.answers.Dispose.{Dispose}
use Rattle.pd_board.specs.declared.answers.Dispose.TheVariants as disposes
use Rattle.pd_board.specs.declared.answers.Toggle.{Toggle}
use Rattle.pd_board.specs.declared.answers.Toggle.TheVariants as toggles
use Rattle.pd_board.specs.declared.answers.ActResult.{ActResult}
use Rattle.pd_board.specs.declared.answers.ActResult.TheVariants as acts
use Rattle.pd_board.specs.Answers.{is_dispose, is_disposal, has_attach, has_dispose, has_disposal}
use Rattle.pd_board.specs.Kept.{EachAfter}
use Rattle.pd_core.specs.declared.view.View.{View}
use Rattle.pd_core.specs.declared.view.Deeds.{Deeds}
use Rattle.pd_core.specs.Layout.{Layout, bindings, binding_word}
use Rattle.pd_core.specs.Words.{attached, disposed, sum_in}
use Rattle.pd_core.specs.Counts.{total, first_is, only_if}
use Rattle.pd_core.specs.Views.{Known as Found_as, fresh, found_attached, found_disposed, known, over, of_all, disposals, no_deeds, spent_view}
use Rattle.pd_core.specs.Good.{Good, Ordered}
use Rattle.pd_core.specs.Kinds.{Found, after, set_attached, set_disposed}
use Rattle.pd_core.proofs.Sums.{total-none, over_none, first_is-else, times_else, times_grows}
use Rattle.pd_core.proofs.Bits.{disposed_fits, attached_fits}
use Rattle.pd_core.proofs.Attaches.{both, eqb_is}
use Rattle.pd_core.proofs.Waves.{known_disposed, known_attached, is_disposed, same_known}
use Rattle.pd_core.proofs.Parts.{ordered_same}
use Rattle.pd_core.proofs.Whole.{whole_total}
use Rattle.pd_core.proofs.Facts.{known_disposed_of, known_set_gone, known_set as attached_known}
use Rattle.pd_board.specs.Journal.{Entries}
use Rattle.pd_shared.specs.Book.{Book, known_at}
use Rattle.pd_shared.specs.Tied.{told, act_as, act_of, toggle_as, dispose_of, attach_as, attach_of, known_set, made_by, first_by, late_by, count_by, toggle_by, none_taken, is_alone, IsKnown, AreDeeds, KnowsAlone, AreReads, KnowsGone, sight_of, before_of, IsTied}
use Rattle.pd_board.specs.Order.{says_gone, has_gone, IsInOrder}

-- ---- tests of a flag

pub flag_not : (n : ℕ) → n < 2 → (n == 0) ≡ not (n == 1)
flag_not zero h = refl
flag_not (suc zero) h = refl
flag_not (suc (suc n)) h = absurd (omega arith)

pub not_flag : (n : ℕ) → n < 2 → (n == 1) ≡ false → n ≡ 0
not_flag zero h e = refl
not_flag (suc zero) h e = absurd (cc)
not_flag (suc (suc n)) h e = absurd (omega arith)

pub yes_or_no : (s : Bool) → (s ≡ true) ⊎ (s ≡ false)
yes_or_no true = inl refl
yes_or_no false = inr refl

pub or_first : (s t : Bool) → s ≡ true → (s || t) ≡ true
or_first true t e = refl
or_first false t e = absurd (cc)

pub or_second : (s t : Bool) → t ≡ true → (s || t) ≡ true
or_second true t e = refl
or_second false t e = e

-- ---- what is known

pub told_disposed : (k : Found_as) → told k ≡ knowns.Disposed → k ≡ found_disposed
told_disposed found_disposed e = refl
told_disposed found_attached e = absurd (cc)
told_disposed fresh e = absurd (cc)

pub told_attached : (k : Found_as) → told k ≡ knowns.Attached → k ≡ found_attached
told_attached found_attached e = refl
told_attached found_disposed e = absurd (cc)
told_attached fresh e = absurd (cc)

pub told_fresh : (k : Found_as) → told k ≡ knowns.Fresh → k ≡ fresh
told_fresh fresh e = refl
told_fresh found_attached e = absurd (cc)
told_fresh found_disposed e = absurd (cc)

pub known_change : (p : Layout) (v w : View) (ks : List Known) (b : ℕ) (x : Known) → b < bindings p → IsKnown p v ks → x ≡ told (known w b) → ((c : ℕ) → c ≢ b → known w c ≡ known v c) → IsKnown p w (slice_set ks b x)
known_change p v w ks b x lt k here others =
    let within : b < length ks = omega (arith, k.0) in (
      length-set ks b x ∙ k.0,
      λ c h. by_eq c b
          (λ (e : c ≡ b). get_or-set_at ks b c x knowns.Fresh e within ∙ (here ∙ ap (λ (i : ℕ). told (known w i)) (sym e)))
          (λ (ne : c ≢ b). get_or-set_other ks b c x knowns.Fresh ne ∙ (k.1 c h ∙ ap told (sym (others c ne)))),
    )

pub known_read : (ks : List Known) (b : ℕ) (x : Known) → b < length ks → x ≡ get_or ks b x → x ≡ known_at ks b
known_read ks b x within e = grind (arith, common_steps)

-- what is known as disposed, or as attached, is so
pub gone_there : (p : Layout) (ws : List ℕ) (views : List View) (id b : ℕ) (v : View) (ks : List Known) → Good p ws views → get_elem? views id ≡ some v → b < bindings p → IsKnown p v ks → known_at ks b ≡ knowns.Disposed → disposed (binding_word p ws b) ≡ 1
gone_there p ws views id b v ks g at lt k e = (g.each id v at).knows.disposed_is b lt (known_disposed v b (told_disposed (known v b) (sym (k.1 b lt) ∙ e)))

pub attached_there : (p : Layout) (ws : List ℕ) (views : List View) (id b : ℕ) (v : View) (ks : List Known) → Good p ws views → get_elem? views id ≡ some v → b < bindings p → IsKnown p v ks → known_at ks b ≡ knowns.Attached → attached (binding_word p ws b) ≡ 1
attached_there p ws views id b v ks g at lt k e = (g.each id v at).knows.attached_is b lt (known_attached v b (told_attached (known v b) (sym (k.1 b lt) ∙ e))).1

-- ---- of a board that is alone

pub alone_is : (v : View) → is_alone v ≡ true → (v.seat_share ≡ 2 ^ 32) × (v.taken ≡ [])
alone_is v e = let s = both (eqb v.seat_share (2 ^ 32)) (none_taken v.taken) e in (eqb_is v.seat_share (2 ^ 32) s.0, none v.taken s.1)
  where
    none : (ds : List Deeds) → none_taken ds ≡ true → ds ≡ []
    none [] q = refl
    none (d ∷ ds) q = absurd (cc)

pub over_alone : (f : Deeds → ℕ) (d : Deeds) → over f d [] ≡ f d
unfolding over total
over_alone f d = omega arith

disposals_are : (b : ℕ) (d : Deeds) → disposals b d ≡ total (first_is b) d.counts
unfolding disposals
disposals_are b d = refl

disposal_there : (b : ℕ) (rs : List ActResult) → 0 < total (first_is b) (filter_map count_by rs) → list_any (is_disposal b) rs ≡ true
unfolding total
disposal_there b [] h = absurd (omega arith)
disposal_there b (acts.Disposed c (disposes.Disposed n) ∷ rs) h = by_eq c b
    (λ (e : c ≡ b). or_first (c == b) (list_any (is_disposal b) rs) (eq-eqb c b e))
    (λ (ne : c ≢ b). or_second (c == b) (list_any (is_disposal b) rs) (disposal_there b rs (omega (arith, first_is-else b c n (λ q. ne (sym q))))))
disposal_there b (acts.Disposed c disposes.Already ∷ rs) h = disposal_there b rs h
disposal_there b (acts.Attached c a ∷ rs) h = disposal_there b rs h
disposal_there b (acts.Enabled c a ∷ rs) h = disposal_there b rs h
disposal_there b (acts.Disabled c a ∷ rs) h = disposal_there b rs h

pub alone_disposed : (p : Layout) (ws : List ℕ) (views : List View) (id b : ℕ) (v : View) (e : Entries) → Good p ws views → get_elem? views id ≡ some v → AreDeeds v.deeds e → is_alone v ≡ true → b < bindings p → disposed (binding_word p ws b) ≡ 1 → has_disposal b e.replies ≡ true
alone_disposed p ws views id b v e g at d a lt gone =
    let w = alone_is v a in
    let none : of_all (disposals b) spent_view ≡ 0 = over_none (disposals b) (disposals_are b no_deeds ∙ total-none (first_is b)) in
    let all = whole_total p ws views id v (of_all (disposals b)) g at w.0 none in
    let own : of_all (disposals b) v ≡ total (first_is b) v.deeds.counts = ap (λ (ds : List Deeds). over (disposals b) v.deeds ds) w.1 ∙ (over_alone (disposals b) v.deeds ∙ disposals_are b v.deeds) in
    let some : 0 < total (first_is b) v.deeds.counts = omega (arith, all, own, g.counted.ended b lt, gone) in
    disposal_there b e.replies (subst (λ (xs : List (ℕ × ℕ)). 0 < total (first_is b) xs) d.counts some)

pub disposal_stays : (b : ℕ) (rs : List ActResult) (r : ActResult) → has_disposal b rs ≡ true → has_disposal b (rs ++ r ∷ []) ≡ true
disposal_stays b rs r h = list_any-append (is_disposal b) rs (r ∷ []) ∙ or_first (list_any (is_disposal b) rs) (list_any (is_disposal b) (r ∷ [])) h

pub disposal_now : (b : ℕ) (rs : List ActResult) (r : ActResult) → is_disposal b r ≡ true → has_disposal b (rs ++ r ∷ []) ≡ true
disposal_now b rs r h = list_any-append (is_disposal b) rs (r ∷ []) ∙ or_second (list_any (is_disposal b) rs) (list_any (is_disposal b) (r ∷ [])) (or_first (is_disposal b r) false h)

pub alone_change : (v w : View) (ks : List Known) (rs rs' : List ActResult) (b : ℕ) (x : Known) → b < length ks → KnowsAlone v ks rs → is_alone w ≡ is_alone v → ((c : ℕ) → has_disposal c rs ≡ true → has_disposal c rs' ≡ true) → (is_alone v ≡ true → x ≡ knowns.Disposed → has_disposal b rs' ≡ true) → KnowsAlone w (slice_set ks b x) rs'
alone_change v w ks rs rs' b x within k same grow new a c gone = let was = sym same ∙ a in by_eq c b
    (λ (e : c ≡ b). subst (λ (i : ℕ). has_disposal i rs' ≡ true) (sym e) (new was (sym (get_or-set_at ks b c x knowns.Fresh e within) ∙ gone)))
    (λ (ne : c ≢ b). grow c (k was c (sym (get_or-set_other ks b c x knowns.Fresh ne) ∙ gone)))

-- ---- what answers say is disposed

any_cases : (p : ActResult → Bool) (rs : List ActResult) (r : ActResult) → list_any p (rs ++ r ∷ []) ≡ true → (list_any p rs ≡ true) ⊎ (p r ≡ true)
any_cases p rs r h = cases (list_any p rs) (p r) (sym (list_any-append p rs (r ∷ [])) ∙ h)
  where
    cases : (s t : Bool) → (s || (t || false)) ≡ true → (s ≡ true) ⊎ (t ≡ true)
    cases true t e = inl refl
    cases false true e = inr refl
    cases false false e = absurd (cc)

gone_change : (ks : List Known) (rs : List ActResult) (r : ActResult) (b : ℕ) (x : Known) → b < length ks → KnowsGone ks rs → ((c : ℕ) → c ≢ b → says_gone c r ≡ false) → (known_at ks b ≡ knowns.Disposed → x ≡ knowns.Disposed) → (says_gone b r ≡ true → x ≡ knowns.Disposed) → KnowsGone (slice_set ks b x) (rs ++ r ∷ [])
gone_change ks rs r b x within k apart stays now c h = by_eq c b
    (λ (e : c ≡ b). get_or-set_at ks b c x knowns.Fresh e within ∙ ⊎_elim (λ (was : has_gone c rs ≡ true). stays (subst (λ (i : ℕ). known_at ks i ≡ knowns.Disposed) e (k c was))) (λ (is : says_gone c r ≡ true). now (subst (λ (i : ℕ). says_gone i r ≡ true) e is)) (any_cases (says_gone c) rs r h))
    (λ (ne : c ≢ b). get_or-set_other ks b c x knowns.Fresh ne ∙ ⊎_elim (λ (was : has_gone c rs ≡ true). k c was) (λ (is : says_gone c r ≡ true). absurd (let q : true ≡ false = sym is ∙ apart c ne in cc)) (any_cases (says_gone c) rs r h))

pub gone_same : (ks : List Known) (rs : List ActResult) (b : ℕ) (x : Known) → b < length ks → KnowsGone ks rs → (known_at ks b ≡ knowns.Disposed → x ≡ knowns.Disposed) → KnowsGone (slice_set ks b x) rs
gone_same ks rs b x within k stays c h = by_eq c b
    (λ (e : c ≡ b). get_or-set_at ks b c x knowns.Fresh e within ∙ stays (subst (λ (i : ℕ). known_at ks i ≡ knowns.Disposed) e (k c h)))
    (λ (ne : c ≢ b). get_or-set_other ks b c x knowns.Fresh ne ∙ k c h)

pub any_more : {A : Type 0} (p q : A → Bool) → ((x : A) → p x ≡ true → q x ≡ true) → (xs : List A) → list_any p xs ≡ true → list_any q xs ≡ true
any_more p q h [] e = e
any_more p q h (x ∷ xs) e = ⊎_elim
    (λ (s : p x ≡ true). or_first (q x) (list_any q xs) (h x s))
    (λ (s : p x ≡ false). or_second (q x) (list_any q xs) (any_more p q h xs (sym (ap (λ (t : Bool). t || list_any p xs) s) ∙ e)))
    (yes_or_no (p x))

-- an answer of a dispose says so
pub dispose_says : (b : ℕ) (rs : List ActResult) → has_dispose b rs ≡ true → has_gone b rs ≡ true
dispose_says b rs = any_more (is_dispose b) (says_gone b) each rs
  where
    each : (r : ActResult) → is_dispose b r ≡ true → says_gone b r ≡ true
    each (acts.Disposed c a) e = e
    each (acts.Attached c a) e = absurd (cc)
    each (acts.Enabled c a) e = absurd (cc)
    each (acts.Disabled c a) e = absurd (cc)

-- an answer of an act on another binding doesn't
attach_apart : (b c : ℕ) (a : Attach) → c ≢ b → says_gone c (acts.Attached b a) ≡ false
attach_apart b c attaches.Gone ne = ne_eqb b c (λ e. ne (sym e))
attach_apart b c attaches.Attached ne = refl
attach_apart b c attaches.Already ne = refl

pub toggle_apart : (kind : Bool) (b c : ℕ) (t : Toggle) → c ≢ b → says_gone c (act_as kind b t) ≡ false
toggle_apart true b c toggles.Gone ne = ne_eqb b c (λ e. ne (sym e))
toggle_apart false b c toggles.Gone ne = ne_eqb b c (λ e. ne (sym e))
toggle_apart true b c (toggles.At n) ne = refl
toggle_apart false b c (toggles.At n) ne = refl
toggle_apart true b c toggles.Already ne = refl
toggle_apart false b c toggles.Already ne = refl

-- and where it does, its step found the binding disposed
attach_says : (b : ℕ) (on gone : Bool) → says_gone b (acts.Attached b (attach_as on gone)) ≡ true → gone ≡ true
attach_says b on true e = refl
attach_says b true false e = absurd (cc)
attach_says b false false e = absurd (cc)

pub toggle_says : (kind : Bool) (b : ℕ) (gone same_way : Bool) (n : ℕ) → says_gone b (act_as kind b (toggle_as gone same_way n)) ≡ true → gone ≡ true
toggle_says kind b true s n e = refl
toggle_says true b false true n e = absurd (cc)
toggle_says true b false false n e = absurd (cc)
toggle_says false b false true n e = absurd (cc)
toggle_says false b false false n e = absurd (cc)

set_gone : (w : ℕ) (k : Known) → (disposed w == 1) ≡ true → known_set k w ≡ knowns.Disposed
set_gone w knowns.Disposed e = refl
set_gone w knowns.Fresh e = ap (λ (t : Bool). if t then knowns.Disposed else knowns.Attached) e
set_gone w knowns.Attached e = ap (λ (t : Bool). if t then knowns.Disposed else knowns.Attached) e

-- ---- the order of the answers

order_attach : (b : ℕ) (a : Attach) (rs : List ActResult) → (has_attach b rs ≡ true → a ≡ attaches.Already) → (has_gone b rs ≡ true → a ≡ attaches.Attached → ⊥) → (c : ℕ) → IsInOrder c rs (acts.Attached b a)
order_attach b a rs again gone c = record {
  attached = λ h y e. let is : b ≡ c = cc in let same_answer : y ≡ a = cc in same_answer ∙ again (subst (λ (i : ℕ). has_attach i rs ≡ true) (sym is) h);
  not_attached = λ h e. let is : b ≡ c = cc in let same_answer : a ≡ attaches.Attached = cc in gone (subst (λ (i : ℕ). has_gone i rs ≡ true) (sym is) h) same_answer;
  disposed = λ h y e. absurd (cc);
  enabled = λ h y e. absurd (cc);
  disabled = λ h y e. absurd (cc);
}

order_dispose : (b : ℕ) (a : Dispose) (rs : List ActResult) → (has_gone b rs ≡ true → a ≡ disposes.Already) → (c : ℕ) → IsInOrder c rs (acts.Disposed b a)
order_dispose b a rs again c = record {
  attached = λ h y e. absurd (cc);
  not_attached = λ h e. absurd (cc);
  disposed = λ h y e. let is : b ≡ c = cc in let same_answer : y ≡ a = cc in same_answer ∙ again (subst (λ (i : ℕ). has_gone i rs ≡ true) (sym is) h);
  enabled = λ h y e. absurd (cc);
  disabled = λ h y e. absurd (cc);
}

pub order_toggle : (kind : Bool) (b : ℕ) (t : Toggle) (rs : List ActResult) → (has_gone b rs ≡ true → t ≡ toggles.Gone) → (c : ℕ) → IsInOrder c rs (act_as kind b t)
order_toggle true b t rs gone c = record {
  attached = λ h y e. absurd (cc);
  not_attached = λ h e. absurd (cc);
  disposed = λ h y e. absurd (cc);
  enabled = λ h y e. absurd (cc);
  disabled = λ h y e. let is : b ≡ c = cc in let same_answer : y ≡ t = cc in same_answer ∙ gone (subst (λ (i : ℕ). has_gone i rs ≡ true) (sym is) h);
}
order_toggle false b t rs gone c = record {
  attached = λ h y e. absurd (cc);
  not_attached = λ h e. absurd (cc);
  disposed = λ h y e. absurd (cc);
  disabled = λ h y e. absurd (cc);
  enabled = λ h y e. let is : b ≡ c = cc in let same_answer : y ≡ t = cc in same_answer ∙ gone (subst (λ (i : ℕ). has_gone i rs ≡ true) (sym is) h);
}

module _ {A : Type 0} (P : List A → A → Type 0) (xs : List A) (x : A) where
  at_end : (k : ℕ) (d : A) → k ≡ length xs → (take k (xs ++ x ∷ []) ≡ xs) × (slice_index_or (xs ++ x ∷ []) k d ≡ x)
  at_end k d e = (grind (arith, common_steps), grind (arith, common_steps))

  in_front : (k : ℕ) (d : A) → k < length xs → (take k (xs ++ x ∷ []) ≡ take k xs) × (slice_index_or (xs ++ x ∷ []) k d ≡ slice_index_or xs k d)
  in_front k d low = (grind (arith, common_steps), grind (arith, common_steps))

  after_more : EachAfter P xs → P xs x → EachAfter P (xs ++ x ∷ [])
  after_more all h k d below = by_eq k (length xs)
      (λ (e : k ≡ length xs). let at = at_end k d e in subst (λ (y : List A × A). P y.0 y.1) (λ i. (sym at.0 i, sym at.1 i)) h)
      (λ (ne : k ≢ length xs). let low : k < length xs = omega (arith, length-append xs (x ∷ [])) in let at = in_front k d low in subst (λ (y : List A × A). P y.0 y.1) (λ i. (sym at.0 i, sym at.1 i)) (all k d low))

-- ---- one more answer

abbrev pub with_reply : Entries → ActResult → Entries
with_reply e r = record e { replies = e.replies ++ r ∷ []; spare = e.spare - 1 }

pub deeds_act : (d n : Deeds) (e m : Entries) (r : ActResult) → AreDeeds d e → m ≡ with_reply e r → n.sights ≡ d.sights → n.made ≡ d.made ++ filter_map made_by (r ∷ []) → n.firsts ≡ d.firsts ++ filter_map first_by (r ∷ []) → n.late ≡ d.late ++ filter_map late_by (r ∷ [])
    → n.counts ≡ d.counts ++ filter_map count_by (r ∷ []) → map act_of n.toggles ≡ map act_of d.toggles ++ filter_map toggle_by (r ∷ []) → ((c : ℕ) → IsInOrder c e.replies r) → (steps : ℕ) × Ordered n steps → AreDeeds n m
deeds_act d n e m r k is sights made firsts late counts turned next timed = subst (λ (y : Entries). AreDeeds n y) (sym is) (record {
  sights = k.sights ∙ ap (map sight_of) (sym sights);
  befores = k.befores ∙ ap (map before_of) (sym sights);
  made = made ∙ more made_by d.made k.made;
  firsts = firsts ∙ more first_by d.firsts k.firsts;
  late = late ∙ more late_by d.late k.late;
  counts = counts ∙ more count_by d.counts k.counts;
  toggles = turned ∙ more toggle_by (map act_of d.toggles) k.toggles;
  order = λ c. after_more (IsInOrder c) e.replies r (k.order c) (next c);
  timed = timed;
})
  where
    more : {A : Type 0} (f : ActResult → Option A) (xs : List A) → xs ≡ filter_map f e.replies → xs ++ filter_map f (r ∷ []) ≡ filter_map f (e.replies ++ r ∷ [])
    more f xs q = ap (λ ys. ys ++ filter_map f (r ∷ [])) q ∙ sym (filter_map-append f e.replies (r ∷ []))

pub tied_act : (p : Layout) (v w : View) (k : Book) (m : Entries) (b : ℕ) (x : Known) (r : ActResult) → b < bindings p → IsTied p v k → m ≡ with_reply k.entries r → w.attaching ≡ None → w.talk ≡ v.talk → w.loads ≡ v.loads → w.cleared ≡ v.cleared → is_alone w ≡ is_alone v
    → AreDeeds w.deeds m → x ≡ told (known w b) → ((c : ℕ) → c ≢ b → known w c ≡ known v c) → (is_alone v ≡ true → x ≡ knowns.Disposed → has_disposal b (k.entries.replies ++ r ∷ []) ≡ true) → ((c : ℕ) → c ≢ b → says_gone c r ≡ false) → (known_at k.known b ≡ knowns.Disposed → x ≡ knowns.Disposed) → (says_gone b r ≡ true → x ≡ knowns.Disposed) → IsTied p w (record k { known = slice_set k.known b x; entries = m })
tied_act p v w k m b x r lt t is idle talk loads cleared same deeds here others new apart stays now = record {
  idle = idle;
  known_is = known_change p v w k.known b x lt t.known_is here others;
  deeds = deeds;
  reads = subst (λ y. AreReads p y k.ended k.sessions k.ends) (sym talk) t.reads;
  all_loads = ap length loads ∙ t.all_loads;
  cleared = ap length cleared ∙ t.cleared;
  alone = subst (λ (y : Entries). KnowsAlone w (slice_set k.known b x) y.replies) (sym is)
      (alone_change v w k.known k.entries.replies (k.entries.replies ++ r ∷ []) b x (omega (arith, t.known_is.0)) t.alone same (λ c h. disposal_stays c k.entries.replies r h) new);
  gone = subst (λ (y : Entries). KnowsGone (slice_set k.known b x) y.replies) (sym is) (gone_change k.known k.entries.replies r b x (omega (arith, t.known_is.0)) t.gone apart stays now);
  loads = t.loads;
}

-- ---- a disposal

count_case : (t : Bool) (b n : ℕ) → only_if (not t) (b, n) ≡ filter_map count_by (acts.Disposed b (if t then disposes.Already else disposes.Disposed n) ∷ [])
count_case true b n = refl
count_case false b n = refl

no_answer : (t : Bool) (n b : ℕ) → t ≡ false → is_disposal b (acts.Disposed b (if t then disposes.Already else disposes.Disposed n)) ≡ true
no_answer true n b e = absurd (cc)
no_answer false n b e = eq-eqb b b refl

pub tied_disposed : (p : Layout) (b w : ℕ) (v : View) (k : Book) (m : Entries) → b < bindings p → IsTied p v k → Found p (set_disposed b) v w → m ≡ with_reply k.entries (acts.Disposed b (dispose_of w))
    → IsTied p (after p (set_disposed b) w v) (record k { known = slice_set k.known b knowns.Disposed; entries = m })
tied_disposed p b w v k m lt t f is =
    let next : View = after p (set_disposed b) w v in
    let r : ActResult = acts.Disposed b (dispose_of w) in
    tied_act p v next k m b knowns.Disposed r lt t is t.idle refl refl refl refl
    (deeds_act v.deeds next.deeds k.entries m r t.deeds is refl (sym (append-nil v.deeds.made)) (sym (append-nil v.deeds.firsts)) (sym (append-nil v.deeds.late))
    (ap (λ (s : Bool). v.deeds.counts ++ only_if s (b, sum_in w)) (flag_not (disposed w) (disposed_fits w)) ∙ ap (λ (xs : List (ℕ × ℕ)). v.deeds.counts ++ xs) (count_case (disposed w == 1) b (sum_in w)))
    (sym (append-nil (map act_of v.deeds.toggles)))
    (order_dispose b (dispose_of w) k.entries.replies (λ h. ap (λ (s : Bool). if s then disposes.Already else disposes.Disposed (sum_in w)) (eq-eqb (disposed w) 1 (sym (ap disposed f.3) ∙ gone_there p f.0.words f.0.views f.2.0 b v k.known f.1 f.2.1 lt t.known_is (t.gone b h)))))
    (t.deeds.timed.0, ordered_same v.deeds next.deeds t.deeds.timed.0 refl refl t.deeds.timed.1))
    (ap told (sym (known_disposed_of p b w v)))
    (λ c ne. same_known v next c (times_else c b v.found_disposed true ne) refl)
    (λ a _. ⊎_elim
    (λ (gone : (disposed w == 1) ≡ true). disposal_stays b k.entries.replies r (alone_disposed p f.0.words f.0.views f.2.0 b v k.entries f.1 f.2.1 t.deeds a lt (ap disposed f.3 ∙ eqb_is (disposed w) 1 gone)))
    (λ (first : (disposed w == 1) ≡ false). disposal_now b k.entries.replies r (no_answer (disposed w == 1) (sum_in w) b first))
    (yes_or_no (disposed w == 1)))
    (λ c ne. ne_eqb b c (λ e. ne (sym e))) (λ _. refl) (λ _. refl)

pub dispose_first : (p : Layout) (b w : ℕ) (v : View) (ks : List Known) → b < bindings p → IsKnown p v ks → Found p (set_disposed b) v w → (dispose_of w ≡ disposes.Already → ⊥) → known_at ks b ≡ knowns.Disposed → ⊥
dispose_first p b w v ks lt k f not_already gone = not_already (ap (λ (s : Bool). if s then disposes.Already else disposes.Disposed (sum_in w)) (eq-eqb (disposed w) 1 (sym (ap disposed f.3) ∙ gone_there p f.0.words f.0.views f.2.0 b v ks f.1 f.2.1 lt k gone)))

-- ---- an attach

made_case : (on gone : Bool) (b : ℕ) → only_if (not on) b ≡ filter_map first_by (acts.Attached b (attach_as on gone) ∷ [])
made_case true true b = refl
made_case true false b = refl
made_case false true b = refl
made_case false false b = refl

late_case : (on gone : Bool) (b : ℕ) → only_if (not on && gone) b ≡ filter_map late_by (acts.Attached b (attach_as on gone) ∷ [])
late_case true true b = refl
late_case true false b = refl
late_case false true b = refl
late_case false false b = refl

-- what is known after it
set_here : (p : Layout) (b w : ℕ) (v : View) → known_set (told (known v b)) w ≡ told (known (after p (set_attached b) w v) b)
set_here p b w v = by_known (known v b) refl
  where
    gone_now : disposed w ≡ 1 → (k : Known) → known_set k w ≡ knowns.Disposed
    gone_now e knowns.Disposed = refl
    gone_now e knowns.Fresh = ap (λ (t : Bool). if t then knowns.Disposed else knowns.Attached) (eq-eqb (disposed w) 1 e)
    gone_now e knowns.Attached = ap (λ (t : Bool). if t then knowns.Disposed else knowns.Attached) (eq-eqb (disposed w) 1 e)

    open_yet : (disposed w == 1) ≡ false → (k : Known) → (k ≡ knowns.Disposed → ⊥) → known_set k w ≡ knowns.Attached
    open_yet e knowns.Disposed never = absurd (never refl)
    open_yet e knowns.Fresh never = ap (λ (t : Bool). if t then knowns.Disposed else knowns.Attached) e
    open_yet e knowns.Attached never = ap (λ (t : Bool). if t then knowns.Disposed else knowns.Attached) e

    not_known : (known v b ≡ found_disposed → ⊥) → known_set (told (known v b)) w ≡ told (known (after p (set_attached b) w v) b)
    not_known never = ⊎_elim
        (λ (e : (disposed w == 1) ≡ true). gone_now (eqb_is (disposed w) 1 e) (told (known v b)) ∙ ap told (sym (known_set_gone p b w v (eqb_is (disposed w) 1 e))))
        (λ (e : (disposed w == 1) ≡ false). open_yet e (told (known v b)) (λ q. never (told_disposed (known v b) q)) ∙ ap told (sym (attached_known p b w v (not_flag (disposed w) (disposed_fits w) e) never)))
        (yes_or_no (disposed w == 1))

    was_gone : known v b ≡ found_disposed → known_set (told (known v b)) w ≡ told (known (after p (set_attached b) w v) b)
    was_gone e = ap (λ k. known_set (told k) w) e ∙ ap told (sym (is_disposed (after p (set_attached b) w v) b (omega (arith, known_disposed v b e, times_grows b b v.found_disposed (disposed w == 1)))))

    by_known : (k : Found_as) → known v b ≡ k → known_set (told (known v b)) w ≡ told (known (after p (set_attached b) w v) b)
    by_known found_disposed e = was_gone e
    by_known found_attached e = not_known (λ q. absurd (let never : found_attached ≡ found_disposed = sym e ∙ q in cc))
    by_known fresh e = not_known (λ q. absurd (let never : fresh ≡ found_disposed = sym e ∙ q in cc))

pub tied_attached : (p : Layout) (b w : ℕ) (v m : View) (k : Book) (es : Entries) (x : Known) → b < bindings p → IsTied p v k → m ≡ record v { attaching = m.attaching; steps = m.steps; last = m.last } → Found p (set_attached b) m w → x ≡ known_set (known_at k.known b) w → es ≡ with_reply k.entries (acts.Attached b (attach_of w)) → (has_attach b k.entries.replies ≡ true → attach_of w ≡ attaches.Already)
    → IsTied p (after p (set_attached b) w m) (record k { known = slice_set k.known b x; entries = es })
tied_attached p b w v m k es x lt t rest f later is again =
    let next : View = after p (set_attached b) w m in
    let r : ActResult = acts.Attached b (attach_of w) in
    let deeds : m.deeds ≡ v.deeds = ap (λ (y : View). y.deeds) rest in
    let known_same : (c : ℕ) → known m c ≡ known v c = λ c. ap (λ (y : View). known y c) rest in
    let was : AreDeeds m.deeds k.entries = subst (λ (d : Deeds). AreDeeds d k.entries) (sym deeds) t.deeds in
    tied_act p v next k es b x r lt t is refl (ap (λ (y : View). y.talk) rest) (ap (λ (y : View). y.loads) rest) (ap (λ (y : View). y.cleared) rest) (ap (λ (y : View). is_alone y) rest)
    (deeds_act m.deeds next.deeds k.entries es r was is refl refl
    (ap (λ (s : Bool). m.deeds.firsts ++ only_if s b) (flag_not (attached w) (attached_fits w)) ∙ ap (λ (xs : List ℕ). m.deeds.firsts ++ xs) (made_case (attached w == 1) (disposed w == 1) b))
    (ap (λ (s : Bool). m.deeds.late ++ only_if (s && (disposed w == 1)) b) (flag_not (attached w) (attached_fits w)) ∙ ap (λ (xs : List ℕ). m.deeds.late ++ xs) (late_case (attached w == 1) (disposed w == 1) b))
    (sym (append-nil m.deeds.counts)) (sym (append-nil (map act_of m.deeds.toggles)))
    (order_attach b (attach_of w) k.entries.replies again (λ h e. not_first (attached w == 1) (disposed w == 1) e (eq-eqb (disposed w) 1 (sym (ap disposed f.3) ∙ gone_there p f.0.words f.0.views f.2.0 b m k.known f.1 f.2.1 lt (t.known_is.0, λ c l. t.known_is.1 c l ∙ ap told (sym (known_same c))) (t.gone b h)))))
    (was.timed.0, ordered_same m.deeds next.deeds was.timed.0 refl refl was.timed.1))
    (later ∙ (ap (λ y. known_set y w) (t.known_is.1 b lt ∙ ap told (sym (known_same b))) ∙ set_here p b w m))
    (λ c ne. same_known m next c (times_else c b m.found_disposed (disposed w == 1) ne) (times_else c b m.found_attached true ne) ∙ known_same c)
    (λ a gone. disposal_stays b k.entries.replies r
    (alone_disposed p f.0.words f.0.views f.2.0 b m k.entries f.1 f.2.1 was (ap (λ (y : View). is_alone y) rest ∙ a) lt
    (ap disposed f.3 ∙ gone_by (known_at k.known b) (sym later ∙ gone) (λ q. sym (ap disposed f.3) ∙ gone_there p f.0.words f.0.views f.2.0 b m k.known f.1 f.2.1 lt (t.known_is.0, λ c h. t.known_is.1 c h ∙ ap told (sym (known_same c))) q))))
    (λ c ne. attach_apart b c (attach_of w) ne) (λ gone. later ∙ ap (λ y. known_set y w) gone) (λ q. later ∙ set_gone w (known_at k.known b) (attach_says b (attached w == 1) (disposed w == 1) q))
  where
    not_first : (on gone : Bool) → attach_as on gone ≡ attaches.Attached → gone ≡ true → ⊥
    not_first true gone e q = absurd (cc)
    not_first false true e q = absurd (cc)
    not_first false false e q = absurd (cc)

    by_test : (s : Bool) → (if s then knowns.Disposed else knowns.Attached) ≡ knowns.Disposed → s ≡ true
    by_test true e = refl
    by_test false e = absurd (cc)

    gone_by : (y : Known) → known_set y w ≡ knowns.Disposed → (y ≡ knowns.Disposed → disposed w ≡ 1) → disposed w ≡ 1
    gone_by knowns.Disposed e h = h refl
    gone_by knowns.Fresh e h = eqb_is (disposed w) 1 (by_test (disposed w == 1) e)
    gone_by knowns.Attached e h = eqb_is (disposed w) 1 (by_test (disposed w == 1) e)
