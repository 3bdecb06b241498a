-- From what closing a board says of all seats, to the lives of bindings and the answers of sessions over all contexts.
use Rattle.std.proofs.Common.{◌≡◌, ◌⊎◌, ℕ, ◌+◌, ◌<◌, ◌≤◌, List, [], ◌∷◌, ◌++◌, map, Bool, true, false, not, ◌||◌, ◌==◌, if◌then◌else◌, sym, refl, ap, ◌∙◌, subst, arith, inl, inr, ⊎_elim, Some, None, Option}
use Rattle.std.specs.Prelude.{nat_lt, flat_map, count_by, slice_index_or}
use Rattle.std.specs.List.{All, AllByRecursion, filter_map, cons_option, list_any, list_all}
use Rattle.std.specs.Option.{ForSome}
use Rattle.std.proofs.lemmas.List.{map-append}
use Rattle.std.proofs.lemmas.List.Elements.{recursion_from_All, filter_map-append, All-weaker, All-map}
use Rattle.std.proofs.lemmas.List.Folds.{list_any-append, list_all-append, flat_map-map}
use Rattle.std.proofs.lemmas.List.Concat.{flat_map-append}
use Rattle.std.proofs.lemmas.Bool.{and_parts, and_from, or_cases, or_left, or_right, false≢true, eqb-true, cases_lt, cases_eq, ne_eqb}
use Rattle.std.proofs.lemmas.Option.{same_Some}
use Rattle.std.proofs.lemmas.Bool.Decides.{nat_tests}
use Rattle.pd_core.specs.Counts.{total, one_if}
use Rattle.pd_shared.proofs.AllLemmas.{count_total}
use Rattle.pd_board.specs.declared.answers.ActResult.{ActResult}
use Rattle.pd_board.specs.declared.answers.ActResult.TheVariants as acts
use Rattle.pd_board.specs.declared.answers.Drawn.{Drawn}
use Rattle.pd_board.specs.declared.answers.Drawn.TheVariants as drawns
use Rattle.pd_board.specs.declared.answers.Known.{Known}
use Rattle.pd_board.specs.declared.answers.Known.TheVariants as knowns
use Rattle.pd_board.specs.declared.answers.Sight.{Sight}
use Rattle.pd_board.specs.declared.answers.Toggle.TheVariants as toggles
use Rattle.pd_board.specs.declared.answers.State.{State}
use Rattle.pd_board.specs.declared.answers.State.TheVariants as states
use Rattle.pd_board.specs.declared.answers.BindingTally.{BindingTally}
use Rattle.pd_board.specs.Answers.{number_of, number_in, is_attach, is_attachment, has_attach, has_attachment, has_disposal, has_dispose, is_dispose, is_disposal, disposal, toggle_count}
use Rattle.pd_board.specs.Kept.{numbers_of, place_of, missed_of, disables_upto, enables_upto, IsMissed, FitsToggles, EachAfter}
use Rattle.pd_board.specs.Tally.{state_by, no_tally}
use Rattle.pd_board.specs.Journal.{Entries}
use Rattle.pd_core.specs.Layout.{Layout, bindings}
use Rattle.pd_shared.specs.declared.token.Token.{Token}
use Rattle.pd_shared.specs.Book.{known_at}
use Rattle.pd_board.specs.Order.{has_gone, says_gone, IsInOrder, is_first, disables_from, enables_from, HasCause}
use Rattle.pd_shared.specs.Closed.{OfEachSeat, FitsTally, IsOutcomeOfAll, all_sights, all_replies}
use Rattle.pd_run.specs.Part.{Part, replies_of, is_spent, HasLife}
use Rattle.pd_plan.specs.declared.plan.Plan.{Plan}
use Rattle.pd_record.specs.Acts.{uses_up}
use Rattle.pd_run.specs.Life.{Whole, seen_in, recorded, IsGone, IsLife}
use Rattle.pd_run.specs.Hands.{Deed, ContextHand, ScriptHand, act_of, is_end, is_rightful, is_ended, IsContext, IsScript, acted}
use Rattle.pd_run.specs.Laws.{tokens_of, whole_of, IsOver, LivesAreTold}
use Rattle.pd_run.proofs.Thin.{all, kept, IsQuiet, count_quiet, any_quiet, disposal_from, any_kept, count_fewer, all_kept, contains_kept, after_kept}
use Rattle.pd_run.proofs.Flat.{append_none, all_flat, left_flat, tokens_each, all_unmap, all_parts, all_both, any_flat}

-- ---- all answers one by one, with those that are recorded

-- an answer that is recorded
abbrev told : ActResult → Deed
told r = record { event = 0; own = false; reply = r }

all_told : (rs : List ActResult) → all (map told rs) ≡ rs
all_told [] = refl
all_told (r ∷ rs) = ap (λ xs. r ∷ xs) (all_told rs)

kept_told : (rs : List ActResult) → kept (map told rs) ≡ rs
kept_told [] = refl
kept_told (r ∷ rs) = ap (λ xs. r ∷ xs) (kept_told rs)

rightful_told : (plan : Plan) (seen : List Sight) (rs : List ActResult) → list_all (is_rightful plan seen) (map told rs) ≡ true
rightful_told plan seen [] = refl
rightful_told plan seen (r ∷ rs) = rightful_told plan seen rs

all-append : (xs ys : List Deed) → all (xs ++ ys) ≡ all xs ++ all ys
all-append xs ys = map-append (λ d. d.reply) xs ys

kept-append : (xs ys : List Deed) → kept (xs ++ ys) ≡ kept xs ++ kept ys
kept-append xs ys = ap (map (λ x. x.1)) (filter_map-append act_of xs ys) ∙ map-append (λ x. x.1) (filter_map act_of xs) (filter_map act_of ys)

-- more that was seen makes no answer less rightful
end_weaker : (plan : Plan) (xs ys : List Sight) → ((p : Sight → Bool) → list_any p xs ≡ true → list_any p ys ≡ true) → (r : ActResult) → is_end plan xs r ≡ true → is_end plan ys r ≡ true
end_weaker plan xs ys f (acts.Attached c a) e = e
end_weaker plan xs ys f (acts.Disposed c a) e = f (is_spent plan c) e
end_weaker plan xs ys f (acts.Enabled c a) e = e
end_weaker plan xs ys f (acts.Disabled c a) e = e

weaker : (t s u : Bool) → (s ≡ true → u ≡ true) → (not t || s) ≡ true → (not t || u) ≡ true
weaker true s u f e = f e
weaker false s u f e = refl

rightful_weaker : (plan : Plan) (xs ys : List Sight) → ((p : Sight → Bool) → list_any p xs ≡ true → list_any p ys ≡ true) → (ds : List Deed) → list_all (is_rightful plan xs) ds ≡ true → list_all (is_rightful plan ys) ds ≡ true
rightful_weaker plan xs ys f [] h = refl
rightful_weaker plan xs ys f (d ∷ ds) h =
    let parts = and_parts (is_rightful plan xs d) (list_all (is_rightful plan xs) ds) h in
    and_from (is_rightful plan ys d) (list_all (is_rightful plan ys) ds)
    (weaker d.own (is_end plan xs d.reply) (is_end plan ys d.reply) (end_weaker plan xs ys f d.reply) parts.0)
    (rightful_weaker plan xs ys f ds parts.1)

module _ (n m k : ℕ) (plan : Plan) (start : ℕ → Known) where
  -- of the contexts
  abbrev pub deeds_in : List ContextHand → List Deed
  deeds_in hs = flat_map (λ h. h.deeds) hs

  abbrev pub sights_of : List ContextHand → List Sight
  sights_of hs = flat_map (λ h. h.part.seen) hs

  all_in : (hs : List ContextHand) → AllByRecursion (IsContext n plan start) hs → all (deeds_in hs) ≡ flat_map (λ h. h.token.journal.replies) hs
  all_in [] g = refl
  all_in (h ∷ hs) g = all-append h.deeds (deeds_in hs) ∙ ap (λ xs. xs ++ all (deeds_in hs)) (sym g.0.replies.all) ∙ ap (λ xs. h.token.journal.replies ++ xs) (all_in hs g.1)

  kept_in : (hs : List ContextHand) → AllByRecursion (IsContext n plan start) hs → kept (deeds_in hs) ≡ flat_map replies_of (map (λ h. h.part) hs)
  kept_in [] g = refl
  kept_in (h ∷ hs) g = kept-append h.deeds (deeds_in hs) ∙ ap (λ xs. xs ++ kept (deeds_in hs)) (ap (map (λ x. x.1)) (sym g.0.replies.acts)) ∙ ap (λ xs. replies_of h.part ++ xs) (kept_in hs g.1)

  seen_is : (hs : List ContextHand) → AllByRecursion (IsContext n plan start) hs → flat_map (λ h. h.token.journal.sights) hs ≡ flat_map (λ c. c.seen) (map (λ h. h.part) hs)
  seen_is [] g = refl
  seen_is (h ∷ hs) g = ap (λ xs. xs ++ flat_map (λ x. x.token.journal.sights) hs) g.0.seen ∙ ap (λ xs. h.part.seen ++ xs) (seen_is hs g.1)

  rightful_in : (hs : List ContextHand) → AllByRecursion (IsContext n plan start) hs → list_all (is_rightful plan (flat_map (λ c. c.seen) (map (λ h. h.part) hs))) (deeds_in hs) ≡ true
  rightful_in [] g = refl
  rightful_in (h ∷ hs) g =
      let rest : List Sight = flat_map (λ c. c.seen) (map (λ x. x.part) hs) in
      list_all-append (is_rightful plan (h.part.seen ++ rest)) h.deeds (deeds_in hs)
      ∙ and_from _ _
      (rightful_weaker plan h.part.seen (h.part.seen ++ rest) (λ p e. list_any-append p h.part.seen rest ∙ or_left (list_any p h.part.seen) (list_any p rest) e) h.deeds g.0.replies.own)
      (rightful_weaker plan rest (h.part.seen ++ rest) (λ p e. list_any-append p h.part.seen rest ∙ or_right (list_any p h.part.seen) (list_any p rest) e) (deeds_in hs) (rightful_in hs g.1))

  scripts_are : (hs : List ScriptHand) → AllByRecursion (IsScript m k) hs → flat_map (λ h. h.token.journal.replies) hs ≡ flat_map (λ rs. rs) (map acted hs)
  scripts_are [] g = refl
  scripts_are (h ∷ hs) g = ap (λ xs. xs ++ flat_map (λ x. x.token.journal.replies) hs) g.0.replies ∙ ap (λ xs. acted h ++ xs) (scripts_are hs g.1)

  scripts_saw : (hs : List ScriptHand) → AllByRecursion (IsScript m k) hs → flat_map (λ h. h.token.journal.sights) hs ≡ []
  scripts_saw [] g = refl
  scripts_saw (h ∷ hs) g = ap (λ xs. xs ++ flat_map (λ x. x.token.journal.sights) hs) g.0.seen ∙ scripts_saw hs g.1

  -- a binding that had its last place in a context was disposed there
  disposes : (b : ℕ) (r : ActResult) → is_dispose b r ≡ true → says_gone b r ≡ true
  disposes b (acts.Attached c a) e = absurd (false≢true e)
  disposes b (acts.Disposed c a) e = e
  disposes b (acts.Enabled c a) e = absurd (false≢true e)
  disposes b (acts.Disabled c a) e = absurd (false≢true e)

  any_weaker : {A : Type 0} (p q : A → Bool) → ((x : A) → p x ≡ true → q x ≡ true) → (xs : List A) → list_any p xs ≡ true → list_any q xs ≡ true
  any_weaker p q f [] h = h
  any_weaker p q f (x ∷ xs) h = ⊎_elim (λ here. or_left (q x) (list_any q xs) (f x here)) (λ there. or_right (q x) (list_any q xs) (any_weaker p q f xs there)) (or_cases (p x) (list_any p xs) h)

  ended_one : (b : ℕ) (ds : List Deed) (s : Sight) → is_ended plan ds s ≡ true → is_spent plan b s ≡ true → has_gone b (all ds) ≡ true
  ended_one b ds s e spent =
      let parts = and_parts (s.binding == b) (uses_up plan b s.drawn) spent in
      let same : s.binding ≡ b = eqb-true s.binding b parts.0 in
      let had : uses_up plan s.binding s.drawn ≡ true = subst (λ x. uses_up plan x s.drawn ≡ true) (sym same) parts.1 in
      let found : has_dispose s.binding (all ds) ≡ true = (sym (ap (λ t. not t || has_dispose s.binding (all ds)) had) ∙ e) in
      any_weaker (is_dispose b) (says_gone b) (disposes b) (all ds) (subst (λ x. has_dispose x (all ds) ≡ true) same found)

  ended_in : (b : ℕ) (ds : List Deed) (seen : List Sight) → list_all (is_ended plan ds) seen ≡ true → list_any (is_spent plan b) seen ≡ true → has_gone b (all ds) ≡ true
  ended_in b ds [] h e = absurd (false≢true e)
  ended_in b ds (s ∷ ss) h e =
      let parts = and_parts (is_ended plan ds s) (list_all (is_ended plan ds) ss) h in
      ⊎_elim (ended_one b ds s parts.0) (ended_in b ds ss parts.1) (or_cases (is_spent plan b s) (list_any (is_spent plan b) ss) e)

  spent_gone : (b : ℕ) (hs : List ContextHand) → AllByRecursion (IsContext n plan start) hs → list_any (is_spent plan b) (flat_map (λ c. c.seen) (map (λ h. h.part) hs)) ≡ true → has_gone b (all (deeds_in hs)) ≡ true
  spent_gone b [] g e = absurd (false≢true e)
  spent_gone b (h ∷ hs) g e =
      let rest : List Sight = flat_map (λ c. c.seen) (map (λ x. x.part) hs) in
      let joined : has_gone b (all (h.deeds ++ deeds_in hs)) ≡ (has_gone b (all h.deeds) || has_gone b (all (deeds_in hs))) = ap (has_gone b) (all-append h.deeds (deeds_in hs)) ∙ list_any-append (says_gone b) (all h.deeds) (all (deeds_in hs)) in
      ⊎_elim
      (λ here. joined ∙ or_left (has_gone b (all h.deeds)) (has_gone b (all (deeds_in hs))) (ended_in b h.deeds h.part.seen g.0.replies.ends here))
      (λ there. joined ∙ or_right (has_gone b (all h.deeds)) (has_gone b (all (deeds_in hs))) (spent_gone b hs g.1 there))
      (or_cases (list_any (is_spent plan b) h.part.seen) (list_any (is_spent plan b) rest) (sym (list_any-append (is_spent plan b) h.part.seen rest) ∙ e))

-- ---- quiet tests

quiet_first : (b : ℕ) → IsQuiet (is_first b)
quiet_first b c a = refl

quiet_attach : (b : ℕ) → IsQuiet (is_attach b)
quiet_attach b c a = refl

quiet_attachment : (b : ℕ) → IsQuiet (is_attachment b)
quiet_attachment b c a = refl

quiet_disables : (b n : ℕ) → IsQuiet (disables_upto b n)
quiet_disables b n c a = refl

quiet_enables : (b n : ℕ) → IsQuiet (enables_upto b n)
quiet_enables b n c a = refl

quiet_disables_from : (b n : ℕ) → IsQuiet (disables_from b n)
quiet_disables_from b n c a = refl

quiet_enables_from : (b n : ℕ) → IsQuiet (enables_from b n)
quiet_enables_from b n c a = refl

-- what a longer list says holds of a shorter one, where it says so of what came before
order_kept : (b : ℕ) (es : List Deed) (r : ActResult) → IsInOrder b (all es) r → IsInOrder b (kept es) r
order_kept b es r h = record {
  attached = λ e. h.attached (any_kept (is_attach b) es e);
  not_attached = λ e. h.not_attached (any_kept (says_gone b) es e);
  disposed = λ e. h.disposed (any_kept (says_gone b) es e);
  enabled = λ e. h.enabled (any_kept (says_gone b) es e);
  disabled = λ e. h.disabled (any_kept (says_gone b) es e);
}

cause_kept : (b : ℕ) (rs qs : List ActResult) → ((p : ActResult → Bool) → IsQuiet p → list_any p rs ≡ list_any p qs) → (es : List Deed) (r : ActResult) → HasCause b rs (all es) r → HasCause b qs (kept es) r
cause_kept b rs qs same es r h = record {
  disabled = λ e. sym (same (disables_from b 0) (quiet_disables_from b 0)) ∙ h.disabled e;
  disabled_since = λ e n c. sym (same (disables_from b n) (quiet_disables_from b n)) ∙ h.disabled_since e n (contains_kept es (acts.Enabled b (toggles.At n)) c);
  enabled_since = λ e n c. sym (same (enables_from b n) (quiet_enables_from b n)) ∙ h.enabled_since e n (contains_kept es (acts.Disabled b (toggles.At n)) c);
}

-- the same, where nothing was left out
cause_same : (b : ℕ) (rs qs : List ActResult) → ((p : ActResult → Bool) → IsQuiet p → list_any p rs ≡ list_any p qs) → (before : List ActResult) (r : ActResult) → HasCause b rs before r → HasCause b qs before r
cause_same b rs qs same before r h = record {
  disabled = λ e. sym (same (disables_from b 0) (quiet_disables_from b 0)) ∙ h.disabled e;
  disabled_since = λ e n c. sym (same (disables_from b n) (quiet_disables_from b n)) ∙ h.disabled_since e n c;
  enabled_since = λ e n c. sym (same (enables_from b n) (quiet_enables_from b n)) ∙ h.enabled_since e n c;
}

-- whether a number is missed is a matter of counts
missed_same : (b n : ℕ) (off : Bool) (rs qs : List ActResult) → ((p : ActResult → Bool) → IsQuiet p → count_by p rs ≡ count_by p qs) → IsMissed b n off rs → IsMissed b n off qs
missed_same b n off rs qs same h = sym (same (disables_upto b n) (quiet_disables b n)) ∙ h ∙ ap (λ x. x + (if off then 1 else 0)) (same (enables_upto b n) (quiet_enables b n))

fits_same : (b : ℕ) (rs qs : List ActResult) → ((p : ActResult → Bool) → IsQuiet p → count_by p rs ≡ count_by p qs) → (s : Sight) → FitsToggles b rs s → FitsToggles b qs s
fits_same b rs qs same s h = record {
  place = λ e p q. missed_same b p false rs qs same (h.place e p q);
  missed = λ e p q. missed_same b p true rs qs same (h.missed e p q);
}

-- a number that was taken is a place or missed, as the toggles up to it say
fits_number : (b n : ℕ) (rs : List ActResult) (s : Sight) (d : Drawn) → s.drawn ≡ d → s.binding ≡ b → number_of d ≡ Some n → FitsToggles b rs s → (off : Bool) × IsMissed b n off rs
fits_number b n rs s (drawns.On p) e same is f = (false, subst (λ x. IsMissed b x false rs) (same_Some _ _ is) (f.place same p (ap place_of e)))
fits_number b n rs s (drawns.Missed p) e same is f = (true, subst (λ x. IsMissed b x true rs) (same_Some _ _ is) (f.missed same p (ap missed_of e)))
fits_number b n rs s drawns.Off e same is f = absurd (cc)

of_binding : (b m : ℕ) (o : Option ℕ) (s : ℕ) (t : Bool) → (s == b) ≡ t → (if t then o else None) ≡ Some m → (s ≡ b) × (o ≡ Some m)
of_binding b m o s true q e = (eqb-true s b q, e)
of_binding b m o s false q e = absurd (cc)

one_counted : (n m : ℕ) (ns : List ℕ) → (m ≡ n → ⊥) → count_by (λ y. y == n) (m ∷ ns) ≡ count_by (λ y. y == n) ns
unfolding total
one_counted n m ns apart = omega (arith, count_total (λ y. y == n) (m ∷ ns), ap one_if (ne_eqb m n apart), count_total (λ y. y == n) ns)

number_here : (b n : ℕ) (rs : List ActResult) (s : Sight) (ns : List ℕ) → FitsToggles b rs s → (0 < count_by (λ y. y == n) ns → (off : Bool) × IsMissed b n off rs) → (o : Option ℕ) → number_in b s ≡ o → 0 < count_by (λ y. y == n) (cons_option o ns) → (off : Bool) × IsMissed b n off rs
number_here b n rs s ns fits rest None e some = rest some
number_here b n rs s ns fits rest (Some m) e some =
    ⊎_elim
    (λ (same : m ≡ n). let here = of_binding b m (number_of s.drawn) s.binding (s.binding == b) refl e in fits_number b n rs s s.drawn refl here.0 (here.1 ∙ ap Some same) fits)
    (λ apart. rest (omega (arith, some, one_counted n m ns apart)))
    (cases_eq m n)

number_among : (b n : ℕ) (rs : List ActResult) (sights : List Sight) → AllByRecursion (FitsToggles b rs) sights → 0 < count_by (λ y. y == n) (numbers_of b sights) → (off : Bool) × IsMissed b n off rs
number_among b n rs [] fits some = absurd (omega (arith, some))
number_among b n rs (s ∷ ss) fits some = number_here b n rs s (numbers_of b ss) fits.0 (number_among b n rs ss fits.1) (number_in b s) refl some

number_fits : (b n : ℕ) (rs : List ActResult) (sights : List Sight) → All (FitsToggles b rs) sights → 0 < count_by (λ y. y == n) (numbers_of b sights) → (off : Bool) × IsMissed b n off rs
number_fits b n rs sights fits some = number_among b n rs sights (recursion_from_All (FitsToggles b rs) sights fits) some

below_one : (x n k : ℕ) → x < n → k ≡ (if nat_lt x n then 1 else 0) → 0 < k
below_one x n k h e = grind (arith, nat_tests)

-- ---- one context

pub life_weaker : (plan : Plan) (b : ℕ) (began attached known gone : Type 0) → (attached → began) → (known → gone) → (c : Part) → HasLife plan b began known c → HasLife plan b attached gone c
life_weaker plan b began attached known gone a f c h = record {
  given = record {
    window = h.given.window;
    lives = λ no. h.given.lives (λ k. no (f k));
    before = λ x. h.given.before (a x);
    before_lives = λ x no. h.given.before_lives (a x) (λ k. no (f k));
  };
  acted = record {
    attached = h.acted.attached;
    attached_lives = λ no. h.acted.attached_lives (λ k. no (f k));
    first = h.acted.first;
    disposed = h.acted.disposed;
    used_up = h.acted.used_up;
    used_up_once = h.acted.used_up_once;
    counted = h.acted.counted;
    uncounted = h.acted.uncounted;
  };
  rising = h.rising;
}

-- ---- the state

state_spent : (s : State) (x z y att : Bool) → s ≡ state_by z att → (x ≡ true → z ≡ true) → (z ≡ true → (x ≡ true) ⊎ (y ≡ true)) → (y ≡ true → s ≡ states.Disposed) → s ≡ state_by (x || y) att
state_spent s true z y att e f g k = e ∙ ap (λ t. state_by t att) (f refl)
state_spent s false z true att e f g k = k refl
state_spent s false true false att e f g k = ⊎_elim (λ q. absurd (false≢true q)) (λ q. absurd (false≢true q)) (g refl)
state_spent s false false false att e f g k = e

-- ---- one binding

module _ (p : Layout) (plan : Plan) (start : ℕ → Known) (first now : Token) (contexts : List ContextHand) (scripts : List ScriptHand) (tallies : List BindingTally) (counts : List ℕ) (o : IsOver p plan start first now contexts scripts tallies counts) where
  cs : AllByRecursion (IsContext (bindings p) plan start) contexts
  cs = recursion_from_All (IsContext (bindings p) plan start) contexts o.contexts_are

  ss : AllByRecursion (IsScript p.sessions p.contexts) scripts
  ss = recursion_from_All (IsScript p.sessions p.contexts) scripts o.scripts_are

  abbrev w : Whole
  w = whole_of first.journal.replies contexts scripts

  -- all answers one by one
  abbrev ds : List Deed
  ds = map told first.journal.replies ++ (deeds_in (bindings p) p.sessions p.contexts plan start contexts ++ map told (flat_map (λ rs. rs) (map acted scripts)))

  tokens_flat : {A : Type 0} (pick : Entries → List A) → flat_map (λ t. pick t.journal) (tokens_of contexts scripts) ≡ flat_map (λ h. pick h.token.journal) contexts ++ flat_map (λ h. pick h.token.journal) scripts
  tokens_flat pick =
      flat_map-append (λ t. pick t.journal) (map (λ h. h.token) contexts) (map (λ h. h.token) scripts)
      ∙ ap (λ xs. xs ++ flat_map (λ t. pick t.journal) (map (λ h. h.token) scripts)) (flat_map-map (λ t. pick t.journal) (λ h. h.token) contexts)
      ∙ ap (λ xs. flat_map (λ h. pick h.token.journal) contexts ++ xs) (flat_map-map (λ t. pick t.journal) (λ h. h.token) scripts)

  sights_are : all_sights now.journal o.left ≡ seen_in w
  sights_are =
      all_flat (λ e. e.sights) now.journal.sights o.left
      ∙ ap (λ xs. xs ++ flat_map (λ s. s.journal.sights) o.left) (o.gathered.sights ∙ o.before.sights)
      ∙ left_flat (λ e. e.sights) (tokens_of contexts scripts) o.left o.gathered.leaves
      ∙ tokens_flat (λ e. e.sights)
      ∙ ap (λ xs. flat_map (λ h. h.token.journal.sights) contexts ++ xs) (scripts_saw (bindings p) p.sessions p.contexts plan start scripts ss)
      ∙ append_none (flat_map (λ h. h.token.journal.sights) contexts)
      ∙ seen_is (bindings p) p.sessions p.contexts plan start contexts cs

  replies_are : all_replies now.journal o.left ≡ all ds
  replies_are =
      all_flat (λ e. e.replies) now.journal.replies o.left
      ∙ ap (λ xs. xs ++ flat_map (λ s. s.journal.replies) o.left) o.gathered.replies
      ∙ ap (λ xs. first.journal.replies ++ xs)
      (left_flat (λ e. e.replies) (tokens_of contexts scripts) o.left o.gathered.leaves
      ∙ tokens_flat (λ e. e.replies)
      ∙ ap (λ xs. xs ++ flat_map (λ h. h.token.journal.replies) scripts) (sym (all_in (bindings p) p.sessions p.contexts plan start contexts cs))
      ∙ ap (λ xs. all (deeds_in (bindings p) p.sessions p.contexts plan start contexts) ++ xs) (scripts_are (bindings p) p.sessions p.contexts plan start scripts ss ∙ sym (all_told (flat_map (λ rs. rs) (map acted scripts))))
      ∙ sym (all-append (deeds_in (bindings p) p.sessions p.contexts plan start contexts) (map told (flat_map (λ rs. rs) (map acted scripts)))))
      ∙ ap (λ xs. xs ++ all (deeds_in (bindings p) p.sessions p.contexts plan start contexts ++ map told (flat_map (λ rs. rs) (map acted scripts)))) (sym (all_told first.journal.replies))
      ∙ sym (all-append (map told first.journal.replies) (deeds_in (bindings p) p.sessions p.contexts plan start contexts ++ map told (flat_map (λ rs. rs) (map acted scripts))))

  recorded_is : kept ds ≡ recorded w
  recorded_is =
      kept-append (map told first.journal.replies) (deeds_in (bindings p) p.sessions p.contexts plan start contexts ++ map told (flat_map (λ rs. rs) (map acted scripts)))
      ∙ ap (λ xs. xs ++ kept (deeds_in (bindings p) p.sessions p.contexts plan start contexts ++ map told (flat_map (λ rs. rs) (map acted scripts)))) (kept_told first.journal.replies)
      ∙ ap (λ xs. first.journal.replies ++ xs)
      (kept-append (deeds_in (bindings p) p.sessions p.contexts plan start contexts) (map told (flat_map (λ rs. rs) (map acted scripts)))
      ∙ ap (λ xs. xs ++ kept (map told (flat_map (λ rs. rs) (map acted scripts)))) (kept_in (bindings p) p.sessions p.contexts plan start contexts cs)
      ∙ ap (λ xs. flat_map replies_of w.contexts ++ xs) (kept_told (flat_map (λ rs. rs) w.scripts)))

  rightful : list_all (is_rightful plan (seen_in w)) ds ≡ true
  rightful =
      list_all-append (is_rightful plan (seen_in w)) (map told first.journal.replies) (deeds_in (bindings p) p.sessions p.contexts plan start contexts ++ map told (flat_map (λ rs. rs) w.scripts))
      ∙ and_from _ _ (rightful_told plan (seen_in w) first.journal.replies)
      (list_all-append (is_rightful plan (seen_in w)) (deeds_in (bindings p) p.sessions p.contexts plan start contexts) (map told (flat_map (λ rs. rs) w.scripts))
      ∙ and_from _ _ (rightful_in (bindings p) p.sessions p.contexts plan start contexts cs) (rightful_told plan (seen_in w) (flat_map (λ rs. rs) w.scripts)))

  -- quiet tests are the same of all answers and of those that are recorded
  same_count : (q : ActResult → Bool) → IsQuiet q → count_by q (all ds) ≡ count_by q (recorded w)
  same_count q h = count_quiet plan (seen_in w) q h ds rightful ∙ ap (count_by q) recorded_is

  same_any : (q : ActResult → Bool) → IsQuiet q → list_any q (all ds) ≡ list_any q (recorded w)
  same_any q h = any_quiet plan (seen_in w) q h ds rightful ∙ ap (list_any q) recorded_is

  recorded_any : (q : ActResult → Bool) → list_any q (recorded w) ≡ true → list_any q (all ds) ≡ true
  recorded_any q e = any_kept q ds (ap (list_any q) recorded_is ∙ e)

  module _ (b : ℕ) (lt : b < bindings p) where
    abbrev t : BindingTally
    t = slice_index_or tallies b no_tally

    outcome : IsOutcomeOfAll b (seen_in w) (all ds) t
    outcome = subst (λ xs. IsOutcomeOfAll b xs (all ds) t) sights_are (subst (λ rs. IsOutcomeOfAll b (all_sights now.journal o.left) rs t) replies_are (o.closed.outcomes o.whole o.left o.gathered.did b lt))

    -- an answer of any seat that says that the binding is disposed
    gone_all : has_gone b (all ds) ≡ true → IsGone t
    gone_all e =
        let flat : has_gone b (now.journal.replies ++ flat_map (λ s. s.journal.replies) o.left) ≡ true = ap (has_gone b) (sym (all_flat (λ x. x.replies) now.journal.replies o.left) ∙ replies_are) ∙ e in
        ⊎_elim
        (o.closed.own.gone b lt)
        (any_flat (says_gone b) (λ s. s.journal.replies) (IsGone t) o.left (All-weaker (λ s. FitsTally p tallies counts s.journal.replies s.sessions.items) (λ s. has_gone b s.journal.replies ≡ true → IsGone t) (λ s h. h.gone b lt) o.left (o.closed.others o.left o.gathered.learned)))
        (or_cases (has_gone b now.journal.replies) (has_gone b (flat_map (λ s. s.journal.replies) o.left)) (sym (list_any-append (says_gone b) now.journal.replies (flat_map (λ s. s.journal.replies) o.left)) ∙ flat))

    -- what is said of the answers of each seat
    of_contexts : (P : List ActResult → Type 0) → OfEachSeat P now.journal o.left → All (λ h. P h.token.journal.replies) contexts
    of_contexts P h = all_unmap (λ x. P x.journal.replies) (λ y. y.token) contexts (all_parts (λ x. P x.journal.replies) (map (λ y. y.token) contexts) (map (λ y. y.token) scripts) (tokens_each (λ x. P x.replies) (tokens_of contexts scripts) o.left o.gathered.leaves h.1)).0

    of_scripts : (P : List ActResult → Type 0) → OfEachSeat P now.journal o.left → All (λ h. P h.token.journal.replies) scripts
    of_scripts P h = all_unmap (λ x. P x.journal.replies) (λ y. y.token) scripts (all_parts (λ x. P x.journal.replies) (map (λ y. y.token) contexts) (map (λ y. y.token) scripts) (tokens_each (λ x. P x.replies) (tokens_of contexts scripts) o.left o.gathered.leaves h.1)).1

    -- the answers of a context's acts, and of a session's, from those of its seat
    acts_after : (Q R : List ActResult → ActResult → Type 0) → ((es : List Deed) (r : ActResult) → Q (all es) r → R (kept es) r) → All (λ h. EachAfter Q h.token.journal.replies) contexts → All (λ c. EachAfter R (replies_of c)) w.contexts
    acts_after Q R weak h =
        All-map (λ c. EachAfter R (replies_of c)) (λ y. y.part) contexts
        (all_both (IsContext (bindings p) plan start) (λ y. EachAfter Q y.token.journal.replies) (λ y. EachAfter R (replies_of y.part))
        (λ y g q. subst (λ xs. EachAfter R (map (λ x. x.1) xs)) (sym g.replies.acts) (after_kept Q R y.deeds weak (subst (EachAfter Q) g.replies.all q)))
        contexts o.contexts_are h)

    scripts_after : (Q R : List ActResult → ActResult → Type 0) → ((before : List ActResult) (r : ActResult) → Q before r → R before r) → All (λ h. EachAfter Q h.token.journal.replies) scripts → All (EachAfter R) w.scripts
    scripts_after Q R weak h =
        All-map (EachAfter R) acted scripts
        (all_both (IsScript p.sessions p.contexts) (λ y. EachAfter Q y.token.journal.replies) (λ y. EachAfter R (acted y))
        (λ y g q k d within. weak _ _ (subst (EachAfter Q) g.replies q k d within))
        scripts o.scripts_are h)

    -- each context's life, by what the tally says
    contexts_known : All (λ h. (c : ℕ) → known_at h.token.known.items c ≡ knowns.Disposed → known_at now.known.items c ≡ knowns.Disposed) contexts
    contexts_known = all_unmap (λ x. (c : ℕ) → known_at x.known.items c ≡ knowns.Disposed → known_at now.known.items c ≡ knowns.Disposed) (λ y. y.token) contexts (all_parts (λ x. (c : ℕ) → known_at x.known.items c ≡ knowns.Disposed → known_at now.known.items c ≡ knowns.Disposed) (map (λ y. y.token) contexts) (map (λ y. y.token) scripts) o.gathered.known).0

    lives_on : All (HasLife plan b (has_attach b w.before ≡ true) (IsGone t)) w.contexts
    lives_on =
        All-map (HasLife plan b (has_attach b w.before ≡ true) (IsGone t)) (λ y. y.part) contexts
        (all_both (IsContext (bindings p) plan start) (λ h. (c : ℕ) → known_at h.token.known.items c ≡ knowns.Disposed → known_at now.known.items c ≡ knowns.Disposed) (λ y. HasLife plan b (has_attach b w.before ≡ true) (IsGone t) y.part)
        (λ y g k. life_weaker plan b (start b ≡ knowns.Attached) (has_attach b w.before ≡ true) (known_at y.token.known.items b ≡ knowns.Disposed) (IsGone t) (o.before.known b) (λ e. o.closed.known_gone b lt (k b e)) y.part (g.lives b lt))
        contexts o.contexts_are contexts_known)

    spent_is_gone : list_any (is_spent plan b) (seen_in w) ≡ true → IsGone t
    spent_is_gone e =
        gone_all
        (ap (has_gone b) (all-append (map told first.journal.replies) (deeds_in (bindings p) p.sessions p.contexts plan start contexts ++ map told (flat_map (λ rs. rs) w.scripts)))
        ∙ list_any-append (says_gone b) (all (map told first.journal.replies)) (all (deeds_in (bindings p) p.sessions p.contexts plan start contexts ++ map told (flat_map (λ rs. rs) w.scripts)))
        ∙ or_right (has_gone b (all (map told first.journal.replies))) (has_gone b (all (deeds_in (bindings p) p.sessions p.contexts plan start contexts ++ map told (flat_map (λ rs. rs) w.scripts))))
        (ap (has_gone b) (all-append (deeds_in (bindings p) p.sessions p.contexts plan start contexts) (map told (flat_map (λ rs. rs) w.scripts)))
        ∙ list_any-append (says_gone b) (all (deeds_in (bindings p) p.sessions p.contexts plan start contexts)) (all (map told (flat_map (λ rs. rs) w.scripts)))
        ∙ or_left (has_gone b (all (deeds_in (bindings p) p.sessions p.contexts plan start contexts))) (has_gone b (all (map told (flat_map (λ rs. rs) w.scripts)))) (spent_gone (bindings p) p.sessions p.contexts plan start b contexts cs e)))

    state_is : t.state ≡ state_by (has_disposal b (recorded w) || list_any (is_spent plan b) (seen_in w)) (has_attachment b (recorded w))
    state_is =
        state_spent t.state (has_disposal b (recorded w)) (has_disposal b (all ds)) (list_any (is_spent plan b) (seen_in w)) (has_attachment b (recorded w))
        (outcome.state_is ∙ ap (state_by (has_disposal b (all ds))) (same_any (is_attachment b) (quiet_attachment b)))
        (recorded_any (is_disposal b))
        (λ e. ⊎_elim (λ x. inl (sym (ap (has_disposal b) recorded_is) ∙ x)) (λ y. inr y) (disposal_from plan (seen_in w) b ds rightful e))
        spent_is_gone

    -- up to any number: one that was taken is a place or missed, and from the count on all toggles count
    toggles_all : (n : ℕ) → (off : Bool) × IsMissed b n off (all ds)
    toggles_all n = ⊎_elim (λ below. number_fits b n (all ds) (seen_in w) outcome.toggled ((below_one n t.count (count_by (λ y. y == n) (numbers_of b (seen_in w))) below (outcome.numbers n)))) (λ above. (outcome.toggles.0, outcome.toggles.1 n above)) (cases_lt n t.count)

    pub life : IsLife plan b w t
    life = record {
      lives = lives_on;
      numbers = outcome.numbers;
      first = sym (same_count (is_first b) (quiet_first b)) ∙ outcome.first ∙ ap (λ x. if x then 1 else 0) (same_any (is_attach b) (quiet_attach b));
      attached = λ some. sym (same_any (is_attachment b) (quiet_attachment b)) ∙ outcome.attached_is some;
      disposals = omega (arith, ap (count_by (is_disposal b)) recorded_is, count_fewer (is_disposal b) ds, outcome.disposals);
      final = subst (All (λ r. ForSome (disposal b r) (λ n. n ≡ t.count))) recorded_is (all_kept (λ r. ForSome (disposal b r) (λ n. n ≡ t.count)) ds outcome.final);
      state = state_is;
      gone = λ e. gone_all (recorded_any (says_gone b) e);
      counted = subst (All (λ r. ForSome (toggle_count b r) (λ c. c ≤ t.count))) recorded_is (all_kept (λ r. ForSome (toggle_count b r) (λ c. c ≤ t.count)) ds outcome.counted);
      toggles = λ n. let one = toggles_all n in (one.0, missed_same b n one.0 (all ds) (recorded w) same_count one.1);
      toggled = All-weaker (FitsToggles b (all ds)) (FitsToggles b (recorded w)) (fits_same b (all ds) (recorded w) same_count) (seen_in w) outcome.toggled;
      causes =
          let own : OfEachSeat (EachAfter (HasCause b (all ds))) now.journal o.left = subst (λ rs. OfEachSeat (EachAfter (HasCause b rs)) now.journal o.left) replies_are (o.closed.causes o.whole o.left o.gathered.did b lt) in
          record {
            contexts = acts_after (HasCause b (all ds)) (HasCause b (recorded w)) (cause_kept b (all ds) (recorded w) same_any) (of_contexts (EachAfter (HasCause b (all ds))) own);
            scripts = scripts_after (HasCause b (all ds)) (HasCause b (recorded w)) (cause_same b (all ds) (recorded w) same_any) (of_scripts (EachAfter (HasCause b (all ds))) own);
          };
      order =
          let own : OfEachSeat (EachAfter (IsInOrder b)) now.journal o.left = o.closed.order o.left o.gathered.did b in
          record {
            contexts = acts_after (IsInOrder b) (IsInOrder b) (order_kept b) (of_contexts (EachAfter (IsInOrder b)) own);
            scripts = scripts_after (IsInOrder b) (IsInOrder b) (λ before r h. h) (of_scripts (EachAfter (IsInOrder b)) own);
          };
    }

pub lives_are_told : LivesAreTold
lives_are_told p plan start first now contexts scripts tallies counts o b lt = life p plan start first now contexts scripts tallies counts o b lt
