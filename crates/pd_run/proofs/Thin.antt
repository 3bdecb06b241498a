-- What stays true of the answers of a board when a context's own disposals are left out.
use Rattle.std.proofs.Common.{◌≡◌, ◌⊎◌, ℕ, zero, suc, ◌≤◌, List, [], ◌∷◌, map, Bool, true, false, not, ◌||◌, sym, refl, ap, ◌∙◌, subst, arith, inl, inr, ⊎_elim}
use Rattle.std.specs.Prelude.{count_by}
use Rattle.std.specs.List.{All, AllByRecursion, Contains, filter_map, list_any, list_all}
use Rattle.std.proofs.lemmas.List.Elements.{All-contains_itself, All-contains, recursion_from_All, All-from_recursion}
use Rattle.std.proofs.lemmas.Bool.{and_parts, or_cases, or_left, or_right, eqb-true, false≢true}
use Rattle.pd_plan.specs.declared.plan.Plan.{Plan}
use Rattle.pd_board.specs.declared.answers.ActResult.{ActResult}
use Rattle.pd_board.specs.declared.answers.ActResult.TheVariants as acts
use Rattle.pd_board.specs.declared.answers.Dispose.{Dispose}
use Rattle.pd_board.specs.declared.answers.Dispose.TheVariants as disposes
use Rattle.pd_board.specs.declared.answers.Sight.{Sight}
use Rattle.pd_board.specs.Answers.{is_disposal, has_disposal}
use Rattle.pd_board.specs.Kept.{EachAfter}
use Rattle.pd_core.specs.Counts.{total, one_if}
use Rattle.pd_shared.proofs.AllLemmas.{count_total}
use Rattle.pd_run.specs.Part.{is_spent}
use Rattle.pd_run.specs.Hands.{Deed, act_of, is_end, is_rightful}

-- all answers, and those of acts alone
abbrev pub all : List Deed → List ActResult
all ds = map (λ d. d.reply) ds

abbrev pub kept : List Deed → List ActResult
kept ds = map (λ x. x.1) (filter_map act_of ds)

-- a test that no answer of a dispose passes
abbrev pub IsQuiet : (ActResult → Bool) → Type 0
IsQuiet p = (c : ℕ) (a : Dispose) → p (acts.Disposed c a) ≡ false

module _ (plan : Plan) (seen : List Sight) where
  quiet_end : (p : ActResult → Bool) → IsQuiet p → (r : ActResult) → is_end plan seen r ≡ true → p r ≡ false
  quiet_end p q (acts.Attached c a) e = absurd (false≢true e)
  quiet_end p q (acts.Disposed c a) e = q c a
  quiet_end p q (acts.Enabled c a) e = absurd (false≢true e)
  quiet_end p q (acts.Disabled c a) e = absurd (false≢true e)

  -- counts of answers that aren't those of disposes
  one_quiet : (p : ActResult → Bool) → IsQuiet p → (event : ℕ) (own : Bool) (r : ActResult) (ds : List Deed) → (not own || is_end plan seen r) ≡ true
      → total (λ x. one_if (p x)) (all ds) ≡ total (λ x. one_if (p x)) (kept ds)
      → total (λ x. one_if (p x)) (r ∷ all ds) ≡ total (λ x. one_if (p x)) (kept (record { event = event; own = own; reply = r } ∷ ds))
  unfolding total
  one_quiet p q event true r ds ok e = omega (arith, ap one_if (quiet_end p q r ok), e)
  one_quiet p q event false r ds ok e = omega (arith, e)

  total_quiet : (p : ActResult → Bool) → IsQuiet p → (ds : List Deed) → list_all (is_rightful plan seen) ds ≡ true → total (λ x. one_if (p x)) (all ds) ≡ total (λ x. one_if (p x)) (kept ds)
  unfolding total
  total_quiet p q [] h = refl
  total_quiet p q (d ∷ ds) h = let parts = and_parts (is_rightful plan seen d) (list_all (is_rightful plan seen) ds) h in one_quiet p q d.event d.own d.reply ds parts.0 (total_quiet p q ds parts.1)

  pub count_quiet : (p : ActResult → Bool) → IsQuiet p → (ds : List Deed) → list_all (is_rightful plan seen) ds ≡ true → count_by p (all ds) ≡ count_by p (kept ds)
  count_quiet p q ds h = sym (count_total p (all ds)) ∙ total_quiet p q ds h ∙ count_total p (kept ds)

  -- and whether there is one
  one_any : (p : ActResult → Bool) → IsQuiet p → (event : ℕ) (own : Bool) (r : ActResult) (ds : List Deed) → (not own || is_end plan seen r) ≡ true
      → list_any p (all ds) ≡ list_any p (kept ds) → list_any p (r ∷ all ds) ≡ list_any p (kept (record { event = event; own = own; reply = r } ∷ ds))
  one_any p q event true r ds ok e = ap (λ x. x || list_any p (all ds)) (quiet_end p q r ok) ∙ e
  one_any p q event false r ds ok e = ap (λ x. p r || x) e

  pub any_quiet : (p : ActResult → Bool) → IsQuiet p → (ds : List Deed) → list_all (is_rightful plan seen) ds ≡ true → list_any p (all ds) ≡ list_any p (kept ds)
  any_quiet p q [] h = refl
  any_quiet p q (d ∷ ds) h = let parts = and_parts (is_rightful plan seen d) (list_all (is_rightful plan seen) ds) h in one_any p q d.event d.own d.reply ds parts.0 (any_quiet p q ds parts.1)

  -- a disposal among all answers is one of an act, or of a binding that had its last place
  spent_end : (b : ℕ) (r : ActResult) → is_end plan seen r ≡ true → is_disposal b r ≡ true → list_any (is_spent plan b) seen ≡ true
  spent_end b (acts.Attached c a) e d = absurd (false≢true e)
  spent_end b (acts.Disposed c (disposes.Disposed n)) e d = subst (λ x. list_any (is_spent plan x) seen ≡ true) (eqb-true c b d) e
  spent_end b (acts.Disposed c disposes.Already) e d = absurd (false≢true d)
  spent_end b (acts.Enabled c a) e d = absurd (false≢true e)
  spent_end b (acts.Disabled c a) e d = absurd (false≢true e)

  one_disposal : (b event : ℕ) (own : Bool) (r : ActResult) (ds : List Deed) → (not own || is_end plan seen r) ≡ true
      → (has_disposal b (all ds) ≡ true → (has_disposal b (kept ds) ≡ true) ⊎ (list_any (is_spent plan b) seen ≡ true))
      → has_disposal b (r ∷ all ds) ≡ true → (has_disposal b (kept (record { event = event; own = own; reply = r } ∷ ds)) ≡ true) ⊎ (list_any (is_spent plan b) seen ≡ true)
  one_disposal b event true r ds ok e h = ⊎_elim (λ here. inr (spent_end b r ok here)) e (or_cases (is_disposal b r) (has_disposal b (all ds)) h)
  one_disposal b event false r ds ok e h =
      ⊎_elim
      (λ here. inl (or_left (is_disposal b r) (has_disposal b (kept ds)) here))
      (λ there. ⊎_elim (λ k. inl (or_right (is_disposal b r) (has_disposal b (kept ds)) k)) (λ s. inr s) (e there))
      (or_cases (is_disposal b r) (has_disposal b (all ds)) h)

  pub disposal_from : (b : ℕ) (ds : List Deed) → list_all (is_rightful plan seen) ds ≡ true → has_disposal b (all ds) ≡ true → (has_disposal b (kept ds) ≡ true) ⊎ (list_any (is_spent plan b) seen ≡ true)
  disposal_from b [] h e = absurd (false≢true e)
  disposal_from b (d ∷ ds) h e = let parts = and_parts (is_rightful plan seen d) (list_all (is_rightful plan seen) ds) h in one_disposal b d.event d.own d.reply ds parts.0 (disposal_from b ds parts.1) e

-- ---- with no condition on what was left out

one_kept : (p : ActResult → Bool) (event : ℕ) (own : Bool) (r : ActResult) (ds : List Deed) → (list_any p (kept ds) ≡ true → list_any p (all ds) ≡ true)
    → list_any p (kept (record { event = event; own = own; reply = r } ∷ ds)) ≡ true → list_any p (r ∷ all ds) ≡ true
one_kept p event true r ds e h = or_right (p r) (list_any p (all ds)) (e h)
one_kept p event false r ds e h = more (p r) h
  where
    more : (t : Bool) → (t || list_any p (kept ds)) ≡ true → (t || list_any p (all ds)) ≡ true
    more true h = refl
    more false h = e h

pub any_kept : (p : ActResult → Bool) (ds : List Deed) → list_any p (kept ds) ≡ true → list_any p (all ds) ≡ true
any_kept p [] h = h
any_kept p (d ∷ ds) h = one_kept p d.event d.own d.reply ds (any_kept p ds) h

one_fewer : (p : ActResult → Bool) (event : ℕ) (own : Bool) (r : ActResult) (ds : List Deed) → total (λ x. one_if (p x)) (kept ds) ≤ total (λ x. one_if (p x)) (all ds)
    → total (λ x. one_if (p x)) (kept (record { event = event; own = own; reply = r } ∷ ds)) ≤ total (λ x. one_if (p x)) (r ∷ all ds)
unfolding total
one_fewer p event true r ds e = omega (arith, e)
one_fewer p event false r ds e = omega (arith, e)

total_fewer : (p : ActResult → Bool) (ds : List Deed) → total (λ x. one_if (p x)) (kept ds) ≤ total (λ x. one_if (p x)) (all ds)
unfolding total
total_fewer p [] = omega arith
total_fewer p (d ∷ ds) = one_fewer p d.event d.own d.reply ds (total_fewer p ds)

pub count_fewer : (p : ActResult → Bool) (ds : List Deed) → count_by p (kept ds) ≤ count_by p (all ds)
count_fewer p ds = omega (arith, count_total p (kept ds), count_total p (all ds), total_fewer p ds)

one_each : (P : ActResult → Type 0) (event : ℕ) (own : Bool) (r : ActResult) (ds : List Deed) → P r → AllByRecursion P (kept ds) → AllByRecursion P (kept (record { event = event; own = own; reply = r } ∷ ds))
one_each P event true r ds x h = h
one_each P event false r ds x h = (x, h)

each_of : (P : ActResult → Type 0) (ds : List Deed) → AllByRecursion P (all ds) → AllByRecursion P (kept ds)
each_of P [] h = h
each_of P (d ∷ ds) h = one_each P d.event d.own d.reply ds h.0 (each_of P ds h.1)

pub all_kept : (P : ActResult → Type 0) (ds : List Deed) → All P (all ds) → All P (kept ds)
all_kept P ds h = All-from_recursion P (kept ds) (each_of P ds (recursion_from_All P (all ds) h))

pub contains_kept : (ds : List Deed) (r : ActResult) → Contains (kept ds) r → Contains (all ds) r
contains_kept ds r h = All-contains (Contains (all ds)) (kept ds) r (all_kept (Contains (all ds)) ds (All-contains_itself (all ds))) h

-- ---- each answer and those before it

module _ {X : Type 0} where
  after_none : (P : List X → X → Type 0) → EachAfter P []
  after_none P k d lt = absurd (omega (arith, lt))

  after_head : (P : List X → X → Type 0) (x : X) (xs : List X) → EachAfter P (x ∷ xs) → P [] x
  after_head P x xs h = h 0 x (omega arith)

  after_tail : (P : List X → X → Type 0) (x : X) (xs : List X) → EachAfter P (x ∷ xs) → EachAfter (λ ys y. P (x ∷ ys) y) xs
  after_tail P x xs h k d lt = h (suc k) d (omega arith)

  after_cons : (P : List X → X → Type 0) (x : X) (xs : List X) → P [] x → EachAfter (λ ys y. P (x ∷ ys) y) xs → EachAfter P (x ∷ xs)
  after_cons P x xs h t zero d lt = h
  after_cons P x xs h t (suc k) d lt = t k d (omega arith)

one_after : (Q R : List ActResult → ActResult → Type 0) (event : ℕ) (own : Bool) (r : ActResult) (ds : List Deed)
    → ((es : List Deed) (x : ActResult) → Q (all es) x → R (kept es) x)
    → ((Q R : List ActResult → ActResult → Type 0) → ((es : List Deed) (x : ActResult) → Q (all es) x → R (kept es) x) → EachAfter Q (all ds) → EachAfter R (kept ds))
    → EachAfter Q (r ∷ all ds) → EachAfter R (kept (record { event = event; own = own; reply = r } ∷ ds))
one_after Q R event true r ds weak more h = more (λ ys. Q (r ∷ ys)) R (λ es. weak (record { event = event; own = true; reply = r } ∷ es)) (after_tail Q r (all ds) h)
one_after Q R event false r ds weak more h = after_cons R r (kept ds) (weak [] r (after_head Q r (all ds) h)) (more (λ ys. Q (r ∷ ys)) (λ ys. R (r ∷ ys)) (λ es. weak (record { event = event; own = false; reply = r } ∷ es)) (after_tail Q r (all ds) h))

pub after_kept : (Q R : List ActResult → ActResult → Type 0) (ds : List Deed) → ((es : List Deed) (x : ActResult) → Q (all es) x → R (kept es) x) → EachAfter Q (all ds) → EachAfter R (kept ds)
after_kept Q R [] weak h = after_none R
after_kept Q R (d ∷ ds) weak h = one_after Q R d.event d.own d.reply ds weak (λ whole part. after_kept whole part ds) h
