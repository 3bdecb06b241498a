-- The acts of a context's suspensions stand by event.
use Rattle.std.proofs.Common.{◌≡◌, ℕ, suc, ◌<◌, List, [], ◌∷◌, ◌++◌, map, filter, length, Bool, true, false, ◌==◌, sym, refl, ap, ◌∙◌, subst, arith, ne_eqb, eq-eqb, append_assoc, Some, ◌+◌}
use Rattle.std.specs.Prelude.{flat_map, if◌then◌else◌, slice_get}
use Rattle.std.specs.List.{list_all}
use Rattle.std.proofs.lemmas.List.Concat.{flat_map-append}
use Rattle.std.proofs.lemmas.List.Elements.{filter-append}
use Rattle.std.proofs.lemmas.List.Folds.{list_all-append}
use Rattle.std.proofs.lemmas.Bool.{and_parts, and_from, eqb-true, false≢true}
use Rattle.std.specs.List.{range_with_len}
use Rattle.pd_machine.specs.Events.{Told}
use Rattle.pd_board.specs.declared.answers.ActResult.{ActResult}
use Rattle.pd_suspend.specs.declared.suspension.Suspension.{Suspension}
use Rattle.pd_suspend.specs.declared.suspension.Reason.{Reason}
use Rattle.pd_suspend.specs.Stops.{Setting, is_verdict, reasons_at, next_stop, stops_at, stops_after, stops_of, sessions_of}
use Rattle.pd_suspend.specs.Answers.{acts_of}
use Rattle.pd_suspend.specs.Laws.{AreNumbered}
use Rattle.pd_run.specs.Record.{StopsAreByEvent}
use Rattle.pd_run.proofs.Flat.{append_none}

-- ---- the suspensions of one event

-- these suspensions, and then others, all at this event
record Grows (n : ℕ) (old new : List Suspension) : Type 0 where
  more : List Suspension
  is : new ≡ old ++ more
  here : list_all (λ x. x.event == n) more ≡ true

grows_none : (n : ℕ) (old : List Suspension) → Grows n old old
grows_none n old = record { more = []; is = sym (append_none old); here = refl }

grows_one : (n : ℕ) (x : Suspension) (old : List Suspension) → x.event ≡ n → Grows n old (old ++ x ∷ [])
grows_one n x old e = record { more = x ∷ []; is = refl; here = and_from (x.event == n) true (eq-eqb x.event n e) refl }

grows_then : (n : ℕ) (x : Suspension) (old new : List Suspension) → x.event ≡ n → Grows n (old ++ x ∷ []) new → Grows n old new
grows_then n x old new e g = record {
  more = x ∷ g.more;
  is = g.is ∙ append_assoc old (x ∷ []) g.more;
  here = and_from (x.event == n) (list_all (λ y. y.event == n) g.more) (eq-eqb x.event n e) g.here;
}

-- after a suspension the sessions behind it are suspended, where it has no verdict
then_grows : (n : ℕ) (x : Suspension) (old later : List Suspension) (verdict : Bool) → x.event ≡ n → Grows n (old ++ x ∷ []) later → Grows n old (if verdict then old ++ x ∷ [] else later)
then_grows n x old later true e h = grows_one n x old e
then_grows n x old later false e h = grows_then n x old later e h

any_grows : (n : ℕ) (rs : List Reason) (of : List Reason → Suspension) (old none : List Suspension) (later : List Reason → List Suspension) → ((qs : List Reason) → (of qs).event ≡ n) → Grows n old none → ((qs : List Reason) → Grows n (old ++ of qs ∷ []) (later qs))
    → Grows n old (elim rs [ [] ↦ none | r ∷ more ↦ if is_verdict (of (r ∷ more)).resume then old ++ of (r ∷ more) ∷ [] else later (r ∷ more) ])
any_grows n [] of old none later e h g = h
any_grows n (r ∷ more) of old none later e h g = then_grows n (of (r ∷ more)) old (later (r ∷ more)) (is_verdict (of (r ∷ more)).resume) (e (r ∷ more)) (g (r ∷ more))

stops_grow : (q : Setting) (past : List Told) (t : Told) (ss : List ℕ) (old : List Suspension) → Grows t.event.number old (stops_at q past t ss old)
stops_grow q past t [] old = grows_none t.event.number old
stops_grow q past t (s ∷ ss) old =
    any_grows t.event.number (reasons_at q past old t s) (next_stop q t s (length old)) old (stops_at q past t ss old) (λ rs. stops_at q past t ss (old ++ next_stop q t s (length old) rs ∷ []))
    (λ rs. refl) (stops_grow q past t ss old) (λ rs. stops_grow q past t ss (old ++ next_stop q t s (length old) rs ∷ []))

-- ---- acts by event

-- events with the numbers from n on
abbrev NumberedFrom : ℕ → List Told → Type 0
NumberedFrom n [] = Unit {0}
NumberedFrom n (t ∷ ts) = (t.event.number ≡ n) × NumberedFrom (suc n) ts

-- the acts of these events, which are numbered from n on, one event after another
abbrev Follow : ℕ → List Told → List (ℕ × ActResult) → Type 0
Follow n [] xs = xs ≡ []
Follow n (t ∷ ts) xs = (c : List (ℕ × ActResult)) × (d : List (ℕ × ActResult)) × (xs ≡ c ++ d) × (list_all (λ a. a.0 == n) c ≡ true) × (t.event.number ≡ n) × Follow (suc n) ts d

acts_here : (n : ℕ) (x : Suspension) (rs : List ActResult) → x.event ≡ n → list_all (λ (a : ℕ × ActResult). a.0 == n) (map (λ r. (x.event, r)) rs) ≡ true
acts_here n x [] e = refl
acts_here n x (r ∷ rs) e = and_from (x.event == n) (list_all (λ (a : ℕ × ActResult). a.0 == n) (map (λ y. (x.event, y)) rs)) (eq-eqb x.event n e) (acts_here n x rs e)

acts_all : (n : ℕ) (xs : List Suspension) → list_all (λ x. x.event == n) xs ≡ true → list_all (λ a. a.0 == n) (acts_of xs) ≡ true
acts_all n [] h = refl
acts_all n (x ∷ xs) h =
    let parts = and_parts (x.event == n) (list_all (λ y. y.event == n) xs) h in
    list_all-append (λ a. a.0 == n) (map (λ r. (x.event, r)) x.acts) (acts_of xs)
    ∙ and_from _ _ (acts_here n x x.acts (eqb-true x.event n parts.0)) (acts_all n xs parts.1)

acts-append : (xs ys : List Suspension) → acts_of (xs ++ ys) ≡ acts_of xs ++ acts_of ys
acts-append xs ys = flat_map-append (λ x. map (λ r. (x.event, r)) x.acts) xs ys

-- the acts of the suspensions after these events follow those before
record Joined (n : ℕ) (ts : List Told) (old new : List Suspension) : Type 0 where
  rest : List (ℕ × ActResult)
  is : acts_of new ≡ acts_of old ++ rest
  follow : Follow n ts rest

join_one : (n : ℕ) (t : Told) (ts : List Told) (old mid new : List Suspension) → t.event.number ≡ n → Grows t.event.number old mid → Joined (suc n) ts mid new → Joined n (t ∷ ts) old new
join_one n t ts old mid new e g j = record {
  rest = acts_of g.more ++ j.rest;
  is = j.is ∙ ap (λ xs. xs ++ j.rest) (ap acts_of g.is ∙ acts-append old g.more) ∙ append_assoc (acts_of old) (acts_of g.more) j.rest;
  follow = (acts_of g.more, j.rest, refl, acts_all n g.more (subst (λ k. list_all (λ x. x.event == k) g.more ≡ true) e g.here), e, j.follow);
}

joined : (q : Setting) (n : ℕ) (past : List Told) (old : List Suspension) (ts : List Told) → NumberedFrom n ts → Joined n ts old (stops_after q past old ts)
joined q n past old [] h = record { rest = []; is = sym (append_none (acts_of old)); follow = refl }
joined q n past old (t ∷ ts) h =
    let mid = stops_at q past t (sessions_of q.plan) old in
    join_one n t ts old mid (stops_after q (past ++ t ∷ []) mid ts) h.0 (stops_grow q past t (sessions_of q.plan) old) (joined q (suc n) (past ++ t ∷ []) mid ts h.1)

-- ---- each stands at its event

abbrev at : ℕ → List (ℕ × ActResult) → List (ℕ × ActResult)
at n xs = filter (λ a. a.0 == n) xs

one_kept : (t : Bool) (a : ℕ × ActResult) (ys xs : List (ℕ × ActResult)) → t ≡ true → ys ≡ xs → (if t then a ∷ ys else ys) ≡ a ∷ xs
one_kept true a ys xs q e = ap (λ zs. a ∷ zs) e
one_kept false a ys xs q e = absurd (false≢true q)

all_kept : (n : ℕ) (xs : List (ℕ × ActResult)) → list_all (λ a. a.0 == n) xs ≡ true → at n xs ≡ xs
all_kept n [] h = refl
all_kept n (a ∷ xs) h = let parts = and_parts (a.0 == n) (list_all (λ b. b.0 == n) xs) h in one_kept (a.0 == n) a (at n xs) xs parts.0 (all_kept n xs parts.1)

one_dropped : (t : Bool) (a : ℕ × ActResult) (ys : List (ℕ × ActResult)) → t ≡ false → ys ≡ [] → (if t then a ∷ ys else ys) ≡ []
one_dropped true a ys q e = absurd (false≢true (sym q))
one_dropped false a ys q e = e

none_kept : (n m : ℕ) (xs : List (ℕ × ActResult)) → n < m → list_all (λ a. a.0 == n) xs ≡ true → at m xs ≡ []
none_kept n m [] lt h = refl
none_kept n m (a ∷ xs) lt h =
    let parts = and_parts (a.0 == n) (list_all (λ b. b.0 == n) xs) h in
    one_dropped (a.0 == m) a (at m xs) (ne_eqb a.0 m (λ e. absurd (omega (arith, eqb-true a.0 n parts.0, e)))) (none_kept n m xs lt parts.1)

-- of acts at later events none is at n
later_none : (n m : ℕ) (ts : List Told) (xs : List (ℕ × ActResult)) → n < m → Follow m ts xs → at n xs ≡ []
later_none n m [] xs lt f = ap (at n) f
later_none n m (t ∷ ts) xs lt f =
    ap (at n) f.2 ∙ filter-append (λ a. a.0 == n) f.0 f.1
    ∙ ap (λ ys. ys ++ at n f.1) (other n m f.0 lt f.3)
    ∙ later_none n (suc m) ts f.1 (omega arith) f.5
  where
    other : (n m : ℕ) (ys : List (ℕ × ActResult)) → n < m → list_all (λ a. a.0 == m) ys ≡ true → at n ys ≡ []
    other n m [] lt h = refl
    other n m (a ∷ ys) lt h =
        let parts = and_parts (a.0 == m) (list_all (λ b. b.0 == m) ys) h in
        one_dropped (a.0 == n) a (at n ys) (ne_eqb a.0 n (λ e. absurd (omega (arith, eqb-true a.0 m parts.0, e)))) (other n m ys lt parts.1)

-- the acts of an earlier event are at none of these
without : (n m : ℕ) (ts : List Told) (c d : List (ℕ × ActResult)) → n < m → NumberedFrom m ts → list_all (λ a. a.0 == n) c ≡ true → flat_map (λ t. at t.event.number (c ++ d)) ts ≡ flat_map (λ t. at t.event.number d) ts
without n m [] c d lt h e = refl
without n m (t ∷ ts) c d lt h e =
    ap (λ ys. ys ++ flat_map (λ u. at u.event.number (c ++ d)) ts)
    (filter-append (λ a. a.0 == t.event.number) c d ∙ ap (λ ys. ys ++ at t.event.number d) (none_kept n t.event.number c (omega (arith, lt, h.0)) e))
    ∙ ap (λ ys. at t.event.number d ++ ys) (without n (suc m) ts c d (omega arith) h.1 e)

follows : (n : ℕ) (ts : List Told) (xs : List (ℕ × ActResult)) → NumberedFrom n ts → Follow n ts xs → xs ≡ flat_map (λ t. at t.event.number xs) ts
follows n [] xs h f = f
follows n (t ∷ ts) xs h f =
    let whole : f.0 ++ f.1 ≡ at n (f.0 ++ f.1) ++ flat_map (λ u. at u.event.number (f.0 ++ f.1)) ts =
    ap (λ ys. f.0 ++ ys) (follows (suc n) ts f.1 h.1 f.5 ∙ sym (without n (suc n) ts f.0 f.1 (omega arith) h.1 f.3))
    ∙ ap (λ ys. ys ++ flat_map (λ u. at u.event.number (f.0 ++ f.1)) ts)
    (sym (filter-append (λ a. a.0 == n) f.0 f.1 ∙ ap (λ ys. ys ++ at n f.1) (all_kept n f.0 f.3) ∙ ap (λ ys. f.0 ++ ys) (later_none n (suc n) ts f.1 (omega arith) f.5) ∙ append_none f.0)) in
    f.2 ∙ whole ∙ subst (λ k. at n (f.0 ++ f.1) ++ flat_map (λ u. at u.event.number (f.0 ++ f.1)) ts ≡ at k (f.0 ++ f.1) ++ flat_map (λ u. at u.event.number (f.0 ++ f.1)) ts) (sym h.0) refl
    ∙ ap (λ zs. flat_map (λ u. at u.event.number zs) (t ∷ ts)) (sym f.2)

first_or : ℕ → List ℕ → ℕ
first_or d [] = d
first_or d (x ∷ xs) = x

rest_of : List ℕ → List ℕ
rest_of [] = []
rest_of (x ∷ xs) = xs

numbered_from : (n : ℕ) (ts : List Told) → map (λ (t : Told). t.event.number) ts ≡ range_with_len n (length ts) → NumberedFrom n ts
unfolding first_or rest_of
numbered_from n [] h = tt
numbered_from n (t ∷ ts) h = (ap (first_or n) h, numbered_from (suc n) ts (subst (λ m. map (λ (u : Told). u.event.number) ts ≡ range_with_len m (length ts)) (next n) (ap rest_of h)))
  where
    next : (m : ℕ) → m + 1 ≡ suc m
    next m = omega arith

pub stops_are_by_event : StopsAreByEvent
stops_are_by_event q events stops numbered e =
    let h = numbered_from 0 events numbered in
    let j = joined q 0 [] [] events h in
    ap acts_of e ∙ subst (λ xs. acts_of (stops_of q events) ≡ flat_map (λ t. at t.event.number xs) events) (sym (ap acts_of e)) (j.is ∙ follows 0 events j.rest h j.follow ∙ ap (λ xs. flat_map (λ t. at t.event.number xs) events) (sym j.is))
