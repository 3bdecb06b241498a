-- The suspensions of a context, one event and one session after another.
use Rattle.std.proofs.Common.{◌≡◌, ℕ, true, false, List, [], ◌∷◌, ◌++◌, length, refl, sym, ap, ◌∙◌, Option, Some, None, ◌==◌}
use Rattle.std.specs.Prelude.{slice_index_or, if◌then◌else◌}
use Rattle.std.proofs.lemmas.Bool.{cond-true, cond-false}
use Rattle.pd_suspend.specs.Steps.{Armed}
use Rattle.std.proofs.lemmas.List.{append-nil}
use Rattle.std.proofs.Math.Seq.{append_snoc}
use Rattle.pd_machine.specs.Events.{Told}
use Rattle.pd_suspend.specs.declared.suspension.Reason.{Reason}
use Rattle.pd_suspend.specs.declared.suspension.Suspension.{Suspension}
use Rattle.pd_suspend.specs.Stops.{Setting, Answered, went_on, answered_at, reasons_at, is_verdict, next_stop, stops_at, stops_after, stops_of, sessions_of, last_of, step_left, step_in}

-- ---- one more event

stops_after-push : (q : Setting) (past : List Told) (stops : List Suspension) (ts : List Told) (t : Told)
    → stops_after q past stops (ts ++ t ∷ []) ≡ stops_at q (past ++ ts) t (sessions_of q.plan) (stops_after q past stops ts)
stops_after-push q past stops [] t = ap (λ x. stops_at q x t (sessions_of q.plan) stops) (sym (append-nil past))
stops_after-push q past stops (x ∷ xs) t =
    let now : List Suspension = stops_at q past x (sessions_of q.plan) stops in
    stops_after-push q (past ++ x ∷ []) now xs t
    ∙ ap (λ y. stops_at q y t (sessions_of q.plan) (stops_after q (past ++ x ∷ []) now xs)) (append_snoc past x xs)

-- the suspensions at one more event are those of its sessions after the suspensions so far
pub stops_of-push : (q : Setting) (ts : List Told) (t : Told) → stops_of q (ts ++ t ∷ []) ≡ stops_at q ts t (sessions_of q.plan) (stops_of q ts)
stops_of-push q ts t = stops_after-push q [] [] ts t

-- ---- one more session

-- what a session with these reasons makes of the suspensions so far
at_session : Setting → List Told → Told → ℕ → List ℕ → List Suspension → List Reason → List Suspension
at_session q past t s ss stops [] = stops_at q past t ss stops
at_session q past t s ss stops (r ∷ rs) =
    if is_verdict (next_stop q t s (length stops) (r ∷ rs)).resume
    then stops ++ next_stop q t s (length stops) (r ∷ rs) ∷ []
    else stops_at q past t ss (stops ++ next_stop q t s (length stops) (r ∷ rs) ∷ [])

at-session : (q : Setting) (past : List Told) (t : Told) (s : ℕ) (ss : List ℕ) (stops : List Suspension) (rs : List Reason)
    → reasons_at q past stops t s ≡ rs → stops_at q past t (s ∷ ss) stops ≡ at_session q past t s ss stops rs
unfolding at_session
at-session q past t s ss stops [] h =
    ap (λ x. elim x as (λ _. List Suspension) [
      | [] ↦ stops_at q past t ss stops
      | r ∷ rs ↦ if is_verdict (next_stop q t s (length stops) (r ∷ rs)).resume then stops ++ next_stop q t s (length stops) (r ∷ rs) ∷ [] else stops_at q past t ss (stops ++ next_stop q t s (length stops) (r ∷ rs) ∷ [])
    ]) h
at-session q past t s ss stops (r ∷ rs) h =
    ap (λ x. elim x as (λ _. List Suspension) [
      | [] ↦ stops_at q past t ss stops
      | r ∷ rs ↦ if is_verdict (next_stop q t s (length stops) (r ∷ rs)).resume then stops ++ next_stop q t s (length stops) (r ∷ rs) ∷ [] else stops_at q past t ss (stops ++ next_stop q t s (length stops) (r ∷ rs) ∷ [])
    ]) h

-- a session without a reason isn't suspended
pub session-runs : (q : Setting) (past : List Told) (t : Told) (s : ℕ) (ss : List ℕ) (stops : List Suspension)
    → reasons_at q past stops t s ≡ [] → stops_at q past t (s ∷ ss) stops ≡ stops_at q past t ss stops
unfolding at_session
session-runs q past t s ss stops h = at-session q past t s ss stops [] h

-- a session with a reason is suspended; after an answer without a verdict the next session follows
pub session-stops : (q : Setting) (past : List Told) (t : Told) (s : ℕ) (ss : List ℕ) (stops : List Suspension) (r : Reason) (rs : List Reason)
    → reasons_at q past stops t s ≡ r ∷ rs → is_verdict (answered_at q (length stops)).resume ≡ false
    → stops_at q past t (s ∷ ss) stops ≡ stops_at q past t ss (stops ++ next_stop q t s (length stops) (r ∷ rs) ∷ [])
unfolding at_session
session-stops q past t s ss stops r rs h go =
    at-session q past t s ss stops (r ∷ rs) h
    ∙ cond-false (is_verdict (answered_at q (length stops)).resume) (stops ++ next_stop q t s (length stops) (r ∷ rs) ∷ []) (stops_at q past t ss (stops ++ next_stop q t s (length stops) (r ∷ rs) ∷ [])) go

-- and after one with a verdict none
pub session-ends : (q : Setting) (past : List Told) (t : Told) (s : ℕ) (ss : List ℕ) (stops : List Suspension) (r : Reason) (rs : List Reason)
    → reasons_at q past stops t s ≡ r ∷ rs → is_verdict (answered_at q (length stops)).resume ≡ true
    → stops_at q past t (s ∷ ss) stops ≡ stops ++ next_stop q t s (length stops) (r ∷ rs) ∷ []
unfolding at_session
session-ends q past t s ss stops r rs h go =
    at-session q past t s ss stops (r ∷ rs) h
    ∙ cond-true (is_verdict (answered_at q (length stops)).resume) (stops ++ next_stop q t s (length stops) (r ∷ rs) ∷ []) (stops_at q past t ss (stops ++ next_stop q t s (length stops) (r ∷ rs) ∷ [])) go

-- what stands after these
answered-seam : (xs : List Answered) (y : Answered) (ys : List Answered) → slice_index_or (xs ++ y ∷ ys) (length xs) went_on ≡ y
answered-seam [] y ys = refl
answered-seam (x ∷ xs) y ys = answered-seam xs y ys

pub answered_at-next : (q : Setting) (xs : List Answered) (y : Answered) (ys : List Answered) (k : ℕ) → q.answered ≡ xs ++ y ∷ ys → k ≡ length xs → answered_at q k ≡ y
answered_at-next q xs y ys k replies at = ap (λ r. slice_index_or r k went_on) replies ∙ ap (λ k. slice_index_or (xs ++ y ∷ ys) k went_on) at ∙ answered-seam xs y ys

-- ---- the step that a session is in

next_last : ℕ → Suspension → Option Suspension → Option Suspension
next_last s y None = if y.session == s then Some y else None
next_last s y (Some z) = Some z

last_of-more : (s : ℕ) (y : Suspension) (ys : List Suspension) → last_of s (y ∷ ys) ≡ next_last s y (last_of s ys)
unfolding next_last
last_of-more s y ys = elim (last_of s ys) as (λ o. (elim o as (λ _. Option Suspension) [ Some z ↦ Some z | None ↦ if y.session == s then Some y else None ]) ≡ next_last s y o) [ Some z ↦ refl | None ↦ refl ]

-- after a suspension of the session its last one is this
pub last_of-own : (s : ℕ) (xs : List Suspension) (x : Suspension) → (x.session == s) ≡ true → last_of s (xs ++ x ∷ []) ≡ Some x
unfolding next_last
last_of-own s [] x h = cond-true (x.session == s) (Some x) None h
last_of-own s (y ∷ ys) x h = last_of-more s y (ys ++ x ∷ []) ∙ ap (next_last s y) (last_of-own s ys x h)

-- and after one of another session as before
pub last_of-other : (s : ℕ) (xs : List Suspension) (x : Suspension) → (x.session == s) ≡ false → last_of s (xs ++ x ∷ []) ≡ last_of s xs
last_of-other s [] x h = cond-false (x.session == s) (Some x) None h
last_of-other s (y ∷ ys) x h = last_of-more s y (ys ++ x ∷ []) ∙ ap (next_last s y) (last_of-other s ys x h) ∙ sym (last_of-more s y ys)

step_of_last : Option Suspension → Option Armed
step_of_last None = None
step_of_last (Some x) = step_left x

step_in-last : (s : ℕ) (stops : List Suspension) (o : Option Suspension) → last_of s stops ≡ o → step_in s stops ≡ step_of_last o
unfolding step_of_last
step_in-last s stops None h = ap (λ o. elim o as (λ _. Option Armed) [ None ↦ None | Some x ↦ step_left x ]) h
step_in-last s stops (Some x) h = ap (λ o. elim o as (λ _. Option Armed) [ None ↦ None | Some x ↦ step_left x ]) h

pub step_in-own : (s : ℕ) (xs : List Suspension) (x : Suspension) → (x.session == s) ≡ true → step_in s (xs ++ x ∷ []) ≡ step_left x
unfolding step_of_last
step_in-own s xs x h = step_in-last s (xs ++ x ∷ []) (Some x) (last_of-own s xs x h)

pub step_in-other : (s : ℕ) (xs : List Suspension) (x : Suspension) → (x.session == s) ≡ false → step_in s (xs ++ x ∷ []) ≡ step_in s xs
step_in-other s xs x h = step_in-last s (xs ++ x ∷ []) (last_of s xs) (last_of-other s xs x h) ∙ sym (step_in-last s xs (last_of s xs) refl)
