-- One action more was done.
use Rattle.std.proofs.Common.{◌≡◌, ℕ, zero, suc, ◌+◌, ◌<◌, ◌≤◌, ◌^◌, List, [], ◌∷◌, ◌++◌, length, take, drop, get_or, refl, sym, ap, subst, ◌∙◌, arith}
use Rattle.std.specs.List.{AllByRecursion}
use Rattle.std.proofs.lemmas.List.{at_drop_more, take_more}
use Rattle.pd_plan.specs.declared.plan.Action.{Action}
use Rattle.pd_plan.specs.declared.plan.Action.TheVariants as actions
use Rattle.pd_board.specs.Standing.{Standing}
use Rattle.pd_session.specs.declared.record.ActionResult.{ActionResult}
use Rattle.pd_session.specs.declared.record.ActionResult.TheVariants as results
use Rattle.pd_session.specs.Doing.{turns_of, turns_in, IsDone, AreDone, done_to}

-- of each of the list, the one at this place
pub at_place : {A : Type 0} (P : A → Type 0) (xs : List A) (i : ℕ) (x : A) → AllByRecursion P xs → i < length xs → x ≡ get_or xs i x → P x
at_place P [] i x all below is = absurd (omega arith)
at_place P (a ∷ rest) zero x all below is = subst P (sym is) all.0
at_place P (a ∷ rest) (suc i) x all below is = at_place P rest i x all.1 (omega arith) is

-- the turns that are left are those of this action and of those after it
pub turns_split : (xs : List Action) (i : ℕ) (a : Action) → i < length xs → a ≡ get_or xs i a → turns_in (drop i xs) ≡ turns_of a + turns_in (drop (i + 1) xs)
turns_split xs i a below is = at_drop_more turns_in xs i a below ∙ ap (λ x. turns_of x + turns_in (drop (i + 1) xs)) (sym is)

-- an action reads at most so often as it has turns
pub loads_after : (session : ℕ) (a : Action) (r : ActionResult) (old new : Standing) → IsDone session a old new r → new.answer_loads session ≤ old.answer_loads session + turns_of a
loads_after session (actions.Act a) (results.Act r) old new done = omega (arith, ap (λ (s : Standing). s.answer_loads session) done.rest)
loads_after session (actions.Await c t) (results.Awaited n w) old new done = done.1.read.loads.1
loads_after session (actions.Act a) (results.Awaited n w) old new done = absurd done
loads_after session (actions.Await c t) (results.Act r) old new done = absurd done

pub ends_after : (session : ℕ) (a : Action) (r : ActionResult) (old new : Standing) → IsDone session a old new r → new.end_loads ≤ old.end_loads + turns_of a
ends_after session (actions.Act a) (results.Act r) old new done = omega (arith, ap (λ (s : Standing). s.end_loads) done.rest)
ends_after session (actions.Await c t) (results.Awaited n w) old new done = done.1.read.end_loads.1
ends_after session (actions.Act a) (results.Awaited n w) old new done = absurd done
ends_after session (actions.Await c t) (results.Act r) old new done = absurd done

done_more : (session : ℕ) (xs : List Action) (rs : List ActionResult) (a : Action) (r : ActionResult) (old mid new : Standing) → AreDone session xs rs old mid → IsDone session a mid new r
    → AreDone session (xs ++ a ∷ []) (rs ++ r ∷ []) old new
done_more session [] [] a r old mid new was done = (new, subst (λ s. IsDone session a s new r) was done, refl)
done_more session [] (q ∷ rs) a r old mid new was done = absurd was
done_more session (x ∷ xs) [] a r old mid new was done = absurd was
done_more session (x ∷ xs) (q ∷ rs) a r old mid new was done = (was.0, was.1, done_more session xs rs a r was.0 mid new was.2 done)

pub one_more : (session : ℕ) (xs : List Action) (i : ℕ) (rs now : List ActionResult) (a : Action) (r : ActionResult) (old mid new : Standing) → i < length xs → a ≡ get_or xs i a
    → AreDone session (take i xs) rs old mid → now ≡ rs ++ r ∷ [] → IsDone session a mid new r → AreDone session (take (i + 1) xs) now old new
one_more session xs i rs now a r old mid new below at was is done =
    subst (λ t. AreDone session t now old new) (sym (take_more xs i a below ∙ ap (λ x. take i xs ++ x ∷ []) (sym at)))
    (subst (λ t. AreDone session (take i xs ++ a ∷ []) t old new) (sym is) (done_more session (take i xs) rs a r old mid new was done))

pub rest_more : (old mid new : Standing) → mid ≡ done_to mid old → new ≡ done_to new mid → new ≡ done_to new old
rest_more old mid new was now = now ∙ ap (λ s. done_to new s) was

-- after the action, the turns of those after it are left
pub loads_left : (session : ℕ) (xs : List Action) (i : ℕ) (a : Action) (r : ActionResult) (old new : Standing) → i < length xs → IsDone session a old new r → a ≡ get_or xs i a
    → old.answer_loads session + turns_in (drop i xs) < 2 ^ 32 → new.answer_loads session + turns_in (drop (i + 1) xs) < 2 ^ 32
loads_left session xs i a r old new below done at room = omega (arith, turns_split xs i a below at, loads_after session a r old new done)

pub ends_left : (session : ℕ) (xs : List Action) (i : ℕ) (a : Action) (r : ActionResult) (old new : Standing) → i < length xs → IsDone session a old new r → a ≡ get_or xs i a
    → old.end_loads + turns_in (drop i xs) < 2 ^ 32 → new.end_loads + turns_in (drop (i + 1) xs) < 2 ^ 32
ends_left session xs i a r old new below done at room = omega (arith, turns_split xs i a below at, ends_after session a r old new done)
