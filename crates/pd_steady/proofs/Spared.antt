-- What no script of the plan does to a binding, no answer tells of it.
use Rattle.std.proofs.Common.{◌≡◌, ℕ, zero, suc, Bool, true, false, cond, ◌&&◌, ◌||◌, not, List, [], ◌∷◌, ◌++◌, map, refl, ap, ◌∙◌, ⊎_elim, arith}
use Rattle.std.specs.Prelude.{nat_le, ◌==◌, filter, slice_index_or, flat_map}
use Rattle.std.specs.List.{AllByRecursion, list_all, list_any, filter_map}
use Rattle.std.proofs.lemmas.Bool.{and_parts, and_from, or_cases, or_left, or_right}
use Rattle.std.proofs.lemmas.Bool.Decides.{nat_tests}
use Rattle.std.proofs.lemmas.List.Folds.{list_all-append, list_any-append}
use Rattle.pd_plan.specs.declared.plan.Act.{Act}
use Rattle.pd_plan.specs.declared.plan.Act.TheVariants.{Attach, Dispose, Enable, Disable}
use Rattle.pd_plan.specs.declared.plan.Action.{Action}
use Rattle.pd_plan.specs.declared.plan.Action.TheVariants as actions
use Rattle.pd_plan.specs.declared.plan.Script.{Script}
use Rattle.pd_plan.specs.declared.plan.Plan.{Plan}
use Rattle.pd_board.specs.declared.answers.ActResult.{ActResult}
use Rattle.pd_board.specs.declared.answers.ActResult.TheVariants as results
use Rattle.pd_board.specs.declared.answers.Dispose.TheVariants as disposes
use Rattle.pd_board.specs.declared.answers.Toggle.TheVariants as toggles
use Rattle.pd_board.specs.Answers.{is_result_of, is_attach, has_attach, is_disposal, has_disposal}
use Rattle.pd_board.specs.Kept.{disables_upto}
use Rattle.pd_suspend.specs.declared.suspension.Suspension.{Suspension}
use Rattle.pd_suspend.specs.Answers.{are_results_of, scripted, goes_on, Carries, acts_of}
use Rattle.pd_session.specs.declared.record.ActionResult.{ActionResult}
use Rattle.pd_session.specs.declared.record.ActionResult.TheVariants.{Act as Acted, Awaited}
use Rattle.pd_session.specs.Results as sessions
use Rattle.pd_session.specs.Before.{answers_behind, befores_behind}
use Rattle.pd_steady.specs.Steady.{may_stop, action_may_stop, answer_spares, script_spares}

-- ---- lists

pub all_at : {A : Type 0} (f : A → Bool) (xs : List A) (k : ℕ) (d : A) → list_all f xs ≡ true → f d ≡ true → f (slice_index_or xs k d) ≡ true
all_at f [] k d h e = e
all_at f (x ∷ xs) zero d h e = (and_parts (f x) (list_all f xs) h).0
all_at f (x ∷ xs) (suc k) d h e = all_at f xs k d (and_parts (f x) (list_all f xs) h).1 e

pub all_map : {A B : Type 0} (f : B → Bool) (g : A → B) (xs : List A) → list_all f (map g xs) ≡ list_all (λ x. f (g x)) xs
all_map f g [] = refl
all_map f g (x ∷ xs) = ap (λ b. f (g x) && b) (all_map f g xs)

pub all_weaker : {A : Type 0} (f g : A → Bool) → ((x : A) → f x ≡ true → g x ≡ true) → (xs : List A) → list_all f xs ≡ true → list_all g xs ≡ true
all_weaker f g h [] k = refl
all_weaker f g h (x ∷ xs) k = let parts = and_parts (f x) (list_all f xs) k in and_from _ _ (h x parts.0) (all_weaker f g h xs parts.1)

pub all_flat : {A B : Type 0} (f : B → Bool) (g : A → List B) (xs : List A) → list_all (λ x. list_all f (g x)) xs ≡ true → list_all f (flat_map g xs) ≡ true
all_flat f g [] h = refl
all_flat f g (x ∷ xs) h =
    let parts = and_parts (list_all f (g x)) (list_all (λ x. list_all f (g x)) xs) h in
    list_all-append f (g x) (flat_map g xs) ∙ and_from _ _ parts.0 (all_flat f g xs parts.1)

pub all_both : {A : Type 0} (f : A → Bool) (xs ys : List A) → list_all f xs ≡ true → list_all f ys ≡ true → list_all f (xs ++ ys) ≡ true
all_both f xs ys h k = list_all-append f xs ys ∙ and_from _ _ h k

-- ---- answers

-- whether an answer says nothing of a disposal of the binding or of switching it off
abbrev pub spares : ℕ → ActResult → Bool
spares b (results.Attached c r) = true
spares b (results.Disposed c r) = not (c == b)
spares b (results.Enabled c r) = true
spares b (results.Disabled c r) = not (c == b)

other : (b c d : ℕ) → (c == d) ≡ true → not (d == b) ≡ true → not (c == b) ≡ true
other b c d e h = grind (arith, nat_tests, e, h)

pub result_spares : (b : ℕ) (a : Act) (r : ActResult) → is_result_of a r ≡ true → not (may_stop b a) ≡ true → spares b r ≡ true
result_spares b (Attach d) (results.Attached c r) e h = refl
result_spares b (Attach d) (results.Disposed c r) e h = cc
result_spares b (Attach d) (results.Enabled c r) e h = cc
result_spares b (Attach d) (results.Disabled c r) e h = cc
result_spares b (Dispose d) (results.Attached c r) e h = refl
result_spares b (Dispose d) (results.Disposed c r) e h = other b c d e h
result_spares b (Dispose d) (results.Enabled c r) e h = refl
result_spares b (Dispose d) (results.Disabled c r) e h = cc
result_spares b (Enable d) (results.Attached c r) e h = refl
result_spares b (Enable d) (results.Disposed c r) e h = cc
result_spares b (Enable d) (results.Enabled c r) e h = refl
result_spares b (Enable d) (results.Disabled c r) e h = cc
result_spares b (Disable d) (results.Attached c r) e h = refl
result_spares b (Disable d) (results.Disposed c r) e h = cc
result_spares b (Disable d) (results.Enabled c r) e h = refl
result_spares b (Disable d) (results.Disabled c r) e h = other b c d e h

pub none_disposes : (b : ℕ) (rs : List ActResult) → list_all (spares b) rs ≡ true → has_disposal b rs ≡ false
none_disposes b [] h = refl
none_disposes b (r ∷ rs) h =
    let parts = and_parts (spares b r) (list_all (spares b) rs) h in
    ap (λ x. x || has_disposal b rs) (by r parts.0) ∙ none_disposes b rs parts.1
  where
    no_true : (x : Bool) → not x ≡ true → x ≡ false
    no_true true h = cc
    no_true false h = refl

    by : (r : ActResult) → spares b r ≡ true → is_disposal b r ≡ false
    by (results.Attached c x) e = refl
    by (results.Disposed c (disposes.Disposed n)) e = no_true (c == b) e
    by (results.Disposed c disposes.Already) e = refl
    by (results.Enabled c x) e = refl
    by (results.Disabled c x) e = refl

pub none_disables : (b n : ℕ) (rs : List ActResult) → list_all (spares b) rs ≡ true → filter (disables_upto b n) rs ≡ []
none_disables b n [] h = refl
none_disables b n (r ∷ rs) h =
    let parts = and_parts (spares b r) (list_all (spares b) rs) h in
    ap (λ x. cond x (r ∷ filter (disables_upto b n) rs) (filter (disables_upto b n) rs)) (by r parts.0) ∙ none_disables b n rs parts.1
  where
    no_true : (x y : Bool) → not x ≡ true → (x && y) ≡ false
    no_true true y h = cc
    no_true false y h = refl

    by : (r : ActResult) → spares b r ≡ true → disables_upto b n r ≡ false
    by (results.Attached c x) e = refl
    by (results.Disposed c x) e = refl
    by (results.Enabled c x) e = refl
    by (results.Disabled c (toggles.At m)) e = no_true (c == b) (nat_le m n) e
    by (results.Disabled c toggles.Already) e = refl
    by (results.Disabled c toggles.Gone) e = refl

-- ---- suspensions

pub results_spare : (b : ℕ) (zs : List Act) (rs : List ActResult) → are_results_of zs rs ≡ true → list_all (λ x. not (may_stop b x)) zs ≡ true → list_all (spares b) rs ≡ true
results_spare b [] [] e h = refl
results_spare b [] (r ∷ rs) e h = cc
results_spare b (a ∷ zs) [] e h = refl
results_spare b (a ∷ zs) (r ∷ rs) e h =
    let parts = and_parts (is_result_of a r) (are_results_of zs rs) e in
    let spared = and_parts (not (may_stop b a)) (list_all (λ x. not (may_stop b x)) zs) h in
    and_from _ _ (result_spares b a r parts.0 spared.0) (results_spare b zs rs parts.1 spared.1)

pub scripted_spares : (plan : Plan) (b s k : ℕ) → list_all (script_spares b) plan.sessions ≡ true → answer_spares b (scripted plan s k) ≡ true
scripted_spares plan b s k h =
    all_at (answer_spares b) (slice_index_or (map (λ x. x.answers) plan.sessions) s []) k goes_on
    (all_at (list_all (answer_spares b)) (map (λ x. x.answers) plan.sessions) s []
    (all_map (list_all (answer_spares b)) (λ (x : Script). x.answers) plan.sessions ∙ all_weaker (script_spares b) (λ x. list_all (answer_spares b) x.answers) (λ x e. (and_parts (list_all (λ a. not (action_may_stop b a)) x.actions) (list_all (answer_spares b) x.answers) e).1) plan.sessions h) refl)
    refl

pub acts_spare : (plan : Plan) (b : ℕ) → list_all (script_spares b) plan.sessions ≡ true → (stops : List Suspension) → AllByRecursion (λ x. Carries x (scripted plan x.session x.answer)) stops → list_all (λ a. spares b a.1) (acts_of stops) ≡ true
acts_spare plan b h [] all = refl
acts_spare plan b h (x ∷ xs) all =
    all_both (λ (a : ℕ × ActResult). spares b a.1) (map (λ r. (x.event, r)) x.acts) (acts_of xs)
    (all_map (λ (a : ℕ × ActResult). spares b a.1) (λ r. (x.event, r)) x.acts ∙ results_spare b (scripted plan x.session x.answer).first x.acts all.0.acts (scripted_spares plan b x.session x.answer h))
    (acts_spare plan b h xs all.1)

-- ---- sessions

pub actions_spare : (b : ℕ) (zs : List Action) (rs : List ActionResult) → sessions.are_of zs rs ≡ true → list_all (λ a. not (action_may_stop b a)) zs ≡ true → list_all (spares b) (filter_map sessions.act_in rs) ≡ true
actions_spare b [] [] e h = refl
actions_spare b [] (r ∷ rs) e h = cc
actions_spare b (a ∷ zs) [] e h = refl
actions_spare b (actions.Act a ∷ zs) (Acted r ∷ rs) e h =
    let parts = and_parts (is_result_of a r) (sessions.are_of zs rs) e in
    let spared = and_parts (not (may_stop b a)) (list_all (λ a. not (action_may_stop b a)) zs) h in
    and_from _ _ (result_spares b a r parts.0 spared.0) (actions_spare b zs rs parts.1 spared.1)
actions_spare b (actions.Act a ∷ zs) (Awaited c w ∷ rs) e h = cc
actions_spare b (actions.Await count turns ∷ zs) (Acted r ∷ rs) e h = cc
actions_spare b (actions.Await count turns ∷ zs) (Awaited c w ∷ rs) e h =
    actions_spare b zs rs (and_parts (c == count) (sessions.are_of zs rs) e).1 h

-- ---- attaches before the run

pub behind_spares : (b : ℕ) (earlier bs : List ℕ) → list_all (spares b) (answers_behind earlier bs) ≡ true
behind_spares b earlier [] = refl
behind_spares b earlier (c ∷ bs) = behind_spares b (earlier ++ c ∷ []) bs

pub befores_spare : (b : ℕ) (earlier : List ℕ) (ss : List Script) → list_all (list_all (spares b)) (befores_behind earlier ss) ≡ true
befores_spare b earlier [] = refl
befores_spare b earlier (s ∷ ss) = and_from _ _ (behind_spares b earlier s.before) (befores_spare b (earlier ++ s.before) ss)

behind_attaches : (b : ℕ) (earlier bs : List ℕ) → list_any (λ x. x == b) bs ≡ true → has_attach b (answers_behind earlier bs) ≡ true
behind_attaches b earlier [] h = cc
behind_attaches b earlier (c ∷ bs) h = ⊎_elim (λ (e : (c == b) ≡ true). or_left _ _ e) (λ (e : list_any (λ x. x == b) bs ≡ true). or_right (c == b) _ (behind_attaches b (earlier ++ c ∷ []) bs e)) (or_cases (c == b) (list_any (λ x. x == b) bs) h)

pub befores_attach : (b : ℕ) (earlier : List ℕ) (ss : List Script) → list_any (λ (s : Script). list_any (λ x. x == b) s.before) ss ≡ true → has_attach b (flat_map (λ rs. rs) (befores_behind earlier ss)) ≡ true
befores_attach b earlier [] h = cc
befores_attach b earlier (s ∷ ss) h =
    list_any-append (is_attach b) (answers_behind earlier s.before) (flat_map (λ rs. rs) (befores_behind (earlier ++ s.before) ss))
    ∙ ⊎_elim (λ (e : list_any (λ x. x == b) s.before ≡ true). or_left _ _ (behind_attaches b earlier s.before e))
    (λ (e : list_any (λ (s : Script). list_any (λ x. x == b) s.before) ss ≡ true). or_right (has_attach b (answers_behind earlier s.before)) _ (befores_attach b (earlier ++ s.before) ss e))
    (or_cases (list_any (λ x. x == b) s.before) (list_any (λ (s : Script). list_any (λ x. x == b) s.before) ss) h)
