-- The stepper of a session: what it sees is where the step that the session's last suspension left ends.
use Rattle.std.proofs.Common.{◌≡◌, ℕ, zero, suc, ◌+◌, ◌≤◌, Bool, false, List, [], ◌∷◌, ◌++◌, length, drop, refl, sym, ap, ◌∙◌, subst, arith, Option, Some, None}
use Rattle.std.specs.List.{range_with_len}
use Rattle.std.proofs.lemmas.List.{length-append, map-append}
use Rattle.std.proofs.lemmas.Bool.{eq-eqb, ne_eqb}
use Rattle.std.specs.Option.{option_map}
use Rattle.pd_tree.specs.Program.{Program}
use Rattle.pd_machine.specs.Events.{Told}
use Rattle.pd_suspend.specs.declared.stepper.Step.{Step}
use Rattle.pd_suspend.specs.declared.stepper.Stepper.{Stepper}
use Rattle.pd_suspend.specs.Steps.{step_of, stands_before, stands_after}
use Rattle.pd_suspend.specs.Counters.{Counters, armed, sees, moved, moved_by, armed_by, sees_any, moved_any, stepper_of}
use Rattle.pd_suspend.specs.Laws.{IsStepping, NewIsIdle, SeesTheEnd, SeesOneMore, ArmsTheStep, StepsFollowStops, OneMoreIsNumbered}
use Rattle.pd_suspend.proofs.Stepping.{counters_see}
use Rattle.pd_suspend.proofs.Stopping.{step_in-own, step_in-other}

-- ---- lists

drop-long : {A : Type 0} (xs : List A) (x : A) → drop (suc (length xs)) (xs ++ x ∷ []) ≡ []
drop-long [] x = refl
drop-long (y ∷ ys) x = drop-long ys x

drop-push : {A : Type 0} (k : ℕ) (xs : List A) (x : A) → k ≤ length xs → drop k (xs ++ x ∷ []) ≡ drop k xs ++ x ∷ []
drop-push zero xs x h = refl
drop-push (suc k) [] x h = absurd (omega (arith, h))
drop-push (suc k) (y ∷ ys) x h = drop-push k ys x (omega (arith, h))

-- ---- counters over one more event

moved_by-push : (p : Program) (c : Counters) (xs : List Told) (t : Told)
    → moved_by p c (xs ++ t ∷ []) ≡ moved (moved_by p c xs) (stands_before p t.event) (stands_after p t.event) t.event.depth
moved_by-push p c [] t = refl
moved_by-push p c (x ∷ xs) t = moved_by-push p (moved c (stands_before p x.event) (stands_after p x.event) x.event.depth) xs t

-- ---- the laws

pub new_is_idle : NewIsIdle
new_is_idle p = refl

sees-none : (s : Stepper) (before after : Bool) (d : ℕ) → s.step ≡ None → sees_any s before after d ≡ false
sees-none s before after d h = ap (λ (o : Option Step). elim o as (λ _. Bool) [ None ↦ false | Some step ↦ sees (record { step = step; depth = s.depth; least = s.least; count = s.count }) before after d ]) h

pub sees_the_end : SeesTheEnd
sees_the_end p past None s t numbered number stepping = sees-none s (stands_before p t.event) (stands_after p t.event) t.event.depth stepping
sees_the_end p past (Some a) s t numbered number stepping =
    ap (λ x. sees_any x (stands_before p t.event) (stands_after p t.event) t.event.depth) stepping.1
    ∙ counters_see p past a t numbered stepping.0 number

moved-none : (s : Stepper) (before after : Bool) (d : ℕ) → s.step ≡ None → moved_any s before after d ≡ s
moved-none s before after d h = ap (λ (o : Option Step). elim o as (λ _. Stepper) [ None ↦ s | Some step ↦ stepper_of (moved (record { step = step; depth = s.depth; least = s.least; count = s.count }) before after d) ]) h

pub sees_one_more : SeesOneMore
sees_one_more p past None s t stepping =
    subst (λ x. IsStepping p (past ++ t ∷ []) None x) (sym (moved-none s (stands_before p t.event) (stands_after p t.event) t.event.depth stepping)) stepping
sees_one_more p past (Some a) s t stepping =
    let within = stepping.0 in
    let long : length (past ++ t ∷ []) ≡ length past + 1 = length-append past (t ∷ []) in (
      omega (arith, within, long),
      ap (λ x. moved_any x (stands_before p t.event) (stands_after p t.event) t.event.depth) stepping.1
          ∙ ap stepper_of (sym (moved_by-push p (armed a.step a.depth) (drop (suc a.event) past) t))
          ∙ ap (λ xs. stepper_of (moved_by p (armed a.step a.depth) xs)) (sym (drop-push (suc a.event) past t within)),
    )

armed-left : (p : Program) (past : List Told) (t : Told) (depth e : ℕ) (o : Option Step) → e ≡ length past
    → IsStepping p (past ++ t ∷ []) (option_map (λ step. record { step = step; event = e; depth = depth }) o) (armed_by o depth)
armed-left p past t depth e None h = refl
armed-left p past t depth e (Some step) h =
    let long : length (past ++ t ∷ []) ≡ length past + 1 = length-append past (t ∷ []) in
    let nothing : drop (suc e) (past ++ t ∷ []) ≡ [] = ap (λ k. drop (suc k) (past ++ t ∷ [])) h ∙ drop-long past t in
    (omega (arith, long, h), ap (λ xs. stepper_of (moved_by p (armed step depth) xs)) (sym nothing))

pub arms_the_step : ArmsTheStep
arms_the_step p past t x at = armed-left p past t (length x.frames) x.event (step_of x.resume) at

pub steps_follow_stops : StepsFollowStops
steps_follow_stops = record {
  own = λ s stops x h. step_in-own s stops x (eq-eqb x.session s h);
  other = λ s stops x h. step_in-other s stops x (ne_eqb x.session s h);
}

-- ---- numbers

range-more : (a n : ℕ) → range_with_len a (suc n) ≡ range_with_len a n ++ (a + n) ∷ []
range-more a zero = ap (λ m. m ∷ []) (omega arith)
range-more a (suc n) = ap (λ ns. a ∷ ns) (range-more (a + 1) n ∙ ap (λ m. range_with_len (a + 1) n ++ m ∷ []) (omega arith))

pub one_more_is_numbered : OneMoreIsNumbered
one_more_is_numbered events t numbered number =
    let long : suc (length events) ≡ length (events ++ t ∷ []) = (let l = length-append events (t ∷ []) in omega (arith, l)) in
    map-append (λ (t : Told). t.event.number) events (t ∷ [])
    ∙ ap (λ ns. ns ++ t.event.number ∷ []) numbered
    ∙ ap (λ m. range_with_len 0 (length events) ++ m ∷ []) (number ∙ zero-plus (length events))
    ∙ sym (range-more 0 (length events))
    ∙ ap (range_with_len 0) long
  where
    zero-plus : (n : ℕ) → n ≡ 0 + n
    zero-plus n = omega arith
