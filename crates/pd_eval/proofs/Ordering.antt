-- A turn of the machine keeps the order of its events, and the event that it tells is the next one.
use Rattle.std.proofs.Common.{◌≡◌, ℕ, ◌<◌, ◌≤◌, List, [], ◌∷◌, ◌++◌, length, Result, Ok, Err, sym, ◌∙◌, subst, arith}
use Rattle.std.specs.Prelude.{◌^◌, IfOk}
use Rattle.std.specs.declared.alloc.AllocError.{AllocError}
use Rattle.std.proofs.lemmas.List.{length_push}
use Rattle.pd_tree.specs.Program.{Program}
use Rattle.pd_tree.specs.WellFormed.{IsWellFormed}
use Rattle.pd_machine.specs.declared.event.Event.{Event}
use Rattle.pd_machine.specs.declared.event.Verdict.{Verdict}
use Rattle.pd_machine.specs.declared.machine.Turn.TheVariants.{Quiet, Tells}
use Rattle.pd_machine.specs.Events.{Told, standing}
use Rattle.pd_machine.specs.Held.{Held, IsOver, scene_of}
use Rattle.pd_meaning.specs.Meaning.{Verdicts}
use Rattle.pd_meaning.specs.Machine.{Machine, start, turn}
use Rattle.pd_meaning.specs.Steps.{with_events}
use Rattle.pd_order.specs.Order.{IsNext, IsPlaced}
use Rattle.pd_order.specs.Standing.{IsTold, IsToldAt}
use Rattle.pd_order.proofs.Lists.{all_last, last_is_next}
use Rattle.pd_order.proofs.Turns.{orderly_told, turn_orderly, start_orderly}
use Rattle.pd_order.proofs.Runs.{placed_by, roots_below}
use Rattle.pd_eval.specs.Watching.{HasObeyed, IsCounted, IsOrderlyIn, keep, most_fuel}
use Rattle.pd_eval.proofs.Standing.{HasTurned, told_turn, turn_is}

-- what may be said of an event that is told
pub record IsDue (nodes : ℕ) (es : List Told) (x : Event) (m : Held) : Type 0 where
  pub next : IsNext es x
  pub placed : IsPlaced nodes x (standing x.node (scene_of m))
  pub few : x.number < 2 ^ 25

module _ (p : Program) (linked : IsWellFormed p) where
  turned_orderly : (v : Verdicts) (m : Machine) → IsOrderlyIn p m → IsOrderlyIn p (turn p v m)
  turned_orderly v m h = turn_orderly (λ n. n < length p.nodes) p (λ n i. i) (roots_below p linked) v most_fuel m h

  pub quiet_orderly : (es : List Told) (m m' : Held) → length es ≡ m.told → HasTurned p m m' Quiet → IsOrderlyIn p (with_events m es) → IsOrderlyIn p (with_events m' es)
  quiet_orderly es m m' count turned h = subst (λ x. IsOrderlyIn p x) (sym (turned.0 es count ∙ sym (turn_is p [] m es))) (turned_orderly [] (with_events m es) h)

  -- the event that a turn tells
  pub event_due : (es : List Told) (m m' : Held) (x : Event) → length es ≡ m.told → HasTurned p m m' (Tells x) → IsOrderlyIn p (with_events m es) → IsDue (length p.nodes) es x m'
  event_due es m m' x count turned h =
      let t : Told = record { event = x; scene = standing x.node (scene_of m') } in
      let after : IsOrderlyIn p (with_events m' (es ++ t ∷ [])) = subst (λ y. IsOrderlyIn p y) (sym (turned.0 es count ∙ sym (turn_is p [] m es))) (turned_orderly [] (with_events m es) h) in
      let told : IsTold (λ n. n < length p.nodes) (length p.nodes) most_fuel (es ++ t ∷ []) = orderly_told (λ n. n < length p.nodes) p (λ n i. i) (roots_below p linked) [] most_fuel (with_events m' (es ++ t ∷ [])) after in
      let next : IsNext es x = last_is_next es t told.in_order in
      record {
        next = next;
        placed = placed_by (length p.nodes) t (all_last (IsToldAt (λ n. n < length p.nodes) (length p.nodes)) es t told.placed);
        few = omega (arith, next.0, told.bound, length_push es t);
      }

  pub served_orderly : (r : Result (Unit {0}) AllocError) (es es' : List Told) (kept kept' : Verdicts) (m m' m'' : Held) (x : Event) (going : IsOver m → ⊥) → IsCounted es kept m → HasTurned p m m' (Tells x) → IfOk r (λ _. es' ≡ es ++ record { event = x; scene = standing x.node (scene_of m') } ∷ []) → IfOk r (λ _. (v : Verdict) × (kept' ≡ keep kept x.number v) × HasObeyed p x v m' m'') → IsOrderlyIn p (with_events m es) → IfOk r (λ _. IsOrderlyIn p (with_events m'' es'))
  served_orderly (Err e) es es' kept kept' m m' m'' x going counted turned told answered h = tt
  served_orderly (Ok u) es es' kept kept' m m' m'' x going counted turned told answered h =
      subst (λ zs. IsOrderlyIn p (with_events m'' zs)) (sym told)
      (subst (λ y. IsOrderlyIn p y) (sym (told_turn p 0 0 es kept m going m' m'' x answered.0 turned answered.2 counted.0 counted.1))
      (turned_orderly (kept ++ (length es, answered.0) ∷ []) (with_events m es) h))

-- a run begins so
pub orderly_at_first : (p : Program) (fuel root : ℕ) (m : Held) → IsWellFormed p → fuel ≤ 2 ^ 24 → root < length p.nodes → with_events m [] ≡ start p fuel root → IsOrderlyIn p (with_events m [])
orderly_at_first p fuel root m linked enough below begun =
    subst (λ x. IsOrderlyIn p x) (sym begun) (start_orderly (λ n. n < length p.nodes) p (λ n i. i) (roots_below p linked) [] most_fuel fuel root enough below)
