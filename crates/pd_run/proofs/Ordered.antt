-- The events of each context of a run are those of a program's meaning, which come in order.
use Rattle.std.proofs.Common.{◌≡◌, ℕ, suc, ◌+◌, List, [], ◌∷◌, map, length, refl, ap, ◌∙◌, arith}
use Rattle.std.specs.Prelude.{slice_index}
use Rattle.std.specs.List.{range_with_len}
use Rattle.pd_tree.specs.Program.{Program}
use Rattle.pd_machine.specs.declared.event.Event.{Event}
use Rattle.pd_machine.specs.Events.{Told}
use Rattle.pd_order.specs.Order.{AreInOrderFrom}
use Rattle.pd_order.proofs.Runs.{meaning_ordered}
use Rattle.pd_plan.specs.declared.plan.Plan.{Plan}
use Rattle.pd_suspend.specs.Laws.{AreNumbered}
use Rattle.pd_suspend.specs.Stops.{verdicts_of}
use Rattle.pd_suspend.specs.declared.context.ContextRecord.{ContextRecord}
use Rattle.pd_record.specs.Record.{fuel_at}
use Rattle.pd_run.specs.Run.{events_of}

numbered_from : (n : ℕ) (open_ones : List Event) (ts : List Told) → AreInOrderFrom n open_ones ts → map (λ (t : Told). t.event.number) ts ≡ range_with_len n (length ts)
numbered_from n open_ones [] h = refl
numbered_from n open_ones (t ∷ ts) h = ap (λ k. k ∷ map (λ (u : Told). u.event.number) ts) h.0.0 ∙ ap (λ ks. n ∷ ks) (numbered_from (suc n) _ ts h.1 ∙ ap (λ m. range_with_len m (length ts)) (next n))
  where
    next : (m : ℕ) → suc m ≡ m + 1
    next m = omega arith

pub events_numbered : (plan : Plan) (p : Program) (c : ℕ) (r : ContextRecord) → AreNumbered (events_of plan p c r)
events_numbered plan p c r = numbered_from 0 [] (events_of plan p c r) (meaning_ordered p (verdicts_of r.stops) (fuel_at plan c) (slice_index p.entries c))
