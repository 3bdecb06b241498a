-- Definition: where a step ends. The answer to a suspension may leave a step, which ends at a later event of the context.
use Rattle.std.specs.Prelude.{ℕ, suc, ◌+◌, ◌-◌, min, Bool, true, false, ◌==◌, ◌&&◌, ◌||◌, nat_lt, nat_le, List, [], ◌∷◌, take, drop, count_by, Option, None, Some}
use Rattle.pd_values.specs.declared.value.Tag.TheVariants.{Statement, Call}
use Rattle.pd_tree.specs.Program.{Program, node_at, has_tag}
use Rattle.pd_machine.specs.declared.event.Event.{Event}
use Rattle.pd_machine.specs.declared.event.EventKind.{EventKind}
use Rattle.pd_machine.specs.declared.event.EventKind.TheVariants as kinds
use Rattle.pd_machine.specs.Events.{Told}
use Rattle.pd_suspend.specs.declared.stepper.Step.{Step}
use Rattle.pd_suspend.specs.declared.stepper.Step.TheVariants as steps
use Rattle.pd_plan.specs.declared.plan.Resume.{Resume}
use Rattle.pd_plan.specs.declared.plan.Resume.TheVariants.{Continue, Into, Over, Out, Reenter, Return, Kill}

-- ---- where a session can be suspended

-- whether an activation begins
abbrev pub is_enter : EventKind → Bool
is_enter kinds.Enter = true
is_enter _ = false

-- whether one ends with its value
abbrev pub gives : EventKind → Bool
gives (kinds.Return a) = true
gives _ = false

-- before a statement: at its Enter
abbrev pub stands_before : Program → Event → Bool
stands_before p e = is_enter e.kind && has_tag (node_at p e.node).tags Statement

-- after a call: at its Return
abbrev pub stands_after : Program → Event → Bool
stands_after p e = gives e.kind && has_tag (node_at p e.node).tags Call

-- ---- steps

-- the step that an answer leaves, if it leaves one
abbrev pub step_of : Resume → Option Step
step_of Continue = None
step_of (Into n) = Some (steps.Into n)
step_of (Over n) = Some (steps.Over n)
step_of (Out n) = Some (steps.Out n)
step_of (Reenter k) = Some (steps.Into 1)
step_of (Return k a) = Some (steps.Into 1)
step_of Kill = None

-- a step, with the number of the event at which the answer that left it stands, and how many frames were live there, which is that event's depth
pub record Armed : Type 0 where
  pub step : Step
  pub event : ℕ
  pub depth : ℕ

-- ---- places

-- whether an event is a place of a step that was left at this depth: `least` is the least depth of the events from there up to just
-- before it. It stands before a statement or after a call, or does neither
abbrev pub counts : Step → ℕ → ℕ → Bool → Bool → ℕ → Bool
counts (steps.Into n) depth least before after d = before || (after && nat_lt d least)
counts (steps.Over n) depth least before after d = (before && nat_le d least) || (after && nat_lt d least)
counts (steps.Out n) depth least before after d = after && nat_le (d + n) depth

-- at which of its places a step ends, counted from 1
abbrev pub wanted : Step → ℕ
wanted (steps.Into n) = n
wanted (steps.Over n) = n
wanted (steps.Out n) = 1

-- the events from number `from` up to just before number `to`
abbrev pub stretch : List Told → ℕ → ℕ → List Told
stretch events from to = take (to - from) (drop from events)

-- the least of a depth and those of these events
abbrev pub least_depth : ℕ → List Told → ℕ
least_depth depth [] = depth
least_depth depth (t ∷ ts) = min t.event.depth (least_depth depth ts)

-- the least depth of the events from the one at which the step was left up to just before number e
abbrev pub least_before : List Told → Armed → ℕ → ℕ
least_before events a e = least_depth a.depth (stretch events (suc a.event) e)

-- whether an event of the context is a place of the step
abbrev pub is_place : Program → List Told → Armed → Event → Bool
is_place p events a e = counts a.step a.depth (least_before events a e.number) (stands_before p e) (stands_after p e) e.depth

-- how many places it has after the event at which it was left and before number e
abbrev pub places_before : Program → List Told → Armed → ℕ → ℕ
places_before p events a e = count_by (λ t. is_place p events a t.event) (stretch events (suc a.event) e)

-- whether the step ends at this event: it is the one of its places that is wanted
abbrev pub ends_at : Program → List Told → Armed → Event → Bool
ends_at p events a e = is_place p events a e && (suc (places_before p events a e.number) == wanted a.step)
