-- Definition: what a context saw and passed, beside the events of its run.
use Rattle.std.specs.Prelude.{if◌then◌else◌, ◌≡◌, ℕ, ◌==◌, ◌&&◌, ◌||◌, Bool, true, not, nat_lt, nat_le, List, [], ◌∷◌, map, count_by}
use Rattle.std.specs.List.{list_all, list_any}
use Rattle.pd_machine.specs.Events.{Told}
use Rattle.pd_tree.specs.Program.{Program}
use Rattle.pd_plan.specs.declared.plan.Plan.{Plan}
use Rattle.pd_board.specs.declared.answers.Sight.{Sight}
use Rattle.pd_board.specs.declared.answers.Passed.{Passed}
use Rattle.pd_suspend.specs.Steps.{is_enter}
use Rattle.pd_record.specs.Logs.{is_of, is_subject, is_refused_by}

-- ---- order

-- whether it is of an earlier event, or of this event and a lower binding
abbrev pub is_before : ℕ → ℕ → Sight → Bool
is_before event binding s = nat_lt s.event event || ((s.event == event) && nat_lt s.binding binding)

-- by event and then by binding, so that each pair stands there at most once
abbrev pub in_order : List Sight → Bool
in_order [] = true
in_order (s ∷ ss) = list_all (λ t. is_before t.event t.binding s) ss && in_order ss

-- ---- Enters

-- how many of the events are Enters
abbrev pub enters : List Told → ℕ
enters events = count_by (λ t. is_enter t.event.kind) events

-- how many of the events are Enters of node n
abbrev pub enters_of : ℕ → List Told → ℕ
enters_of n events = count_by (λ t. is_enter t.event.kind && (n == t.event.node)) events

-- how many of the events up to this one are Enters
abbrev pub enters_to : ℕ → List Told → ℕ
enters_to event events = count_by (λ t. is_enter t.event.kind && nat_le t.event.number event) events

-- ---- subject events

-- whether the event of this number is a subject event of the binding
abbrev pub is_subject_at : Plan → Program → List Sight → List Told → ℕ → ℕ → Bool
is_subject_at plan p seen events event b = list_any (λ t. (t.event.number == event) && is_subject plan p seen b t) events

-- whether the event of this number is the end of an activation that was given to the binding
abbrev pub is_subject_end_at : Plan → Program → List Sight → List Told → ℕ → ℕ → Bool
is_subject_end_at plan p seen events event b =
    list_any (λ t. (t.event.number == event) && not (is_enter t.event.kind) && is_subject plan p seen b t) events

-- whether the event of this number is the Enter of a node that the binding is about, at which its condition is false
abbrev pub is_refused_at : Plan → Program → List Told → ℕ → ℕ → Bool
is_refused_at plan p events event b =
    list_any (λ t. (t.event.number == event) && is_enter t.event.kind && is_refused_by plan p b t) events

-- ---- passes

-- a pass stands where a binding that is known as disposed meets the end of an activation that was given to it, or where a condition is
-- false; and it stands after as many loads of nodes as there are Enters up to there
abbrev pub is_due_pass : Plan → Program → List Sight → List Told → Passed → Bool
is_due_pass plan p seen events x =
    (if x.disposed then is_subject_end_at plan p seen events x.event x.binding else is_refused_at plan p events x.event x.binding)
    && (x.before == enters_to x.event events)

-- whether it is a pass of the binding at the event, as one that is known as disposed
abbrev pub is_pass_of : ℕ → ℕ → Passed → Bool
is_pass_of event b x = (x.event == event) && (x.binding == b) && x.disposed

-- whether there is something seen of the binding at the event, or such a pass
abbrev pub is_met : List Sight → List Passed → ℕ → ℕ → Bool
is_met seen passes event b = list_any (is_of event b) seen || list_any (is_pass_of event b) passes

-- where the event is the end of an activation that was given to the binding, something is seen of the binding there, or a pass
abbrev pub is_end_met : Plan → Program → List Sight → List Passed → ℕ → Told → Bool
is_end_met plan p seen passed b t =
    is_enter t.event.kind || not (is_subject plan p seen b t) || is_met seen passed t.event.number b

-- what was seen at these events, each after so many loads of nodes, and what was passed; and how often each node was loaded
pub record IsSeen (plan : Plan) (p : Program) (events : List Told) (seen : List Sight) (sight_loads : List ℕ) (passed : List Passed) (loaded : ℕ → ℕ) : Type 0 where
  pub order : in_order seen ≡ true
  pub subjects : list_all (λ s. is_subject_at plan p seen events s.event s.binding) seen ≡ true
  -- a node is loaded once at each of its Enters, and what is seen at an event comes after the loads up to there
  pub loads : (n : ℕ) → loaded n ≡ enters_of n events
  pub loads_before : sight_loads ≡ map (λ s. enters_to s.event events) seen
  pub passes : list_all (is_due_pass plan p seen events) passed ≡ true
