-- Definition: what a context was answered by a binding at its events, and the binding's log.
-- A binding is given the Enters of the nodes that it is about, a breakpoint with a condition only those at which the condition isn't false.
-- An observer is given besides the ends of the activations whose Enter it was given.
use Rattle.std.specs.Prelude.{ℕ, ◌==◌, ◌&&◌, Bool, true, false, not, if◌then◌else◌, List, [], ◌∷◌, map, filter, slice_get, Option, None, Some}
use Rattle.std.specs.List.{filter_map}
use Rattle.std.specs.Option.{option_map}
use Rattle.pd_machine.specs.declared.event.Event.{Event}
use Rattle.pd_machine.specs.Events.{Told}
use Rattle.pd_tree.specs.Program.{Program}
use Rattle.pd_plan.specs.declared.plan.BindingSpec.{BindingSpec}
use Rattle.pd_plan.specs.declared.plan.Plan.{Plan}
use Rattle.pd_filter.specs.Matching.{is_about}
use Rattle.pd_break.specs.Hits.{is_observer}
use Rattle.pd_condition.specs.Truths.{truth_for, is_false}
use Rattle.pd_board.specs.declared.answers.Drawn.{Drawn}
use Rattle.pd_board.specs.declared.answers.Drawn.TheVariants.{On, Off}
use Rattle.pd_board.specs.declared.answers.Sight.{Sight}
pub use Rattle.pd_board.specs.OnContext.{is_off, is_number}
pub use Rattle.pd_board.specs.Kept.{place_of}
use Rattle.pd_log.specs.declared.Entry.{Entry}
use Rattle.pd_suspend.specs.Steps.{is_enter}

-- ---- answers

-- whether it is what was seen of this binding at this event
abbrev pub is_of : ℕ → ℕ → Sight → Bool
is_of event binding s = (s.event == event) && (s.binding == binding)

-- what was answered by a binding at an event: what was seen of it there, and Off where nothing was
abbrev pub answer_at : List Sight → ℕ → ℕ → Drawn
answer_at [] event binding = Off
answer_at (s ∷ ss) event binding = if is_of event binding s then s.drawn else answer_at ss event binding

-- whether a draw gave an entry
abbrev pub is_on : Drawn → Bool
is_on (On p) = true
is_on _ = false

-- ---- subject events

-- whether there is something that passes the test
abbrev pub some_and : {A : Type 0} → Option A → (A → Bool) → Bool
some_and None test = false
some_and (Some x) test = test x

-- whether the plan has a binding of this number that passes the test
abbrev pub has_binding : Plan → ℕ → (BindingSpec → Bool) → Bool
has_binding plan b test = some_and (slice_get plan.bindings b) test

-- whether the binding is about the node of an event, and its condition, if it has one, isn't false there
abbrev pub is_met_by : Plan → Program → ℕ → Told → Bool
is_met_by plan p b t = has_binding plan b (λ x. is_about p x t.event.node && not (is_false (truth_for x p t.scene)))

-- whether the binding is about the node of an event, and its condition is false there
abbrev pub is_refused_by : Plan → Program → ℕ → Told → Bool
is_refused_by plan p b t = has_binding plan b (λ x. is_about p x t.event.node && is_false (truth_for x p t.scene))

-- whether an event is one that the binding may be given: an Enter as said, or for an observer the end of an activation whose Enter was
-- given to it
abbrev pub is_subject : Plan → Program → List Sight → ℕ → Told → Bool
is_subject plan p seen b t =
    if is_enter t.event.kind then is_met_by plan p b t else has_binding plan b is_observer && is_on (answer_at seen t.event.opened b)

-- the events that the binding is about, in order
abbrev pub subject_events : Plan → Program → List Sight → List Told → ℕ → List Told
subject_events plan p seen events b = filter (is_subject plan p seen b) events

-- the answers of a binding at its subject events, in order, each with the number of its event
abbrev pub moments_of : Plan → Program → List Sight → List Told → ℕ → List (ℕ × Drawn)
moments_of plan p seen events b = map (λ t. (t.event.number, answer_at seen t.event.number b)) (subject_events plan p seen events b)

-- the answers of a binding at its subject events, in order
abbrev pub answers_of : Plan → Program → List Sight → List Told → ℕ → List Drawn
answers_of plan p seen events b = map (λ t. answer_at seen t.event.number b) (subject_events plan p seen events b)

-- ---- logs

-- the entry of an event in a log, at this place
abbrev pub entry_of : ℕ → Event → ℕ → Entry
entry_of context e place = record { context = context; event = e.number; opened = e.opened; place = place; kind = e.kind; node = e.node }

-- the entry of an event, where it was given to the binding
abbrev pub delivery : ℕ → List Sight → ℕ → Told → Option Entry
delivery context seen b t = option_map (entry_of context t.event) (place_of (answer_at seen t.event.number b))

-- the log of a binding: its subject events that were given to it, in order, each once with its place
abbrev pub log_of : ℕ → Plan → Program → List Sight → List Told → ℕ → List Entry
log_of context plan p seen events b = filter_map (delivery context seen b) (subject_events plan p seen events b)
