-- For proofs above: no public contract needs it.
-- From the record of a context to what its seat brings back.
use Rattle.std.specs.Prelude.{◌≡◌, ℕ, ◌==◌, true, false, List, [], ◌∷◌, map, filter, flat_map, length}
use Rattle.pd_tree.specs.Program.{Program}
use Rattle.pd_machine.specs.Events.{Told}
use Rattle.pd_plan.specs.declared.plan.Plan.{Plan}
use Rattle.pd_board.specs.declared.answers.ActResult.{ActResult}
use Rattle.pd_board.specs.declared.answers.Sight.{Sight}
use Rattle.pd_board.specs.Standing.{Standing}
use Rattle.pd_suspend.specs.declared.suspension.Suspension.{Suspension}
use Rattle.pd_suspend.specs.declared.context.ContextRecord.{ContextRecord}
use Rattle.pd_suspend.specs.Stops.{Setting, stops_of}
use Rattle.pd_suspend.specs.Laws.{AreNumbered}
use Rattle.pd_suspend.specs.Answers.{acts_of}
use Rattle.pd_record.specs.Record.{IsObserved, IsStopped, IsReplied}
use Rattle.pd_record.specs.Replies.{Owed, of_act, of_hit, owed_at}
use Rattle.pd_shared.specs.declared.token.Token.{Token}
use Rattle.pd_shared.specs.Sitting.{Sitting, standing_of}
use Rattle.pd_run.specs.Part.{part_of}
use Rattle.pd_run.specs.Hands.{Deed, ContextHand, IsContext}

-- what the answers of a context's board grow by, each with the number of its event
abbrev pub owed_told : Plan → List Sight → List Suspension → List Told → List (ℕ × Owed)
owed_told plan seen stops events = flat_map (λ t. map (λ o. (t.event.number, o)) (owed_at plan seen stops t.event.number)) events

-- an answer that stands for what the board owed at an event
abbrev pub deed_for : ℕ → Owed → ActResult → Deed
deed_for e (of_act r) x = record { event = e; own = false; reply = x }
deed_for e (of_hit b) x = record { event = e; own = true; reply = x }

-- the answers one by one, in order
abbrev pub deeds_for : List (ℕ × Owed) → List ActResult → List Deed
deeds_for (o ∷ os) (x ∷ xs) = deed_for o.0 o.1 x ∷ deeds_for os xs
deeds_for _ _ = []

-- the acts stand by event
abbrev pub AreByEvent : List Told → List Suspension → Type 0
AreByEvent events stops = acts_of stops ≡ flat_map (λ t. filter (λ a. a.0 == t.event.number) (acts_of stops)) events

-- what a context brings back whose record is r, where its board's answers grew by these
abbrev pub hand_of : List ActResult → Plan → Program → List Told → Token → ContextRecord → ContextHand
hand_of grown plan p events token r = record { token = token; part = part_of plan p events r; deeds = deeds_for (owed_told plan r.seen r.stops events) grown }

-- a record that meets the contract of a context, over the seat at which it ran, is such a hand
abbrev pub RecordsAreHands : Type 0
RecordsAreHands = (plan : Plan) (p : Program) (context : ℕ) (events : List Told) (start : Standing) (s : Sitting) (r : ContextRecord) (o : IsObserved plan p context start (standing_of s) events r)
    (q : IsStopped plan p context start (standing_of s) events r) (a : IsReplied plan start (standing_of s) events r) → AreByEvent events r.stops → start.replies ≡ [] → ((t : ℕ) → start.numbers t ≡ [])
    → IsContext (length plan.bindings) plan start.known (hand_of a.grown plan p events s.token r)

-- the suspensions at events that are numbered have their acts by event
abbrev pub StopsAreByEvent : Type 0
StopsAreByEvent = (q : Setting) (events : List Told) (stops : List Suspension) → AreNumbered events → stops ≡ stops_of q events → AreByEvent events stops
