-- Definition: what a context adds to the answers of its board and of who answers its suspensions.
use Rattle.std.specs.Prelude.{◌≡◌, ⊤, ℕ, Bool, true, ◌==◌, ◌&&◌, if◌then◌else◌, List, [], ◌∷◌, ◌++◌, map, filter, Option, None, Some}
use Rattle.std.specs.List.{filter_map, flat_map}
use Rattle.pd_machine.specs.Events.{Told}
use Rattle.pd_plan.specs.declared.plan.Answer.{Answer}
use Rattle.pd_plan.specs.declared.plan.Plan.{Plan}
use Rattle.pd_board.specs.declared.answers.ActResult.{ActResult}
use Rattle.pd_board.specs.declared.answers.Sight.{Sight}
use Rattle.pd_board.specs.Answers.{is_dispose}
use Rattle.pd_suspend.specs.declared.suspension.Suspension.{Suspension}
use Rattle.pd_suspend.specs.Answers.{as_handed, acts_of, Carries}
use Rattle.pd_record.specs.Acts.{uses_up}

-- ---- the answers of the board

-- the binding that is used up by what was seen, if it was seen at this event
abbrev pub used_up_by : Plan → ℕ → Sight → Option ℕ
used_up_by plan e s = if (s.event == e) && uses_up plan s.binding s.drawn then Some s.binding else None

-- what the board's answers grow by: the answer of an act, or that of the disposal of a binding that was used up, which isn't in the record
pub data Owed : Type 0 where
  of_act : ActResult → Owed
  of_hit : ℕ → Owed

-- what an event adds: the disposal of each binding that is used up there, and then what the acts of the event's suspensions were answered
abbrev pub owed_at : Plan → List Sight → List Suspension → ℕ → List Owed
owed_at plan seen stops e =
    map of_hit (filter_map (used_up_by plan e) seen)
    ++ map (λ a. of_act a.1) (filter (λ a. a.0 == e) (acts_of stops))

-- what all events add, in order
abbrev pub owed_of : Plan → List Sight → List Suspension → List Told → List Owed
owed_of plan seen stops events = flat_map (λ t. owed_at plan seen stops t.event.number) events

-- whether an answer is this one: that of the act, or any of a dispose of the binding
abbrev pub IsFor : Owed → ActResult → Type 0
IsFor (of_act r) x = x ≡ r
IsFor (of_hit b) x = is_dispose b x ≡ true

-- the answers are one for each of these, in order
abbrev pub AreFor : List Owed → List ActResult → Type 0
AreFor [] [] = ⊤
AreFor (o ∷ os) (x ∷ xs) = IsFor o x × AreFor os xs
AreFor [] (x ∷ xs) = ⊥
AreFor (o ∷ os) [] = ⊥

-- the answers of the board were `start`, and grew by one for each of these
pub record HasGrownBy (owed : List Owed) (start now : List ActResult) : Type 0 where
  pub grown : List ActResult
  pub replies : now ≡ start ++ grown
  pub each : AreFor owed grown

-- ---- the answers to suspensions

-- the answer to a suspension is one that may be given, and the suspension has it
pub record IsGiven (admits : Suspension → Answer → Type 0) (x : Suspension) (a : Answer) : Type 0 where
  pub admitted : admits (as_handed x) a
  pub has : Carries x a

-- these are the answers to these suspensions, in order
pub data AreGiven (admits : Suspension → Answer → Type 0) : List Suspension → List Answer → Type 0 where
  none : AreGiven admits [] []
  more : {x : Suspension} {xs : List Suspension} {a : Answer} {rest : List Answer} → IsGiven admits x a → AreGiven admits xs rest → AreGiven admits (x ∷ xs) (a ∷ rest)

-- the suspensions of the sessions that pass the test, each as it was handed, with its answer
abbrev pub kept_of : (ℕ → Bool) → List Suspension → List Answer → List (Suspension × Answer)
kept_of keeps (x ∷ xs) (a ∷ rest) = if keeps x.session then (as_handed x, a) ∷ kept_of keeps xs rest else kept_of keeps xs rest
kept_of keeps _ _ = []
