-- Definition, for the laws on a record that grows (Laws) and for the proofs of code; what a record is needs none of it.
-- How far an event was served: the bindings that are left stand as before it, and all others as after it.
use Rattle.std.specs.Prelude.{◌≡◌, ℕ, ◌≤◌, ◌==◌, ◌&&◌, ◌||◌, Bool, true, false, not, nat_lt, List, [], ◌∷◌, ◌++◌, slice_index_or, filter, if◌then◌else◌, Option, Some, None}
use Rattle.std.specs.List.{list_all, list_any, filter_map}
use Rattle.std.specs.Option.{option_to_list, option_map}
use Rattle.pd_machine.specs.Events.{Told}
use Rattle.pd_log.specs.declared.Entry.{Entry}
use Rattle.pd_tree.specs.Program.{Program}
use Rattle.pd_plan.specs.declared.plan.Plan.{Plan}
use Rattle.pd_board.specs.declared.answers.ActResult.{ActResult}
use Rattle.pd_board.specs.declared.answers.Known.{Known}
use Rattle.pd_board.specs.declared.answers.Known.TheVariants.{Fresh}
use Rattle.pd_board.specs.Answers.{is_attach}
use Rattle.pd_board.specs.declared.answers.Drawn.{Drawn}
use Rattle.pd_board.specs.declared.answers.Sight.{Sight}
use Rattle.pd_board.specs.Standing.{Standing}
use Rattle.pd_suspend.specs.Steps.{is_enter}
use Rattle.pd_break.specs.Hits.{is_observer}
use Rattle.pd_record.specs.Logs.{has_binding, place_of, is_on, is_subject, entry_of}
use Rattle.pd_record.specs.Seen.{is_before, enters, IsSeen}
use Rattle.pd_record.specs.Served.{IsServed}
use Rattle.pd_record.specs.Step.{is_below}
use Rattle.pd_record.specs.Turning.{is_earlier}

-- the log of binding b
abbrev pub log_at : List (List Entry) → ℕ → List Entry
log_at logs b = slice_index_or logs b []

-- an Enter, or the end of an activation that was entered before n
abbrev pub is_opened_below : ℕ → Told → Bool
is_opened_below n t = is_enter t.event.kind || nat_lt t.event.opened n

-- each binding was served at each of these events, which are below n
pub record IsCurrent (plan : Plan) (p : Program) (context : ℕ) (start : ℕ → Known) (n : ℕ) (ts : List Told) (done : List (ℕ × ActResult)) (s : Standing) (logs : List (List Entry)) : Type 0 where
  pub seen : IsSeen plan p ts s.sights s.sight_loads s.passes s.loads
  pub all : s.all_loads ≡ enters ts
  pub served : (b : ℕ) → IsServed plan p context (start b) s (log_at logs b) ts done b
  pub below : list_all (is_below n) ts ≡ true
  -- the acts were done at these events, and of a binding that one of them attached something is known
  pub acts_below : list_all (is_earlier n) done ≡ true
  pub tried : (b : ℕ) → list_any (λ a. is_attach b a.1) done ≡ true → s.known b ≡ Fresh → ⊥

-- the event t after these is served but for the bindings that are left
pub record IsServing (plan : Plan) (p : Program) (context : ℕ) (start : ℕ → Known) (ts : List Told) (t : Told) (done : List (ℕ × ActResult)) (left : ℕ → Bool) (s : Standing) (logs : List (List Entry)) : Type 0 where
  pub seen : IsSeen plan p (ts ++ t ∷ []) s.sights s.sight_loads s.passes s.loads
  pub all : s.all_loads ≡ enters (ts ++ t ∷ [])
  pub served : (b : ℕ) → left b ≡ false → IsServed plan p context (start b) s (log_at logs b) (ts ++ t ∷ []) done b
  pub todo : (b : ℕ) → left b ≡ true → IsServed plan p context (start b) s (log_at logs b) ts done b
  pub ahead : (b : ℕ) → left b ≡ true → list_all (is_before t.event.number b) s.sights ≡ true
  pub subject : (b : ℕ) → left b ≡ true → is_subject plan p s.sights b t ≡ true
  pub below : list_all (is_below t.event.number) ts ≡ true
  pub acts_below : list_all (is_earlier t.event.number) done ≡ true
  pub tried : (b : ℕ) → list_any (λ a. is_attach b a.1) done ≡ true → s.known b ≡ Fresh → ⊥
  pub opened : is_opened_below t.event.number t ≡ true

-- those that are left but for b
abbrev pub without : ℕ → (ℕ → Bool) → ℕ → Bool
without b left c = not (c == b) && left c

-- b is left, and none below it
pub record IsNext (b : ℕ) (left : ℕ → Bool) : Type 0 where
  pub left_is : left b ≡ true
  pub least : (c : ℕ) → left c ≡ true → b ≤ c

-- the logs with what an answer of b at an event adds
pub record IsLogged (context : ℕ) (t : Told) (b : ℕ) (d : Drawn) (old new : List (List Entry)) : Type 0 where
  pub here : log_at new b ≡ log_at old b ++ option_to_list (option_map (entry_of context t.event) (place_of d))
  pub others : (c : ℕ) → (c == b) ≡ false → log_at new c ≡ log_at old c

-- ---- the bindings that an activation was given to

-- the binding that a draw at this event gave an entry
abbrev pub on_at : ℕ → Sight → Option ℕ
on_at event s = if (s.event == event) && is_on s.drawn then Some s.binding else None

-- the bindings that an event was given to, in the order of `seen`
abbrev pub ons_at : List Sight → ℕ → List ℕ
ons_at seen event = filter_map (on_at event) seen

-- whether a binding of the plan is an observer
abbrev pub is_observed : Plan → ℕ → Bool
is_observed plan b = has_binding plan b is_observer

-- the observers that an event was given to, in the order of `seen`
abbrev pub observers_at : Plan → List Sight → ℕ → List ℕ
observers_at plan seen event = filter (is_observed plan) (ons_at seen event)

-- whether a number stands in a list
abbrev pub is_in : List ℕ → ℕ → Bool
is_in bs b = list_any (λ x. x == b) bs
