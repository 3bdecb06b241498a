-- Definition: what holds of a context's record while it grows, as facts that contracts promise: what each call of a board keeps, what each
-- answer to a suspension keeps, and what stands at the end.
use Rattle.std.specs.Prelude.{◌≡◌, ℕ, suc, ◌<◌, Bool, true, false, ◌&&◌, nat_lt, List, [], ◌∷◌, ◌++◌, length}
use Rattle.std.specs.List.{list_all, filter_map}
use Rattle.pd_tree.specs.Program.{Program, node_at, has_tag}
use Rattle.pd_values.specs.declared.value.Tag.TheVariants.{AlwaysHalt}
use Rattle.pd_machine.specs.Events.{Told}
use Rattle.pd_plan.specs.declared.plan.Plan.{Plan}
use Rattle.pd_log.specs.declared.Entry.{Entry}
use Rattle.pd_filter.specs.Matching.{is_about, table_of}
use Rattle.pd_break.specs.Hits.{is_observer}
use Rattle.pd_board.specs.declared.answers.ActResult.{ActResult}
use Rattle.pd_board.specs.declared.answers.Drawn.{Drawn}
use Rattle.pd_board.specs.declared.answers.Known.{Known}
use Rattle.pd_board.specs.declared.answers.Known.TheVariants.{Fresh, Attached, Disposed}
use Rattle.pd_board.specs.declared.answers.Sight.{Sight}
use Rattle.pd_board.specs.Answers.{is_attach}
use Rattle.pd_board.specs.OnContext.{IsLifeOn}
use Rattle.pd_board.specs.Standing.{Standing, in_row}
use Rattle.pd_suspend.specs.declared.context.ContextRecord.{ContextRecord}
use Rattle.pd_suspend.specs.declared.suspension.Reason.{Reason}
use Rattle.pd_suspend.specs.declared.suspension.Reason.TheVariants.{Step, Halt}
use Rattle.pd_suspend.specs.declared.suspension.Suspension.{Suspension}
use Rattle.pd_suspend.specs.Steps.{is_enter}
use Rattle.pd_suspend.specs.Stops.{Answered, is_over, step_in, where_so, is_verdict, stops_of, sessions_of}
use Rattle.pd_suspend.specs.Answers.{acts_of}
use Rattle.pd_record.specs.Logs.{answer_at, is_on, has_binding, is_met_by, is_refused_by, moments_of}
use Rattle.pd_record.specs.Life.{numbers_of}
use Rattle.pd_record.specs.Acts.{uses_up}
use Rattle.pd_record.specs.Seen.{in_order}
use Rattle.pd_record.specs.Served.{IsServed}
use Rattle.pd_record.specs.Record.{IsObserved, setting_of}
use Rattle.pd_record.specs.Step.{IsDrawn, IsPassed, IsRefused, IsQuiet, IsLoaded, IsActStep}
use Rattle.pd_record.specs.Serving.{IsCurrent, IsServing, IsNext, IsLogged, without}
use Rattle.pd_record.specs.Stopping.{IsStoppedTo, IsStoppingAt, reasons_by, stop_by, hit_in, are_at}

-- ---- a context of a plan, what its board knew of each binding at first, and its events before one, with the acts of its answers so far

module _ (plan : Plan) (p : Program) (context : ℕ) (start : ℕ → Known) (ts : List Told) (done : List (ℕ × ActResult)) where
  -- at an Enter the bindings that the load held, and whose condition isn't false, are to be served, and no others
  abbrev pub EnterBegins : Type 0
  EnterBegins = (t : Told) (has : ℕ → Bool) (old new : Standing) (logs : List (List Entry))
      → is_enter t.event.kind ≡ true
      → ((b : ℕ) → in_row old.table b t.event.node ≡ has_binding plan b (λ x. is_about p x t.event.node))
      → IsLoaded t.event.node has old new
      → IsCurrent plan p context start t.event.number ts done old logs → IsServing plan p context start ts t done (λ b. has b && is_met_by plan p b t) new logs

  -- at the end of an activation the observers that it was given to are
  abbrev pub EndBegins : Type 0
  EndBegins = (t : Told) (s : Standing) (logs : List (List Entry))
      → is_enter t.event.kind ≡ false → t.event.opened < t.event.number
      → IsCurrent plan p context start t.event.number ts done s logs
      → IsServing plan p context start ts t done (λ b. has_binding plan b is_observer && is_on (answer_at s.sights t.event.opened b)) s logs

  -- a draw serves the next of them, with the entry that it gives
  abbrev pub DrawServes : Type 0
  DrawServes = (t : Told) (left : ℕ → Bool) (old new : Standing) (logs newer : List (List Entry)) (b : ℕ) (d : Drawn)
      → IsServing plan p context start ts t done left old logs → IsNext b left → IsLogged context t b d logs newer
      → IsDrawn plan done t.event.number b d old new → IsServing plan p context start ts t done (without b left) new newer

  -- at an end, of one that is known as disposed, a pass does
  abbrev pub PassServes : Type 0
  PassServes = (t : Told) (left : ℕ → Bool) (old new : Standing) (logs : List (List Entry)) (b : ℕ)
      → IsServing plan p context start ts t done left old logs → IsNext b left → old.known b ≡ Disposed
      → is_enter t.event.kind ≡ false → IsPassed t.event.number b old new → IsServing plan p context start ts t done (without b left) new logs

  -- at an Enter a sweep does
  abbrev pub SweepServes : Type 0
  SweepServes = (t : Told) (left : ℕ → Bool) (old new : Standing) (logs : List (List Entry)) (b : ℕ)
      → IsServing plan p context start ts t done left old logs → IsNext b left → old.known b ≡ Disposed
      → is_enter t.event.kind ≡ true → IsQuiet old new → IsServing plan p context start ts t done (without b left) new logs

  -- a pass of a binding whose condition is false keeps what is left
  abbrev pub RefusalKeeps : Type 0
  RefusalKeeps = (t : Told) (left : ℕ → Bool) (old new : Standing) (logs : List (List Entry)) (b : ℕ)
      → is_enter t.event.kind ≡ true → is_refused_by plan p b t ≡ true → IsRefused t.event.number b old new
      → IsServing plan p context start ts t done left old logs → IsServing plan p context start ts t done left new logs

  -- where none is left, the event is served like those before it
  abbrev pub EventIsServed : Type 0
  EventIsServed = (t : Told) (left : ℕ → Bool) (s : Standing) (logs : List (List Entry)) (n : ℕ)
      → ((b : ℕ) → left b ≡ false) → t.event.number < n → t.event.opened < n
      → IsServing plan p context start ts t done left s logs → IsCurrent plan p context start n (ts ++ t ∷ []) done s logs

  -- an act at the last event keeps them served, and is one more
  abbrev pub ActKeeps : Type 0
  ActKeeps = (n : ℕ) (r : ActResult) (old new : Standing) (logs : List (List Entry))
      → IsActStep plan p ts done r old new → ((b : ℕ) → is_attach b r ≡ true → new.known b ≡ Fresh → ⊥)
      → IsCurrent plan p context start (suc n) ts done old logs → IsCurrent plan p context start (suc n) ts (done ++ (n, r) ∷ []) new logs

  -- and so does what only makes room, or takes an answer's number
  abbrev pub QuietKeeps : Type 0
  QuietKeeps = (n : ℕ) (old new : Standing) (logs : List (List Entry))
      → IsCurrent plan p context start n ts done old logs → IsQuiet old new → IsCurrent plan p context start n ts done new logs

-- a row of the board's table has the nodes that its binding is about
abbrev pub RowsAre : Type 0
RowsAre = (plan : Plan) (p : Program) (b n : ℕ) → in_row (table_of plan p) b n ≡ has_binding plan b (λ x. is_about p x n)

-- a binding that was served has the life of a binding on one context, for what its board knew at first and knows now
abbrev pub ServedIsLife : Type 0
ServedIsLife = (plan : Plan) (p : Program) (context : ℕ) (start : Known) (s : Standing) (log : List Entry) (events : List Told) (done : List (ℕ × ActResult)) (b : ℕ)
    → IsServed plan p context start s log events done b
    → IsLifeOn (uses_up plan b) (start ≡ Attached) (s.known b ≡ Disposed) b (numbers_of s.sights b) (moments_of plan p s.sights events b) done

-- ---- suspensions

module _ (plan : Plan) (p : Program) (context : ℕ) where
  -- the reasons of a session are its hits among what was seen at the event, the end of its step, and a halt
  abbrev pub ReasonsAreSeen : Type 0
  ReasonsAreSeen = (ts : List Told) (before new : List Sight) (stops : List Suspension) (t : Told) (s : ℕ)
      → list_all (λ x. nat_lt x.event t.event.number) before ≡ true → are_at t.event.number new ≡ true → in_order (before ++ new) ≡ true
      → reasons_by plan p context ts (before ++ new) stops t s
      ≡ filter_map (hit_in plan p s t) new
      ++ where_so (is_over p ts t.event (step_in s stops)) Step
      ++ where_so (is_enter t.event.kind && has_tag (node_at p t.event.node).tags AlwaysHalt) Halt

  -- before the first event there is none
  abbrev pub NoneAtFirst : Type 0
  NoneAtFirst = (seen : List Sight) → IsStoppedTo plan p context 0 [] seen []

  -- an event was served: each session is to be asked
  abbrev pub SessionsBegin : Type 0
  SessionsBegin = (ts : List Told) (t : Told) (n : ℕ) (seen more_seen : List Sight) (stops : List Suspension)
      → t.event.number ≡ n → ((e b : ℕ) → e < n → answer_at more_seen e b ≡ answer_at seen e b)
      → IsStoppedTo plan p context n ts seen stops → IsStoppingAt plan p context ts t (sessions_of plan) more_seen stops

  -- a session without a reason isn't suspended
  abbrev pub SessionRuns : Type 0
  SessionRuns = (ts : List Told) (t : Told) (s : ℕ) (ss : List ℕ) (seen : List Sight) (stops : List Suspension)
      → reasons_by plan p context ts seen stops t s ≡ []
      → IsStoppingAt plan p context ts t (s ∷ ss) seen stops → IsStoppingAt plan p context ts t ss seen stops

  -- a session with reasons is; after an answer without a verdict the next one is asked
  abbrev pub SessionStops : Type 0
  SessionStops = (ts : List Told) (t : Told) (s : ℕ) (ss : List ℕ) (seen : List Sight) (stops : List Suspension) (r : Reason) (rs : List Reason) (given : Answered)
      → reasons_by plan p context ts seen stops t s ≡ r ∷ rs → is_verdict given.resume ≡ false
      → IsStoppingAt plan p context ts t (s ∷ ss) seen stops → IsStoppingAt plan p context ts t ss seen (stops ++ stop_by plan p context seen stops t s (r ∷ rs) given ∷ [])

  -- and after one with a verdict no other is
  abbrev pub SessionEnds : Type 0
  SessionEnds = (ts : List Told) (t : Told) (s : ℕ) (ss : List ℕ) (seen : List Sight) (stops : List Suspension) (r : Reason) (rs : List Reason) (given : Answered)
      → reasons_by plan p context ts seen stops t s ≡ r ∷ rs → is_verdict given.resume ≡ true
      → IsStoppingAt plan p context ts t (s ∷ ss) seen stops → IsStoppingAt plan p context ts t [] seen (stops ++ stop_by plan p context seen stops t s (r ∷ rs) given ∷ [])

  -- all were asked: the suspensions up to this event are known
  abbrev pub SessionsOver : Type 0
  SessionsOver = (ts : List Told) (t : Told) (seen : List Sight) (stops : List Suspension)
      → IsStoppingAt plan p context ts t [] seen stops → IsStoppedTo plan p context (suc t.event.number) (ts ++ t ∷ []) seen stops

  -- after the last event they are those of the record
  abbrev pub StopsAreAll : Type 0
  StopsAreAll = (n : ℕ) (events : List Told) (seen : List Sight) (stops : List Suspension)
      → IsStoppedTo plan p context n events seen stops → stops ≡ stops_of (setting_of plan p context seen stops) events

-- after the last event what was observed is that of the record
abbrev pub ObservedIsAll : Type 0
ObservedIsAll = (plan : Plan) (p : Program) (context n : ℕ) (start now : Standing) (events : List Told) (r : ContextRecord)
    → r.seen ≡ now.sights → length r.logs ≡ length plan.bindings
    → IsCurrent plan p context start.known n events (acts_of r.stops) now r.logs → IsObserved plan p context start now events r

-- ---- of every plan, program, context and run so far

abbrev pub Everywhere : (Plan → Program → ℕ → (ℕ → Known) → List Told → List (ℕ × ActResult) → Type 0) → Type 0
Everywhere Law = (plan : Plan) (p : Program) (context : ℕ) (start : ℕ → Known) (ts : List Told) (done : List (ℕ × ActResult)) → Law plan p context start ts done

abbrev pub OfEachContext : (Plan → Program → ℕ → Type 0) → Type 0
OfEachContext Law = (plan : Plan) (p : Program) (context : ℕ) → Law plan p context
