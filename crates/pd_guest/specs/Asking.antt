-- For the code's proofs: no public contract needs it.
-- What a context keeps of its sessions, between its events and while it asks at one.
use Rattle.std.specs.Prelude.{◌≡◌, ℕ, suc, ◌≤◌, ◌<◌, ◌+◌, ◌-◌, ◌*◌, ◌^◌, ◌==◌, ◌&&◌, Bool, true, false, nat_lt, if◌then◌else◌, List, [], ◌∷◌, ◌++◌, length, take, drop, map, slice_index_or, slice_set, Option, None, Some}
use Rattle.std.specs.List.{All, list_all, range_with_len}
use Rattle.pd_tree.specs.Program.{Program}
use Rattle.pd_machine.specs.Events.{Told}
use Rattle.pd_machine.specs.declared.event.Verdict.{Verdict}
use Rattle.pd_machine.specs.declared.event.Verdict.TheVariants as verdicts
use Rattle.pd_machine.specs.declared.event.Verdict.TheVariants.{Go}
use Rattle.pd_plan.specs.declared.plan.Resume.{Resume}
use Rattle.pd_plan.specs.declared.plan.Resume.TheVariants as resumes
use Rattle.pd_eval.specs.Watching.{GivesNoFunction}
use Rattle.pd_values.specs.declared.value.Tag.TheVariants.{AlwaysHalt}
use Rattle.pd_tree.specs.Program.{node_at, has_tag}
use Rattle.pd_guest.specs.declared.reasons.Place.{Place}
use Rattle.pd_suspend.specs.Steps.{is_enter, stands_before, stands_after}
use Rattle.pd_plan.specs.declared.plan.Plan.{Plan}
use Rattle.pd_plan.specs.declared.plan.Answer.{Answer}
use Rattle.pd_board.specs.declared.answers.ActResult.{ActResult}
use Rattle.pd_board.specs.Standing.{Standing}
use Rattle.pd_suspend.specs.declared.stepper.Stepper.{Stepper}
use Rattle.pd_suspend.specs.declared.suspension.Reason.{Reason}
use Rattle.pd_suspend.specs.declared.suspension.Suspension.{Suspension}
use Rattle.pd_suspend.specs.Steps.{Armed, step_of}
use Rattle.pd_suspend.specs.Counters.{idle, armed, armed_by, moved_by, stepper_of}
use Rattle.pd_suspend.specs.Laws.{AreNumbered}
use Rattle.pd_suspend.specs.Stops.{step_in, views_of, anchor_of}
use Rattle.pd_suspend.specs.Answers.{acts_of, numbers_in, as_handed}
use Rattle.pd_record.specs.Life.{rises}
use Rattle.pd_record.specs.Stopping.{IsStoppedTo, IsStoppingAt}
use Rattle.pd_guest.specs.declared.serving.Progress.{Progress}
use Rattle.pd_guest.specs.declared.serving.Opened.{Opened}
use Rattle.pd_guest.specs.declared.deliver.Deliveries.{Deliveries}
use Rattle.pd_board.specs.declared.answers.Known.{Known}
use Rattle.pd_guest.specs.Moment.{At}
use Rattle.pd_guest.specs.Keeping.{IsKeptAt, start_of}
use Rattle.pd_record.specs.Replies.{owed_of, HasGrownBy}
use Rattle.pd_guest.specs.Replying.{answer_of}

-- whether the run goes on as it is
abbrev pub is_go : Verdict → Bool
is_go Go = true
is_go _ = false

-- the stepper of a session was armed for this step, or for none, and has seen the events since
pub record IsStepped (p : Program) (past : List Told) (o : Option Armed) (s : Stepper) : Type 0 where
  pub free : o ≡ None → s.step ≡ None
  pub bound : (a : Armed) → o ≡ Some a → (a.event < length past) × (s ≡ stepper_of (moved_by p (armed a.step a.depth) (drop (suc a.event) past)))

abbrev pub stepper_at : Progress → ℕ → Stepper
stepper_at h x = slice_index_or h.steppers.items x idle

-- what is kept of the sessions between events
pub record IsKept (plan : Plan) (p : Program) (s : Standing) (h : Progress) : Type 0 where
  pub at_next : IsKeptAt plan p (start_of h.start.known) (length h.history.events) h.history.events (acts_of h.stops.items) s h.opens.items h.kept
  pub context : h.kept.context ≡ h.context
  pub numbered : AreNumbered h.history.events
  pub stopped : IsStoppedTo plan p h.context (length h.history.events) h.history.events s.sights h.stops.items
  pub steppers : length h.steppers.items ≡ length plan.sessions
  pub stepped : (x : ℕ) → x < length plan.sessions → IsStepped p h.history.events (step_in x h.stops.items) (stepper_at h x)
  pub sessions : s.sessions ≡ length plan.sessions
  pub few_sessions : length plan.sessions ≤ 16
  pub few_stops : length h.stops.items ≤ 16 * (length h.history.events)
  pub shares : (x : ℕ) → x < s.sessions → 2 ^ 26 ≤ s.answer_share x + (length h.history.events)
  pub numbers : (x : ℕ) → s.numbers x ≡ numbers_in x h.stops.items
  pub rising : (x : ℕ) → rises (numbers_in x h.stops.items) ≡ true
  pub replied : HasGrownBy (owed_of plan s.sights h.stops.items h.history.events) h.start.replies s.replies

-- those sessions that are still to be asked, from this number on, where the run goes on as it is
abbrev pub left_of : Plan → ℕ → Bool → List ℕ
left_of plan i goes = if goes then range_with_len i (length plan.sessions - i) else []

-- an event was served, and the sessions below this number were asked; what was seen from number `first` on was seen at the event
pub record IsAsking (m : At) (first i : ℕ) (goes : Bool) (s : Standing) (h : Progress) : Type 0 where
  pub at_next : IsKeptAt m.plan m.program (start_of h.start.known) ((length h.history.events) + 1) (h.history.events ++ m.told ∷ []) (acts_of h.stops.items) s h.opens.items h.kept
  pub context : h.kept.context ≡ h.context
  pub number : m.told.event.number ≡ (length h.history.events)
  pub few : (length h.history.events) < 2 ^ 25
  pub numbered : AreNumbered h.history.events
  pub past : list_all (λ u. nat_lt u.event.number (length h.history.events)) h.history.events ≡ true
  pub earlier : list_all (λ x. nat_lt x.event (length h.history.events)) (take first h.kept.seen.items) ≡ true
  pub now : list_all (λ x. x.event == (length h.history.events)) (drop first h.kept.seen.items) ≡ true
  pub within : first ≤ length h.kept.seen.items
  pub stopping : IsStoppingAt m.plan m.program h.context h.history.events m.told (left_of m.plan i goes) s.sights h.stops.items
  pub steppers : length h.steppers.items ≡ length m.plan.sessions
  pub waiting : (x : ℕ) → i ≤ x → x < length m.plan.sessions → IsStepped m.program h.history.events (step_in x h.stops.items) (stepper_at h x)
  pub moved : (x : ℕ) → x < i → IsStepped m.program (h.history.events ++ m.told ∷ []) (step_in x h.stops.items) (stepper_at h x)
  pub sessions : s.sessions ≡ length m.plan.sessions
  pub few_sessions : length m.plan.sessions ≤ 16
  pub few_stops : length h.stops.items ≤ 16 * (length h.history.events) + i
  pub unasked : (x : ℕ) → i ≤ x → x < s.sessions → 2 ^ 26 ≤ s.answer_share x + (length h.history.events)
  pub shares : (x : ℕ) → x < s.sessions → 2 ^ 26 ≤ s.answer_share x + ((length h.history.events) + 1)
  pub numbers : (x : ℕ) → s.numbers x ≡ numbers_in x h.stops.items
  pub rising : (x : ℕ) → rises (numbers_in x h.stops.items) ≡ true
  pub replied : HasGrownBy (owed_of m.plan s.sights h.stops.items (h.history.events ++ m.told ∷ [])) h.start.replies s.replies

-- a session was asked at an event for these reasons, and its suspension is x
pub record IsAsked (m : At) (session : ℕ) (reasons : List Reason) (old new : Standing) (before after : Progress) (x : Suspension) : Type 0 where
  pub shown : x ≡ record {
    context = before.context;
    session = session;
    number = length before.stops.items;
    event = m.told.event.number;
    anchor = anchor_of m.told.event.kind;
    node = m.told.event.node;
    reasons = reasons;
    frames = views_of m.program m.told.scene;
    answer = x.answer;
    acts = x.acts;
    resume = x.resume;
  }
  pub stops : after.stops.items ≡ before.stops.items ++ x ∷ []
  pub steppers : after.steppers.items ≡ slice_set before.steppers.items session (armed_by (step_of x.resume) (length m.told.scene.frames))
  pub above : All (λ n. n < x.answer) (old.numbers session)
  pub numbers : new.numbers session ≡ old.numbers session ++ x.answer ∷ []
  pub others : (y : ℕ) → (y == session) ≡ false → new.numbers y ≡ old.numbers y
  pub share : (y : ℕ) → new.answer_share y + (if y == session then 1 else 0) ≡ old.answer_share y
  pub kept : (plan : Plan) (p : Program) (start : ℕ → Known) (n : ℕ) (ts : List Told) (done : List (ℕ × ActResult)) (opens : List Opened) (kept : Deliveries)
      → IsKeptAt plan p start (n + 1) ts done old opens kept
      → IsKeptAt plan p start (n + 1) ts (done ++ map (λ r. (n, r)) x.acts) new opens kept
  pub replies : new.replies ≡ old.replies ++ x.acts
  pub same : new ≡ record old { replies = new.replies; known = new.known; numbers = new.numbers; answer_share = new.answer_share; spare = new.spare }

-- ---- one answer

-- what a run is told by an answer
abbrev pub verdict_by : Resume → Verdict
verdict_by (resumes.Reenter k) = verdicts.Reenter k
verdict_by (resumes.Return k a) = verdicts.Return k a
verdict_by resumes.Kill = verdicts.Kill
verdict_by _ = Go

-- no function is given
abbrev pub HasNoFunction : Resume → Type 0
HasNoFunction r = GivesNoFunction (verdict_by r)

-- what an event is to all sessions
pub record IsPlaceOf (m : At) (place : Place) : Type 0 where
  pub before : place.before ≡ stands_before m.program m.told.event
  pub after : place.after ≡ stands_after m.program m.told.event
  pub halts : place.halts ≡ (is_enter m.told.event.kind && has_tag (node_at m.program m.told.event.node).tags AlwaysHalt)

-- the answer to a suspension is one that may be given, and the answerer has kept it where it keeps those of the session
pub record IsGivenBy (admits : Suspension → Answer → Type 0) (keeps : ℕ → Bool) (old new : List (Suspension × Answer)) (x : Suspension) : Type 0 where
  pub admitted : admits (as_handed x) (answer_of x)
  pub kept : new ≡ (if keeps x.session then old ++ (as_handed x, answer_of x) ∷ [] else old)
