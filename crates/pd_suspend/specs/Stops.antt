-- Definition: the suspensions of a context: where a session is suspended, and why.
use Rattle.std.specs.Prelude.{ℕ, suc, Bool, false, ◌==◌, ◌&&◌, if◌then◌else◌, List, [], ◌∷◌, ◌++◌, map, length, slice_index_or, is_some, Option, None, Some, unwrap_or}
use Rattle.std.specs.List.{filter_map, range_with_len}
use Rattle.std.specs.Option.{option_map, option_to_list}
use Rattle.pd_values.specs.declared.value.Value.{Value}
use Rattle.pd_values.specs.declared.value.Tag.TheVariants.{AlwaysHalt}
use Rattle.pd_tree.specs.Program.{Program, node_at, has_tag}
use Rattle.pd_machine.specs.declared.event.Event.{Event}
use Rattle.pd_machine.specs.declared.event.EventKind.{EventKind}
use Rattle.pd_machine.specs.declared.event.EventKind.TheVariants as kinds
use Rattle.pd_machine.specs.declared.event.Verdict.{Verdict}
use Rattle.pd_machine.specs.declared.event.Verdict.TheVariants as verdicts
use Rattle.pd_machine.specs.Events.{Told, Scene, frame_of, root_of, at_of}
use Rattle.pd_meaning.specs.Meaning.{Verdicts}
use Rattle.pd_meaning.specs.Seen.{seen_by}
use Rattle.pd_plan.specs.declared.plan.BindingSpec.{BindingSpec}
use Rattle.pd_plan.specs.declared.plan.Resume.{Resume}
use Rattle.pd_plan.specs.declared.plan.Resume.TheVariants.{Continue, Reenter, Return, Kill}
use Rattle.pd_plan.specs.declared.plan.Plan.{Plan}
use Rattle.pd_board.specs.declared.answers.Drawn.{Drawn}
use Rattle.pd_board.specs.declared.answers.Drawn.TheVariants.{On}
use Rattle.pd_board.specs.declared.answers.ActResult.{ActResult}
use Rattle.pd_break.specs.Hits.{is_of_session, suspends_at}
use Rattle.pd_condition.specs.Truths.{truth_for, is_cannot}
use Rattle.pd_suspend.specs.declared.suspension.Anchor.{Anchor}
use Rattle.pd_suspend.specs.declared.suspension.Anchor.TheVariants.{Before, After}
use Rattle.pd_suspend.specs.declared.suspension.Reason.{Reason}
use Rattle.pd_suspend.specs.declared.suspension.Reason.TheVariants.{Hit, Step, Halt}
use Rattle.pd_suspend.specs.declared.suspension.Variable.{Variable}
use Rattle.pd_suspend.specs.declared.suspension.FrameView.{FrameView}
use Rattle.pd_suspend.specs.declared.suspension.Suspension.{Suspension}
use Rattle.pd_suspend.specs.Steps.{Armed, step_of, is_enter, ends_at}

-- ---- what suspensions follow from, besides the events of the context

-- what a suspension was answered: the answer's number among all of its session, what its acts were answered, and how the run goes on
pub record Answered : Type 0 where
  pub answer : ℕ
  pub acts : List ActResult
  pub resume : Resume

-- a plan and its program, the number of the context, what each event (the first number) was answered by each binding (the second), and
-- what each suspension was answered
pub record Setting : Type 0 where
  pub plan : Plan
  pub program : Program
  pub context : ℕ
  pub drawn : ℕ → ℕ → Drawn
  pub answered : List Answered

-- what stands past the last one: no acts, and the run went on
abbrev pub went_on : Answered
went_on = record { answer = 0; acts = []; resume = Continue }

-- ---- reasons

-- a hit of the binding b, where what it was answered is a place at which it suspends the session
abbrev pub hit_by : Program → ℕ → Told → ℕ → BindingSpec → Drawn → Option Reason
hit_by p s t b spec (On place) =
    if is_of_session s spec && suspends_at spec place then Some (Hit b place (is_cannot (truth_for spec p t.scene))) else None
hit_by p s t b spec _ = None

-- the hits of these bindings, of which the first has the number b
abbrev pub hits_from : Setting → ℕ → Told → ℕ → List BindingSpec → List Reason
hits_from q s t b [] = []
hits_from q s t b (spec ∷ specs) = option_to_list (hit_by q.program s t b spec (q.drawn t.event.number b)) ++ hits_from q s t (suc b) specs

-- the last of these suspensions that is one of the session
abbrev pub last_of : ℕ → List Suspension → Option Suspension
last_of s [] = None
last_of s (x ∷ xs) = elim (last_of s xs) [
  | Some y ↦ Some y
  | None ↦ if x.session == s then Some x else None
]

-- the step that a suspension's answer left; there is a frame for each unit of depth
abbrev pub step_left : Suspension → Option Armed
step_left x = option_map (λ step. record { step = step; event = x.event; depth = length x.frames }) (step_of x.resume)

-- whether the step ends at the event, where there is a step; `past` are the events before it
abbrev pub is_over : Program → List Told → Event → Option Armed → Bool
is_over p past e None = false
is_over p past e (Some a) = ends_at p past a e

-- the step that the session's last suspension left, if it left one
abbrev pub step_in : ℕ → List Suspension → Option Armed
step_in s stops = elim (last_of s stops) [ None ↦ None | Some x ↦ step_left x ]

-- a reason, where the test holds
abbrev pub where_so : Bool → Reason → List Reason
where_so so reason = if so then reason ∷ [] else []

-- the reasons of a session at an event, after these events and suspensions: the hits of its breakpoints and pauses, by binding; the end of
-- its step; and a statement at which every session halts
abbrev pub reasons_at : Setting → List Told → List Suspension → Told → ℕ → List Reason
reasons_at q past stops t s =
    hits_from q s t 0 q.plan.bindings
    ++ where_so (is_over q.program past t.event (step_in s stops)) Step
    ++ where_so (is_enter t.event.kind && has_tag (node_at q.program t.event.node).tags AlwaysHalt) Halt

-- ---- what a suspension shows

abbrev pub anchor_of : EventKind → Anchor
anchor_of kinds.Enter = Before
anchor_of _ = After

abbrev pub variable_of : (List ℕ × Value) → Variable
variable_of v = record { name = v.0; value = v.1 }

-- frame i of the event, where 0 is the innermost, with the variables that it sees
abbrev pub view_of : Program → Scene → ℕ → FrameView
view_of p c i = record { root = unwrap_or (root_of (frame_of c.frames i)) 0; at = unwrap_or (at_of (frame_of c.frames i)) 0; variables = map variable_of (seen_by p c i) }

-- the frames of an event, the innermost first
abbrev pub views_of : Program → Scene → List FrameView
views_of p c = map (view_of p c) (range_with_len 0 (length c.frames))

-- the suspension of a session at an event for these reasons, with this number and what it was answered
abbrev pub suspension : Setting → Told → ℕ → ℕ → List Reason → Answered → Suspension
suspension q t s number reasons given = record {
  context = q.context;
  session = s;
  number = number;
  event = t.event.number;
  anchor = anchor_of t.event.kind;
  node = t.event.node;
  reasons = reasons;
  frames = views_of q.program t.scene;
  answer = given.answer;
  acts = given.acts;
  resume = given.resume;
}

-- ---- verdicts

-- the verdict of an answer, where it is one that changes the run
abbrev pub verdict_of : Resume → Option Verdict
verdict_of (Reenter k) = Some (verdicts.Reenter k)
verdict_of (Return k a) = Some (verdicts.Return k a)
verdict_of Kill = Some verdicts.Kill
verdict_of _ = None

abbrev pub is_verdict : Resume → Bool
is_verdict r = is_some (verdict_of r)

-- the verdicts of these suspensions, each with the number of its event
abbrev pub verdicts_of : List Suspension → Verdicts
verdicts_of stops = filter_map (λ x. option_map (λ v. (x.event, v)) (verdict_of x.resume)) stops

-- ---- all suspensions

-- what suspension number k was answered
abbrev pub answered_at : Setting → ℕ → Answered
answered_at q k = slice_index_or q.answered k went_on

-- the suspension of a session at an event for these reasons, where so many came before it
abbrev pub next_stop : Setting → Told → ℕ → ℕ → List Reason → Suspension
next_stop q t s number reasons = suspension q t s number reasons (answered_at q number)

-- the suspensions after those of these sessions, in order, at an event: a session without a reason isn't suspended; one with a reason is, and
-- after an answer with a verdict no later session is
abbrev pub stops_at : Setting → List Told → Told → List ℕ → List Suspension → List Suspension
stops_at q past t [] stops = stops
stops_at q past t (s ∷ ss) stops = elim (reasons_at q past stops t s) [
  | [] ↦ stops_at q past t ss stops
  | r ∷ rs ↦
      if is_verdict (next_stop q t s (length stops) (r ∷ rs)).resume
      then stops ++ next_stop q t s (length stops) (r ∷ rs) ∷ []
      else stops_at q past t ss (stops ++ next_stop q t s (length stops) (r ∷ rs) ∷ [])
]

-- the numbers of the sessions
abbrev pub sessions_of : Plan → List ℕ
sessions_of plan = range_with_len 0 (length plan.sessions)

-- the suspensions of a context after these events and suspensions
abbrev pub stops_after : Setting → List Told → List Suspension → List Told → List Suspension
stops_after q past stops [] = stops
stops_after q past stops (t ∷ ts) = stops_after q (past ++ t ∷ []) (stops_at q past t (sessions_of q.plan) stops) ts

-- the suspensions of a context with these events, by event and then by session
abbrev pub stops_of : Setting → List Told → List Suspension
stops_of q events = stops_after q [] [] events

-- what a suspension was answered
abbrev pub answered_to : Suspension → Answered
answered_to x = record { answer = x.answer; acts = x.acts; resume = x.resume }
